-- The listings of rows and the offsets of their headers, one row after the other.
use Rattle.std.proofs.Common.{◌≡◌, ℕ, ◌+◌, ◌<◌, ◌≤◌, Bool, true, cond, List, [], ◌∷◌, ◌++◌, length, map, get_or, take, drop, refl, sym, ap, ◌∙◌, append_assoc, append-nil, length-append, arith}
use Rattle.std.specs.List.{sum_by, flat_map}
use Rattle.std.proofs.lemmas.List.{drop_more, drop_all, take_at, drop_at}
use Rattle.std.proofs.lemmas.List.Sums.{sum_by-cons}
use Rattle.link_base.specs.Bytes.{number_bytes}
use Rattle.link_base.specs.NameText.{import_prefix}
use Rattle.implib.specs.declared.row.LibraryRow.{LibraryRow}
use Rattle.implib.specs.declared.listing.Listing.{Listing}
use Rattle.implib.specs.RowMember.{text_bytes, text_size}
use Rattle.implib.specs.Listings.{lists_symbol, names_of, row_names, joined_names, row_size, listed, listings_from, headers_from, listed_names, second_directory}
use Rattle.implib.proofs.SizeLemmas.{length-text_bytes}

-- ---- the row at an index, and those behind it

pub next_row : (rows : List LibraryRow) (i : ℕ) (row : LibraryRow) → i < length rows → row ≡ get_or rows i row → drop i rows ≡ row ∷ drop (i + 1) rows
next_row rows i row lt is = drop_more rows i row lt ∙ ap (λ (r : LibraryRow). r ∷ drop (i + 1) rows) (sym is)

pub size_left : (dll : List ℕ) (rows : List LibraryRow) (i size : ℕ) (row : LibraryRow) → i < length rows → row ≡ get_or rows i row → size ≡ row_size dll row → sum_by (row_size dll) (drop i rows) ≡ size + sum_by (row_size dll) (drop (i + 1) rows)
size_left dll rows i size row lt is is_size =
    let more = ap (sum_by (row_size dll)) (next_row rows i row lt is) ∙ sum_by-cons (row_size dll) row (drop (i + 1) rows) in
    omega (arith, more, is_size)

-- ---- the offsets of headers

pub headers_written : (dll : List ℕ) (rows : List LibraryRow) (i header size : ℕ) (row : LibraryRow) (out new all : List ℕ)
    → i < length rows → row ≡ get_or rows i row → size ≡ row_size dll row → new ≡ out ++ number_bytes 4 header
    → out ++ flat_map (number_bytes 4) (headers_from dll header (drop i rows)) ≡ all → new ++ flat_map (number_bytes 4) (headers_from dll (header + size) (drop (i + 1) rows)) ≡ all
unfolding headers_from
headers_written dll rows i header size row out new all lt is is_size grown was =
    let rest : List ℕ = flat_map (number_bytes 4) (headers_from dll (header + row_size dll row) (drop (i + 1) rows)) in
    ap (λ (n : ℕ). new ++ flat_map (number_bytes 4) (headers_from dll (header + n) (drop (i + 1) rows))) is_size
    ∙ ap (λ (xs : List ℕ). xs ++ rest) grown
    ∙ append_assoc out (number_bytes 4 header) rest
    ∙ ap (λ (left : List LibraryRow). out ++ flat_map (number_bytes 4) (headers_from dll header left)) (sym (next_row rows i row lt is))
    ∙ was

pub headers_all : (dll : List ℕ) (rows : List LibraryRow) (i header : ℕ) (out all : List ℕ) → length rows ≤ i → out ++ flat_map (number_bytes 4) (headers_from dll header (drop i rows)) ≡ all → out ≡ all
unfolding headers_from
headers_all dll rows i header out all le was =
    sym (append-nil out) ∙ ap (λ (left : List LibraryRow). out ++ flat_map (number_bytes 4) (headers_from dll header left)) (sym (drop_all i rows le)) ∙ was

pub second_written : (headers : List ℕ) (listings : List Listing) (count : ℕ) (out a b c d e : List ℕ) → count ≡ length headers → a ≡ out ++ number_bytes 4 count → b ≡ a ++ flat_map (number_bytes 4) headers → c ≡ b ++ number_bytes 4 (length listings)
    → d ≡ c ++ flat_map (λ (listing : Listing). number_bytes 2 listing.member) listings → e ≡ d ++ listed_names listings → e ≡ out ++ second_directory headers listings
unfolding second_directory
second_written headers listings count out a b c d e counted first second third fourth last =
    rw (last, fourth, third, second, first, counted) (simp append_assoc)

-- ---- the names of rows

pub length-row_names : (row : LibraryRow) → length (row_names row) ≡ sum_by text_size (names_of row)
length-row_names row = go (names_of row)
  where
    go : (names : List (List ℕ)) → length (flat_map text_bytes names) ≡ sum_by text_size names
    go [] = refl
    go (name ∷ names) = omega (arith, length-append (text_bytes name) (flat_map text_bytes names), length-text_bytes name, go names, sum_by-cons text_size name names)

pub names_left : (rows : List LibraryRow) (i : ℕ) (row : LibraryRow) (rest : List ℕ) → i < length rows → row ≡ get_or rows i row → rest ≡ joined_names (drop i rows) → drop (sum_by text_size (names_of row)) rest ≡ joined_names (drop (i + 1) rows)
names_left rows i row rest lt is left =
    ap (drop (sum_by text_size (names_of row))) (left ∙ ap joined_names (next_row rows i row lt is))
    ∙ drop_at (row_names row) (joined_names (drop (i + 1) rows)) (sum_by text_size (names_of row)) (length-row_names row)

pub names_first : (rows : List LibraryRow) (i : ℕ) (row : LibraryRow) (rest : List ℕ) → i < length rows → row ≡ get_or rows i row → rest ≡ joined_names (drop i rows) → rest ≡ row_names row ++ drop (sum_by text_size (names_of row)) rest
names_first rows i row rest lt is left =
    left ∙ ap joined_names (next_row rows i row lt is) ∙ ap (λ (xs : List ℕ). row_names row ++ xs) (sym (names_left rows i row rest lt is left))

-- ---- the listings of a row

slot_text : (row : LibraryRow) (names rest : List ℕ) (len : ℕ) → names ≡ row_names row ++ rest → len ≡ 6 + length row.symbol → take len names ≡ import_prefix ++ row.symbol
slot_text row names rest len is size =
    let slot : List ℕ = import_prefix ++ row.symbol in
    let behind : List ℕ = flat_map text_bytes (cond (lists_symbol row.kind) (row.symbol ∷ []) []) in
    let long : length slot ≡ len = omega (arith, length-append import_prefix row.symbol, size) in
    ap (take len) (is ∙ append_assoc (slot ++ 0 ∷ []) behind rest ∙ append_assoc slot (0 ∷ []) (behind ++ rest)) ∙ take_at slot (0 ∷ [] ++ (behind ++ rest)) len long

symbol_text : (row : LibraryRow) (names rest : List ℕ) (len : ℕ) → names ≡ row_names row ++ rest → lists_symbol row.kind ≡ true → len ≡ 6 + length row.symbol → take (length row.symbol) (drop (len + 1) names) ≡ row.symbol
symbol_text row names rest len is lists size =
    let slot : List ℕ = (import_prefix ++ row.symbol) ++ 0 ∷ [] in
    let long : length slot ≡ len + 1 = omega (arith, length-append import_prefix row.symbol, length-append (import_prefix ++ row.symbol) (0 ∷ []), size) in
    ap (λ (xs : List ℕ). take (length row.symbol) (drop (len + 1) xs)) (is ∙ ap (λ (b : Bool). (slot ++ flat_map text_bytes (cond b (row.symbol ∷ []) [])) ++ rest) lists ∙ append_assoc slot (text_bytes row.symbol ++ []) rest)
    ∙ ap (take (length row.symbol)) (drop_at slot ((text_bytes row.symbol ++ []) ++ rest) (len + 1) long ∙ append_assoc (text_bytes row.symbol) [] rest ∙ append_assoc row.symbol (0 ∷ []) rest)
    ∙ take_at row.symbol (0 ∷ [] ++ rest) (length row.symbol) refl

pub both_listed : (row : LibraryRow) (names rest slot behind symbol : List ℕ) (len size number header : ℕ) (found one new : List Listing) → names ≡ row_names row ++ rest → lists_symbol row.kind ≡ true → len ≡ 6 + length row.symbol → size ≡ length row.symbol → slot ≡ take len names → behind ≡ drop (len + 1) names
    → symbol ≡ take size behind → one ≡ found ++ listed number header slot ∷ [] → new ≡ one ++ listed number header symbol ∷ [] → new ≡ found ++ map (listed number header) (names_of row)
both_listed row names rest slot behind symbol len size number header found one new is lists long same text after bare first second =
    second
    ∙ ap (λ (listings : List Listing). listings ++ listed number header symbol ∷ []) first
    ∙ append_assoc found (listed number header slot ∷ []) (listed number header symbol ∷ [])
    ∙ ap (λ (name : List ℕ). found ++ listed number header name ∷ listed number header symbol ∷ []) (text ∙ slot_text row names rest len is long)
    ∙ ap (λ (name : List ℕ). found ++ listed number header (import_prefix ++ row.symbol) ∷ listed number header name ∷ []) (bare ∙ ap (take size) after ∙ ap (λ (n : ℕ). take n (drop (len + 1) names)) same ∙ symbol_text row names rest len is lists long)
    ∙ ap (λ (b : Bool). found ++ map (listed number header) ((import_prefix ++ row.symbol) ∷ cond b (row.symbol ∷ []) [])) (sym lists)

-- ---- the listings of rows

pub listings_made : (dll : List ℕ) (rows : List LibraryRow) (i number header size : ℕ) (row : LibraryRow) (found new all : List Listing) → i < length rows → row ≡ get_or rows i row → size ≡ row_size dll row
    → new ≡ found ++ map (listed number header) (names_of row) → found ++ listings_from dll number header (drop i rows) ≡ all → new ++ listings_from dll (number + 1) (header + size) (drop (i + 1) rows) ≡ all
unfolding listings_from
listings_made dll rows i number header size row found new all lt is is_size grown was =
    let rest : List Listing = listings_from dll (number + 1) (header + row_size dll row) (drop (i + 1) rows) in
    ap (λ (n : ℕ). new ++ listings_from dll (number + 1) (header + n) (drop (i + 1) rows)) is_size
    ∙ ap (λ (xs : List Listing). xs ++ rest) grown
    ∙ append_assoc found (map (listed number header) (names_of row)) rest
    ∙ ap (λ (left : List LibraryRow). found ++ listings_from dll number header left) (sym (next_row rows i row lt is))
    ∙ was

pub listings_all : (dll : List ℕ) (rows : List LibraryRow) (i number header : ℕ) (found all : List Listing) → length rows ≤ i → found ++ listings_from dll number header (drop i rows) ≡ all → found ≡ all
unfolding listings_from
listings_all dll rows i number header found all le was =
    sym (append-nil found) ∙ ap (λ (left : List LibraryRow). found ++ listings_from dll number header left) (sym (drop_all i rows le)) ∙ was
