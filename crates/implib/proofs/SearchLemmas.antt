-- The first listing of a name: in the order of names it is that of the first row that lists the name.
use Rattle.std.proofs.Common.{◌≡◌, ℕ, suc, ◌+◌, ◌<◌, ◌≤◌, Bool, true, false, ◌||◌, cond, List, [], ◌∷◌, ◌++◌, length, map, take, Option, Some, None, option_map, refl, sym, ap, ◌∙◌, inl, inr, lt-ltb, le-ltb, arith}
use Rattle.std.specs.Prelude.{nat_eq}
use lib.Pointwise.{pointwise}
use Rattle.std.specs.List.{All, list_any, sum_by, position, position_or_len}
use Rattle.std.specs.Ordering.{is_lt, nat_cmp, ordering_then, MatchOrdering}
use Rattle.std.specs.Cmp.{ranks}
use Rattle.std.specs.Cmp.Lexicographic.{slice_cmp}
use Rattle.std.specs.declared.cmp.Ordering.{Ordering}
use Rattle.std.specs.declared.cmp.Ordering.TheVariants.{Less, Equal, Greater}
use Rattle.std.proofs.lemmas.Bool.{false≢true, cases_lt, eqb-true, and_parts}
use Rattle.std.proofs.lemmas.List.Elements.{All-nil, All-cons}
use Rattle.std.proofs.lemmas.List.Sorted.{All-permutation}
use Rattle.std.proofs.lemmas.List.Sums.{sum_by-cons}
use Rattle.link_base.specs.NameText.{import_prefix, same_name}
use Rattle.sorted_lists.specs.Order.{inserted, in_order}
use Rattle.sorted_lists.proofs.CallerLemmas.{order_permutes}
use Rattle.lib_reader.specs.Listing.{Entry, first_of_name}
use Rattle.implib.specs.declared.row.LibraryRow.{LibraryRow}
use Rattle.implib.specs.declared.listing.Listing.{Listing}
use Rattle.implib.specs.Listings.{lists_symbol, row_size, listed, listings_from, listing_cmp, by_name}
use Rattle.implib.specs.ImportLibrary.{rows_place, header_of, listings_of}
use Rattle.implib.specs.ReadBack.{lists, first_header}

-- ---- listings as they are read

abbrev pub entry : Listing → Entry
entry listing = (listing.name, listing.header)

-- ---- names that are the same

pub same_text : (xs ys : List ℕ) → pointwise nat_eq xs ys ≡ true → xs ≡ ys
same_text [] [] e = refl
same_text [] (y ∷ ys) e = absurd (false≢true e)
same_text (x ∷ xs) [] e = absurd (false≢true e)
same_text (x ∷ xs) (y ∷ ys) e =
    let both = and_parts (nat_eq x y) (pointwise nat_eq xs ys) e in
    ap (λ (z : ℕ). z ∷ xs) (eqb-true x y both.0) ∙ ap (λ (zs : List ℕ). y ∷ zs) (same_text xs ys both.1)

-- ---- what does not come before

number_behind : (x y : ℕ) → y ≤ x → is_lt (nat_cmp x y) ≡ false
number_behind x y le = go (nat_cmp x y) (ranks x y)
  where
    go : (r : Ordering) → MatchOrdering r (x < y) (x ≡ y) (y < x) → is_lt r ≡ false
    go Less lt = absurd (omega (arith, lt, le))
    go Equal e = refl
    go Greater lt = refl

then_behind : (r s : Ordering) → is_lt r ≡ false → is_lt s ≡ false → is_lt (ordering_then r s) ≡ false
then_behind Less s first second = first
then_behind Equal s first second = second
then_behind Greater s first second = refl

text_behind : (xs : List ℕ) → is_lt (slice_cmp nat_cmp xs xs) ≡ false
text_behind [] = refl
text_behind (x ∷ xs) = then_behind (nat_cmp x x) (slice_cmp nat_cmp xs xs) (number_behind x x (omega arith)) (text_behind xs)

-- a listing is of the same row as another, or of a later one
pub record IsBehind (x y : Listing) : Type 0 where
  pub member : x.member ≤ y.member
  pub header : x.header ≤ y.header

listing_behind : (x y : Listing) → IsBehind x y → x.name ≡ y.name → is_lt (listing_cmp y x) ≡ false
listing_behind x y is same =
    then_behind (slice_cmp nat_cmp y.name x.name) (ordering_then (nat_cmp y.member x.member) (nat_cmp y.header x.header))
    (ap (λ (name : List ℕ). is_lt (slice_cmp nat_cmp y.name name)) same ∙ text_behind y.name)
    (then_behind (nat_cmp y.member x.member) (nat_cmp y.header x.header) (number_behind y.member x.member is.member) (number_behind y.header x.header is.header))

-- ---- the first of a name in order

swapped : {A : Type 0} (p q : Bool) (a b c : A) → (p ≡ true → q ≡ true → ⊥) → cond p a (cond q b c) ≡ cond q b (cond p a c)
swapped true true a b c never = absurd (never refl refl)
swapped true false a b c never = refl
swapped false true a b c never = refl
swapped false false a b c never = refl

first_inserted : (name : List ℕ) (x : Listing) (ys : List Listing) → All (IsBehind x) ys → first_of_name name (map entry (inserted listing_cmp x ys)) ≡ first_of_name name (map entry (x ∷ ys))
unfolding inserted first_of_name
first_inserted name x [] behind = refl
first_inserted name x (y ∷ ys) behind = go (is_lt (listing_cmp y x)) refl (first_inserted name x ys (λ k d lt. behind (suc k) d (omega (arith, lt))))
  where
    never : is_lt (listing_cmp y x) ≡ true → pointwise nat_eq y.name name ≡ true → pointwise nat_eq x.name name ≡ true → ⊥
    never lt left right =
        false≢true (sym (listing_behind x y (behind 0 y (omega arith)) (same_text x.name name right ∙ sym (same_text y.name name left))) ∙ lt)

    go : (b : Bool) → is_lt (listing_cmp y x) ≡ b → first_of_name name (map entry (inserted listing_cmp x ys)) ≡ first_of_name name (map entry (x ∷ ys)) → first_of_name name (map entry (cond b (y ∷ inserted listing_cmp x ys) (x ∷ y ∷ ys))) ≡ first_of_name name (map entry (x ∷ y ∷ ys))
    go false e rest = refl
    go true e rest =
        ap (cond (pointwise nat_eq y.name name) (Some y.header)) rest
        ∙ swapped (pointwise nat_eq y.name name) (pointwise nat_eq x.name name) (Some y.header) (Some x.header) (first_of_name name (map entry ys)) (never e)

-- each listing is followed by those of its row and of later ones
abbrev pub AreBehind : List Listing → Type 0
AreBehind [] = Unit {0}
AreBehind (x ∷ xs) = All (IsBehind x) xs × AreBehind xs

pub first_in_order : (name : List ℕ) (xs : List Listing) → AreBehind xs → first_of_name name (map entry (by_name xs)) ≡ first_of_name name (map entry xs)
unfolding in_order first_of_name
first_in_order name [] behind = refl
first_in_order name (x ∷ xs) behind =
    first_inserted name x (in_order listing_cmp xs) (All-permutation (IsBehind x) xs (in_order listing_cmp xs) (order_permutes listing_cmp xs) behind.0)
    ∙ ap (cond (pointwise nat_eq x.name name) (Some x.header)) (first_in_order name xs behind.1)

-- ---- the listings of rows

pub record IsFrom (number header : ℕ) (listing : Listing) : Type 0 where
  pub member_from : number ≤ listing.member
  pub header_from : header ≤ listing.header

pub from_rows : (dll : List ℕ) (number header number' header' : ℕ) (rows : List LibraryRow) → number ≤ number' → header ≤ header' → All (IsFrom number header) (listings_from dll number' header' rows)
unfolding listings_from
from_rows dll number header number' header' [] low below = All-nil (IsFrom number header)
from_rows dll number header number' header' (row ∷ rows) low below =
    go (lists_symbol row.kind) (from_rows dll number header (number' + 1) (header' + row_size dll row) rows (omega (arith, low)) (omega (arith, below)))
  where
    left : List Listing
    left = listings_from dll (number' + 1) (header' + row_size dll row) rows

    here : (name : List ℕ) → IsFrom number header (listed number' header' name)
    here name = record { member_from = low; header_from = below }

    go : (b : Bool) → All (IsFrom number header) left → All (IsFrom number header) (map (listed number' header') ((import_prefix ++ row.symbol) ∷ cond b (row.symbol ∷ []) []) ++ left)
    go true later = All-cons (IsFrom number header) (listed number' header' (import_prefix ++ row.symbol)) (listed number' header' row.symbol ∷ left) (here (import_prefix ++ row.symbol)) (All-cons (IsFrom number header) (listed number' header' row.symbol) left (here row.symbol) later)
    go false later = All-cons (IsFrom number header) (listed number' header' (import_prefix ++ row.symbol)) left (here (import_prefix ++ row.symbol)) later

pub rows_behind : (dll : List ℕ) (number header : ℕ) (rows : List LibraryRow) → AreBehind (listings_from dll number header rows)
unfolding listings_from
rows_behind dll number header [] = tt
rows_behind dll number header (row ∷ rows) = go (lists_symbol row.kind) (rows_behind dll (number + 1) (header + row_size dll row) rows)
  where
    left : List Listing
    left = listings_from dll (number + 1) (header + row_size dll row) rows

    later : (name : List ℕ) → All (IsBehind (listed number header name)) left
    later name = λ k d lt.
        let from = from_rows dll number header (number + 1) (header + row_size dll row) rows (omega arith) (omega arith) k d lt in
        record { member = from.member_from; header = from.header_from }

    level : (name other : List ℕ) → IsBehind (listed number header name) (listed number header other)
    level name other = record { member = omega arith; header = omega arith }

    go : (b : Bool) → AreBehind left → AreBehind (map (listed number header) ((import_prefix ++ row.symbol) ∷ cond b (row.symbol ∷ []) []) ++ left)
    go true rest = (All-cons (IsBehind (listed number header (import_prefix ++ row.symbol))) (listed number header row.symbol) left (level (import_prefix ++ row.symbol) row.symbol) (later (import_prefix ++ row.symbol)), (later row.symbol, rest))
    go false rest = (later (import_prefix ++ row.symbol), rest)

-- ---- the first row

pub position-cons : {X : Type 0} (p : X → Bool) (x : X) (xs : List X) → position p (x ∷ xs) ≡ cond (p x) (Some 0) (option_map suc (position p xs))
position-cons {X} p x xs = go (p x) refl
  where
    go : (b : Bool) → p x ≡ b → position p (x ∷ xs) ≡ cond b (Some 0) (option_map suc (position p xs))
    go true e = let some : 0 < suc (length xs) = omega arith in rw (e, lt-ltb _ _ some) refl
    go false e =
        elim (cases_lt (position_or_len p xs) (length xs)) [
          | inl lt ↦
              let more : suc (position_or_len p xs) < suc (length xs) = omega (arith, lt) in
              let one : 1 + position_or_len p xs ≡ suc (position_or_len p xs) = omega arith in
              rw (e, one, lt-ltb _ _ lt, lt-ltb _ _ more) refl
          | inr le ↦
              let more : suc (length xs) ≤ suc (position_or_len p xs) = omega (arith, le) in
              let one : 1 + position_or_len p xs ≡ suc (position_or_len p xs) = omega arith in
              rw (e, one, le-ltb _ _ le, le-ltb _ _ more) refl
        ]

either : {A : Type 0} (p q : Bool) (a : A) (c : A) → cond p a (cond q a c) ≡ cond (p || (q || false)) a c
either true q a c = refl
either false true a c = refl
either false false a c = refl

alone : {A : Type 0} (p : Bool) (a : A) (c : A) → cond p a c ≡ cond (p || false) a c
alone true a c = refl
alone false a c = refl

shifted : (dll : List ℕ) (row : LibraryRow) (rows : List LibraryRow) (header : ℕ) (o : Option ℕ) → option_map (λ (i : ℕ). header + row_size dll row + sum_by (row_size dll) (take i rows)) o ≡ option_map (λ (i : ℕ). header + sum_by (row_size dll) (take i (row ∷ rows))) (option_map suc o)
shifted dll row rows header None = refl
shifted dll row rows header (Some i) =
    let more = sum_by-cons (row_size dll) row (take i rows) in
    let same : header + row_size dll row + sum_by (row_size dll) (take i rows) ≡ header + sum_by (row_size dll) (row ∷ take i rows) = omega (arith, more) in
    ap Some same

pub first_of_rows : (name dll : List ℕ) (number header : ℕ) (rows : List LibraryRow) → first_of_name name (map entry (listings_from dll number header rows)) ≡ option_map (λ (i : ℕ). header + sum_by (row_size dll) (take i rows)) (position (lists name) rows)
unfolding listings_from first_of_name
first_of_rows name dll number header [] = refl
first_of_rows name dll number header (row ∷ rows) =
    listed_first (lists_symbol row.kind)
    ∙ ap (cond (lists name row) (Some header)) (first_of_rows name dll (number + 1) (header + row_size dll row) rows ∙ shifted dll row rows header (position (lists name) rows))
    ∙ chosen (lists name row) (position (lists name) rows)
    ∙ ap (option_map (λ (i : ℕ). header + sum_by (row_size dll) (take i (row ∷ rows)))) (sym (position-cons (lists name) row rows))
  where
    listed_first : (b : Bool)
        → first_of_name name (map entry (map (listed number header) ((import_prefix ++ row.symbol) ∷ cond b (row.symbol ∷ []) []) ++ listings_from dll (number + 1) (header + row_size dll row) rows))
        ≡ cond (list_any (λ (listed : List ℕ). same_name listed name) ((import_prefix ++ row.symbol) ∷ cond b (row.symbol ∷ []) [])) (Some header) (first_of_name name (map entry (listings_from dll (number + 1) (header + row_size dll row) rows)))
    listed_first true = either (same_name (import_prefix ++ row.symbol) name) (same_name row.symbol name) (Some header) (first_of_name name (map entry (listings_from dll (number + 1) (header + row_size dll row) rows)))
    listed_first false = alone (same_name (import_prefix ++ row.symbol) name) (Some header) (first_of_name name (map entry (listings_from dll (number + 1) (header + row_size dll row) rows)))

    chosen : (b : Bool) (o : Option ℕ) → cond b (Some header) (option_map (λ (i : ℕ). header + sum_by (row_size dll) (take i (row ∷ rows))) (option_map suc o)) ≡ option_map (λ (i : ℕ). header + sum_by (row_size dll) (take i (row ∷ rows))) (cond b (Some 0) (option_map suc o))
    chosen true o = ap Some (omega arith)
    chosen false o = refl

-- ---- the search

pub search_gives : (rows : List LibraryRow) (dll name : List ℕ) → first_of_name name (map entry (by_name (listings_of rows dll))) ≡ first_header rows dll name
unfolding header_of
search_gives rows dll name =
    first_in_order name (listings_of rows dll) (rows_behind dll 1 (rows_place rows dll) rows) ∙ first_of_rows name dll 1 (rows_place rows dll) rows
