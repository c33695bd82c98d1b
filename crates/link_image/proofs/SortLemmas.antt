-- The rows of the exception table put in order, in the file of an image.
use Rattle.std.proofs.Common.{◌≡◌, ℕ, zero, suc, ◌+◌, ◌%◌, ◌<◌, ◌≤◌, true, eqb, List, [], ◌∷◌, ◌++◌, length, take, drop, get_or, set, inl, inr, refl, sym, ap, ◌∙◌, subst, eq-eqb, length-append, length-set, arith}
use Rattle.std.specs.List.{All, flat_map, sum_by}
use Rattle.std.proofs.lemmas.Bool.{cases_lt, cases_eq, or_right}
use Rattle.std.proofs.lemmas.List.{get_or_append_left, get_or-append_right, get_or-set_same, get_or-set_other, length-take-le, length-drop, append-nil, take_all}
use Rattle.std.proofs.lemmas.List.Elements.{All-nil, All-cons}
use Rattle.std.proofs.lemmas.List.Sums.{sum_by-cons}
use Rattle.link_base.specs.Bytes.{bytes_at}
use Rattle.section_group.specs.declared.piece.Piece.{Piece}
use Rattle.section_group.specs.declared.piece.OutSection.{OutSection}
use Rattle.address_layout.specs.declared.layout.Layout.{Layout}
use Rattle.address_layout.specs.Layout.{placed_at}
use Rattle.address_layout.specs.Places.{row_at}
use Rattle.image_writer.specs.declared.headers.Headers.{Headers}
use Rattle.image_writer.specs.WrittenImage.{at_each_base, HaveRoom}
use Rattle.image_writer.specs.PieceInFile.{piece_at, piece_place, patched, DiffersAt}
use Rattle.image_writer.proofs.CallerLemmas.{piece_inside, piece_stands, patched_file}
use Rattle.pdata_table.specs.Rows.{HasWholeRows}
use Rattle.pdata_table.specs.SortedContents.{len_of, joined, is_among}
use Rattle.pdata_table.proofs.PartLemmas.{dealt}
use Rattle.relocate.specs.declared.fix.Fix.{Fix}
use Rattle.link_pieces.specs.TablePieces.{KeptParts, whole_pieces}
use Rattle.link_image.specs.LinkedBytes.{contents_at, placed_contents}
use Rattle.piece_bytes.specs.PieceBytes.{LiesIn, bytes_of_piece, size_at, written}
use Rattle.piece_bytes.proofs.CallerLemmas.{drop_end}
use Rattle.link_image.specs.Steps.{IsReady, file_of}
use Rattle.link_image.proofs.HeldLemmas.{have_room_for, length-placed, placed_read, placed_held}
use Rattle.link_image.proofs.FieldLemmas.{total_is, rva_here}

-- ---- the rest of a list from a place on

pub record IsFrom (xs : List ℕ) (j k : ℕ) (rest : List ℕ) : Type 0 where
  pub there : j < length xs
  pub is : get_or xs j 0 ≡ k
  pub after : rest ≡ drop (suc j) xs

pub from_here : (xs : List ℕ) (j k : ℕ) (rest : List ℕ) → k ∷ rest ≡ drop j xs → IsFrom xs j k rest
from_here [] zero k rest e = absurd cc
from_here [] (suc j) k rest e = absurd cc
from_here (x ∷ xs) zero k rest e = record { there = omega arith; is = cc; after = cc }
from_here (x ∷ xs) (suc j) k rest e =
    let later = from_here xs j k rest e in
    record { there = omega (arith, later.there); is = later.is; after = later.after }

-- a list that is written over a whole list of its length is what stands there
pub written_back : (n : ℕ) (new old : List ℕ) → n ≡ length old → length new ≡ length old → take n (new ++ drop (length new) old) ≡ new
written_back n new old is same =
    ap (λ (rest : List ℕ). take n (new ++ rest)) (drop_end old (length new) (omega (arith, same)))
    ∙ ap (take n) (append-nil new)
    ∙ take_all n new (omega (arith, is, same))

-- ---- whole rows, one after another

whole_sum : (a b : ℕ) → a % 12 ≡ 0 → b % 12 ≡ 0 → (a + b) % 12 ≡ 0
whole_sum a b first second = omega (arith, first, second)

pub joined_whole : (contents : List (List ℕ)) (pieces : List ℕ) → ((k : ℕ) → is_among k pieces ≡ true → len_of contents k % 12 ≡ 0) → HasWholeRows (joined contents pieces)
joined_whole contents [] each = refl
joined_whole contents (p ∷ ps) each =
    ap (λ (n : ℕ). n % 12) (length-append (get_or contents p []) (joined contents ps))
    ∙ whole_sum (len_of contents p) (length (joined contents ps)) (each p (rw (eq-eqb p p refl) refl)) (joined_whole contents ps (λ k there. each k (or_right (eqb p k) (is_among k ps) there)))

module _ (link : KeptParts) (pieces : List Piece) (fixups : List (List Fix)) (sections : List OutSection) (layout : Layout) (owner : List ℕ) (tables : List (List ℕ)) (ready : IsReady link pieces fixups sections layout owner tables) (headers : Headers) (directories : length headers.directories ≡ 16) where
  abbrev file : List (List ℕ) → List ℕ
  file contents = file_of headers sections layout contents tables

  -- contents as long as those that were placed
  pub record AreLike (contents : List (List ℕ)) : Type 0 where
    pub count : length contents ≡ length (whole_pieces link)
    pub long : (k : ℕ) → k < length (whole_pieces link) → length (get_or contents k []) ≡ length (contents_at link layout k)

  -- a piece that is as long as its size says
  abbrev pub IsSized : ℕ → Type 0
  IsSized k = (k < length pieces) × (length (contents_at link layout k) ≡ size_at pieces k)

  count_is : length pieces ≡ length (whole_pieces link)
  count_is = total_is link pieces fixups sections layout owner tables ready

  room : (contents : List (List ℕ)) → AreLike contents → HaveRoom (pieces ++ ready.rest) sections (contents ++ tables)
  room contents like =
      have_room_for pieces ready.rest sections (placed_contents link layout) tables (contents ++ tables) (length-placed link layout ∙ sym count_is) (placed_held link layout pieces count_is ready.held) ready.holds ready.laid.within (λ k.
      let placed = length-placed link layout in
      elim (cases_lt k (length (whole_pieces link))) [
        | inl below ↦
            ap (λ (bytes : List ℕ). length bytes) (get_or_append_left contents tables [] k (omega (arith, below, like.count)))
            ∙ like.long k below
            ∙ sym (ap (λ (bytes : List ℕ). length bytes) (placed_read link layout k below))
            ∙ sym (ap (λ (bytes : List ℕ). length bytes) (get_or_append_left (placed_contents link layout) tables [] k (omega (arith, below, placed))))
        | inr past ↦
            ap (λ (bytes : List ℕ). length bytes) (get_or-append_right contents tables (length (whole_pieces link)) k [] like.count past)
            ∙ sym (ap (λ (bytes : List ℕ). length bytes) (get_or-append_right (placed_contents link layout) tables (length (whole_pieces link)) k [] placed past))
      ])

  front : (contents : List (List ℕ)) (k : ℕ) → k < length contents → get_or (contents ++ tables) k [] ≡ get_or contents k []
  front contents k lt = get_or_append_left contents tables [] k lt

  module _ (i : ℕ) (there : i < length sections) where
    abbrev row : List ℕ
    row = (row_at sections i).1

    -- what a piece of the section holds in the file
    pub read_at : (contents : List (List ℕ)) (j k : ℕ) → AreLike contents → j < length row → get_or row j 0 ≡ k → IsSized k → bytes_of_piece layout pieces i (file contents) k ≡ get_or contents k []
    read_at contents j k like within is sized =
        let lt : k < length contents = omega (arith, sized.0, count_is, like.count) in
        let at : piece_at sections i j ≡ k = is in
        let stands = piece_stands headers (pieces ++ ready.rest) sections layout (at_each_base (contents ++ tables)) i j ready.laid (room contents like) directories there within in
        let here = subst (λ (n : ℕ). bytes_at (file contents) (piece_place layout i n) (length (get_or (contents ++ tables) n [])) ≡ get_or (contents ++ tables) n []) at stands in
        let read = subst (λ (bytes : List ℕ). bytes_at (file contents) (piece_place layout i k) (length bytes) ≡ bytes) (front contents k lt) here in
        ap (bytes_at (file contents) (piece_place layout i k)) (sym (like.long k (omega (arith, sized.0, count_is)) ∙ sized.1)) ∙ read

    pub lies_at : (contents : List (List ℕ)) (j k : ℕ) → AreLike contents → j < length row → get_or row j 0 ≡ k → IsSized k → LiesIn layout pieces i (length (file contents)) k
    lies_at contents j k like within is sized =
        record {
          there = sized.0;
          placed = rva_here link pieces fixups sections layout owner tables ready k sized.0;
          above = λ some. (stands some).0;
          inside = λ some. (stands some).1;
        }
      where
        len_is : length (get_or (contents ++ tables) k []) ≡ size_at pieces k
        len_is =
            ap (λ (bytes : List ℕ). length bytes) (get_or_append_left contents tables [] k (omega (arith, sized.0, total_is link pieces fixups sections layout owner tables ready, like.count)))
            ∙ like.long k (omega (arith, sized.0, total_is link pieces fixups sections layout owner tables ready)) ∙ sized.1

        stands : 0 < size_at pieces k → ((placed_at layout.sections.items i).rva ≤ get_or layout.pieces.items k 0) × (piece_place layout i k + size_at pieces k ≤ length (file_of headers sections layout contents tables))
        stands some =
            let found = piece_inside headers (pieces ++ ready.rest) sections layout (at_each_base (contents ++ tables)) i j ready.laid (room contents like) directories there within (subst (λ (n : ℕ). 0 < length (get_or (contents ++ tables) n [])) (sym is) (omega (arith, some, len_is))) in
            (subst (λ (n : ℕ). (placed_at layout.sections.items i).rva ≤ get_or layout.pieces.items n 0) is found.lies.above, subst (λ (n : ℕ). piece_place layout i k + n ≤ length (file_of headers sections layout contents tables)) len_is (subst (λ (n : ℕ). piece_place layout i n + length (get_or (contents ++ tables) n []) ≤ length (file_of headers sections layout contents tables)) is found.inside))

    differs : (contents : List (List ℕ)) (k : ℕ) (part : List ℕ) → k < length contents → length part ≡ length (get_or contents k []) → DiffersAt k (contents ++ tables) (set contents k part ++ tables)
    differs contents k part lt len = record {
      same_length =
          ap (λ (bytes : List ℕ). length bytes) (get_or_append_left (set contents k part) tables [] k (omega (arith, lt, length-set contents k part)) ∙ get_or-set_same contents k part [] lt)
          ∙ len ∙ sym (ap (λ (bytes : List ℕ). length bytes) (front contents k lt));
      others = λ other apart.
          elim (cases_lt other (length contents)) [
            | inl below ↦
                get_or_append_left (set contents k part) tables [] other (omega (arith, below, length-set contents k part))
                ∙ get_or-set_other contents k other part [] apart
                ∙ sym (front contents other below)
            | inr past ↦
                get_or-append_right (set contents k part) tables (length contents) other [] (length-set contents k part) past
                ∙ sym (get_or-append_right contents tables (length contents) other [] refl past)
          ];
    }

    pub put_at : (contents : List (List ℕ)) (j k : ℕ) (part : List ℕ) → AreLike contents → j < length row → get_or row j 0 ≡ k → k < length pieces → length part ≡ length (get_or contents k []) → patched (piece_place layout i k) part (file contents) ≡ file (set contents k part)
    put_at contents j k part like within is lt len =
        let inside : k < length contents = omega (arith, lt, count_is, like.count) in
        let new = set contents k part in
        let whole = patched_file headers (pieces ++ ready.rest) sections layout (at_each_base (contents ++ tables)) (at_each_base (new ++ tables)) i j ready.laid (room contents like) directories there within (subst (λ (n : ℕ). DiffersAt n (contents ++ tables) (new ++ tables)) (sym is) (differs contents k part inside len)) in
        let here = subst (λ (n : ℕ). patched (piece_place layout i n) (get_or (new ++ tables) n []) (file contents) ≡ file new) is whole in
        subst (λ (bytes : List ℕ). patched (piece_place layout i k) bytes (file contents) ≡ file new)
        (get_or_append_left new tables [] k (omega (arith, inside, length-set contents k part)) ∙ get_or-set_same contents k part [] inside) here

    pub like_after : (contents : List (List ℕ)) (k : ℕ) (part : List ℕ) → AreLike contents → length part ≡ length (get_or contents k []) → k < length contents → AreLike (set contents k part)
    like_after contents k part like len lt = record {
      count = length-set contents k part ∙ like.count;
      long = λ other within.
          elim (cases_eq other k) [
            | inl here ↦
                ap (λ (n : ℕ). length (get_or (set contents k part) n [])) here
                ∙ ap (λ (bytes : List ℕ). length bytes) (get_or-set_same contents k part [] lt)
                ∙ len
                ∙ like.long k (omega (arith, lt, like.count))
                ∙ sym (ap (λ (n : ℕ). length (contents_at link layout n)) here)
            | inr apart ↦ ap (λ (bytes : List ℕ). length bytes) (get_or-set_other contents k other part [] apart) ∙ like.long other within
          ];
    }

    -- ---- all of its pieces

    pub lie_all : (contents : List (List ℕ)) → AreLike contents → (j : ℕ) (members : List ℕ) → members ≡ drop j row → ((k : ℕ) → is_among k members ≡ true → IsSized k) → All (LiesIn layout pieces i (length (file contents))) members
    lie_all contents like j [] is sized = All-nil (LiesIn layout pieces i (length (file contents)))
    lie_all contents like j (k ∷ members) is sized =
        let here = from_here row j k members is in
        All-cons (LiesIn layout pieces i (length (file contents))) k members (lies_at contents j k like here.there here.is (sized k (rw (eq-eqb k k refl) refl)))
        (lie_all contents like (suc j) members here.after (λ n among. sized n (or_right (eqb k n) (is_among n members) among)))

    pub read_all : (contents : List (List ℕ)) → AreLike contents → (j : ℕ) (members : List ℕ) → members ≡ drop j row → ((k : ℕ) → is_among k members ≡ true → IsSized k) → flat_map (bytes_of_piece layout pieces i (file contents)) members ≡ joined contents members
    read_all contents like j [] is sized = refl
    read_all contents like j (k ∷ members) is sized =
        let here = from_here row j k members is in
        ap (λ (bytes : List ℕ). bytes ++ flat_map (bytes_of_piece layout pieces i (file contents)) members) (read_at contents j k like here.there here.is (sized k (rw (eq-eqb k k refl) refl)))
        ∙ ap (λ (bytes : List ℕ). get_or contents k [] ++ bytes) (read_all contents like (suc j) members here.after (λ n among. sized n (or_right (eqb k n) (is_among n members) among)))

    pub write_all : (contents : List (List ℕ)) → AreLike contents → (j : ℕ) (members table : List ℕ) → members ≡ drop j row → ((k : ℕ) → is_among k members ≡ true → IsSized k) → length table ≡ sum_by (size_at pieces) members → written layout pieces i members table (file contents) ≡ file (dealt (size_at pieces) members table contents)
    unfolding written dealt
    write_all contents like j [] table is sized whole = refl
    write_all contents like j (k ∷ members) table is sized whole =
        let here = from_here row j k members is in
        let own = sized k (rw (eq-eqb k k refl) refl) in
        let n = size_at pieces k in
        let sum = sum_by-cons (size_at pieces) k members in
        let fits : n ≤ length table = omega (arith, whole, sum) in
        let part = take n table in
        let lt : k < length contents = omega (arith, own.0, count_is, like.count) in
        let len : length part ≡ length (get_or contents k []) = length-take-le n table fits ∙ sym (like.long k (omega (arith, own.0, count_is)) ∙ own.1) in
        ap (written layout pieces i members (drop n table)) (put_at contents j k part like here.there here.is own.0 len)
        ∙ write_all (set contents k part) (like_after contents k part like len lt) (suc j) members (drop n table) here.after (λ m among. sized m (or_right (eqb k m) (is_among m members) among)) (omega (arith, length-drop n table, whole, sum))
