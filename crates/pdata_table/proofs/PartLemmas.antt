-- The parts of a table that pieces hold one after another, and contents of which some pieces hold sorted rows.
use Rattle.std.proofs.Common.{◌≡◌, ◌≢◌, ℕ, suc, one-add, ◌<◌, ◌≤◌, Bool, true, false, cond, ◌||◌, eqb, List, [], ◌∷◌, ◌++◌, length, take, drop, get_or, set, refl, sym, ap, ◌∙◌, eqb-true, eq-eqb, drop-drop, length-append, length-set, arith}
use Rattle.std.specs.List.{AllByRecursion, IsDistinct, before_first, position_or_len, flat_map, sum_by}
use Rattle.std.proofs.lemmas.Bool.{false≢true, or_right}
use Rattle.std.proofs.lemmas.List.{ext_get_or, get_or-set_same, get_or-set_other, length-take-le, length-drop, take-append-drop}
use Rattle.std.proofs.lemmas.List.Sums.{sum_by-cons}
use Rattle.std.proofs.lemmas.List.FromFn.{get_or-map-range_with_len, length-map-range_with_len}
use Rattle.pdata_table.specs.Rows.{HasWholeRows, sorted_table}
use Rattle.pdata_table.proofs.TableLemmas.{length_sorted}
use Rattle.pdata_table.specs.SortedContents.{content_of, len_of, joined, part_of, is_among, sorted_at, sorted_contents}

abbrev pub ArePieces : List ℕ → Type 0
ArePieces pieces = IsDistinct (λ j k. eqb j k) pieces

other_way : (x y : ℕ) → eqb x y ≡ false → eqb y x ≡ false
other_way x y other = by (eqb y x) refl
  where
    by : (b : Bool) → eqb y x ≡ b → b ≡ false
    by false e = refl
    by true e = absurd (false≢true (sym other ∙ eq-eqb x y (sym (eqb-true y x e))))

-- a piece that is apart from all others is not among them
not_among : (p : ℕ) (ps : List ℕ) → AllByRecursion (λ y. eqb p y ≡ false) ps → is_among p ps ≡ false
not_among p [] all = refl
not_among p (y ∷ ys) all = rw (other_way p y all.0) (not_among p ys all.1)

apart_from : (p k : ℕ) → eqb p k ≡ false → k ≢ p
apart_from p k other same = false≢true (sym other ∙ eq-eqb p k (sym same))

-- ---- parts, piece by piece

-- the same part, found by going over the pieces
unfoldable pub dealt_part : (size : ℕ → ℕ) → List ℕ → ℕ → List ℕ → List ℕ
dealt_part size [] k table = []
dealt_part size (piece ∷ pieces) k table = cond (eqb piece k) (take (size piece) table) (dealt_part size pieces k (drop (size piece) table))

first_other : (p k : ℕ) (ps : List ℕ) → eqb p k ≡ false → before_first (λ piece. eqb piece k) (p ∷ ps) ≡ p ∷ before_first (λ piece. eqb piece k) ps
first_other p k ps e =
    let place : position_or_len (λ piece. eqb piece k) (p ∷ ps) ≡ suc (position_or_len (λ piece. eqb piece k) ps) = rw e (one-add (position_or_len (λ piece. eqb piece k) ps)) in
    ap (λ (n : ℕ). take n (p ∷ ps)) place

part_is_dealt : (size : ℕ → ℕ) (pieces : List ℕ) (k : ℕ) (table : List ℕ) → is_among k pieces ≡ true → part_of size pieces k table ≡ dealt_part size pieces k table
unfolding part_of dealt_part
part_is_dealt size [] k table none = absurd (false≢true none)
part_is_dealt size (p ∷ ps) k table there = by (eqb p k) refl there (part_is_dealt size ps k (drop (size p) table))
  where
    by : (b : Bool) → eqb p k ≡ b → (b || is_among k ps) ≡ true
        → (is_among k ps ≡ true → take (size k) (drop (sum_by size (before_first (λ piece. eqb piece k) ps)) (drop (size p) table)) ≡ dealt_part size ps k (drop (size p) table))
        → take (size k) (drop (sum_by size (before_first (λ piece. eqb piece k) (p ∷ ps))) table) ≡ cond b (take (size p) table) (dealt_part size ps k (drop (size p) table))
    by true e among rest = rw e (ap (λ (n : ℕ). take (size n) table) (sym (eqb-true p k e)))
    by false e among rest =
        ap (λ (row : List ℕ). take (size k) (drop (sum_by size row) table)) (first_other p k ps e)
        ∙ ap (λ (n : ℕ). take (size k) (drop n table)) (sum_by-cons size p (before_first (λ piece. eqb piece k) ps))
        ∙ ap (take (size k)) (sym (drop-drop (sum_by size (before_first (λ piece. eqb piece k) ps)) (size p) table))
        ∙ rest among

-- ---- what is dealt

-- contents of which these pieces hold a table one after another, each as many bytes as its size
unfoldable pub dealt : (size : ℕ → ℕ) → List ℕ → List ℕ → List (List ℕ) → List (List ℕ)
dealt size [] table contents = contents
dealt size (piece ∷ pieces) table contents =
    dealt size pieces (drop (size piece) table) (set contents piece (take (size piece) table))

module _ (size : ℕ → ℕ) where
  pub length-dealt : (pieces table : List ℕ) (contents : List (List ℕ)) → length (dealt size pieces table contents) ≡ length contents
  unfolding dealt
  length-dealt [] table contents = refl
  length-dealt (p ∷ ps) table contents =
      length-dealt ps (drop (size p) table) (set contents p (take (size p) table)) ∙ length-set contents p (take (size p) table)

  -- a piece that is not among them keeps what it holds
  dealt_beside : (pieces table : List ℕ) (contents : List (List ℕ)) (k : ℕ) → is_among k pieces ≡ false → get_or (dealt size pieces table contents) k [] ≡ get_or contents k []
  unfolding dealt
  dealt_beside [] table contents k none = refl
  dealt_beside (p ∷ ps) table contents k none =
      dealt_beside ps (drop (size p) table) (set contents p (take (size p) table)) k (or_right_false (eqb p k) (is_among k ps) none)
      ∙ get_or-set_other contents p k (take (size p) table) [] (apart_from p k (or_left_false (eqb p k) (is_among k ps) none))
    where
      or_right_false : (a b : Bool) → (a || b) ≡ false → b ≡ false
      or_right_false true b e = absurd (false≢true (sym e))
      or_right_false false b e = e

      or_left_false : (a b : Bool) → (a || b) ≡ false → a ≡ false
      or_left_false true b e = e
      or_left_false false b e = refl

  -- and one of them has its part
  dealt_at : (pieces table : List ℕ) (contents : List (List ℕ)) (k : ℕ) → ArePieces pieces → k < length contents → get_or (dealt size pieces table contents) k [] ≡ cond (is_among k pieces) (dealt_part size pieces k table) (get_or contents k [])
  unfolding dealt dealt_part IsDistinct
  dealt_at [] table contents k apart lt = refl
  dealt_at (p ∷ ps) table contents k apart lt = by (dealt_at ps (drop (size p) table) (set contents p (take (size p) table)) k apart.1 (omega (arith, lt, length-set contents p (take (size p) table)))) (eqb p k) refl
    where
      by : get_or (dealt size ps (drop (size p) table) (set contents p (take (size p) table))) k [] ≡ cond (is_among k ps) (dealt_part size ps k (drop (size p) table)) (get_or (set contents p (take (size p) table)) k []) → (b : Bool) → eqb p k ≡ b → get_or (dealt size ps (drop (size p) table) (set contents p (take (size p) table))) k [] ≡ cond (b || is_among k ps) (cond b (take (size p) table) (dealt_part size ps k (drop (size p) table))) (get_or contents k [])
      by rest true here =
          let same : p ≡ k = eqb-true p k here in
          dealt_beside ps (drop (size p) table) (set contents p (take (size p) table)) k (ap (λ (j : ℕ). is_among j ps) (sym same) ∙ not_among p ps apart.0)
          ∙ ap (λ (j : ℕ). get_or (set contents p (take (size p) table)) j []) (sym same)
          ∙ get_or-set_same contents p (take (size p) table) [] (omega (arith, lt, same))
      by rest false other =
          rest
          ∙ ap (cond (is_among k ps) (dealt_part size ps k (drop (size p) table))) (get_or-set_other contents p k (take (size p) table) [] (apart_from p k other))

  -- a part has its size
  pub length-part : (pieces table : List ℕ) (k : ℕ) → length table ≡ sum_by size pieces → is_among k pieces ≡ true → length (dealt_part size pieces k table) ≡ size k
  unfolding dealt_part
  length-part [] table k whole there = absurd (false≢true there)
  length-part (p ∷ ps) table k whole there = by (length-part ps (drop (size p) table) k (omega (arith, length-drop (size p) table, whole, sum_by-cons size p ps))) (eqb p k) refl there
    where
      fits : size p ≤ length table
      fits = omega (arith, whole, sum_by-cons size p ps)

      by : (is_among k ps ≡ true → length (dealt_part size ps k (drop (size p) table)) ≡ size k) → (b : Bool) → eqb p k ≡ b → (b || is_among k ps) ≡ true → length (cond b (take (size p) table) (dealt_part size ps k (drop (size p) table))) ≡ size k
      by rest true here e = length-take-le (size p) table fits ∙ ap size (eqb-true p k here)
      by rest false other e = rest e

-- parts by sizes that agree
part_same : (size other : ℕ → ℕ) (pieces table : List ℕ) (k : ℕ) → ((p : ℕ) → is_among p pieces ≡ true → size p ≡ other p) → dealt_part size pieces k table ≡ dealt_part other pieces k table
unfolding dealt_part
part_same size other [] table k same = refl
part_same size other (p ∷ ps) table k same =
    ap (λ (n : ℕ). cond (eqb p k) (take n table) (dealt_part size ps k (drop n table))) (same p (first p ps))
    ∙ ap (cond (eqb p k) (take (other p) table)) (part_same size other ps (drop (other p) table) k (λ q there. same q (later q p ps there)))
  where
    first : (p : ℕ) (ps : List ℕ) → is_among p (p ∷ ps) ≡ true
    first p ps = rw (eq-eqb p p refl) refl

    later : (q p : ℕ) (ps : List ℕ) → is_among q ps ≡ true → is_among q (p ∷ ps) ≡ true
    later q p ps there = or_right (eqb p q) (is_among q ps) there

-- so what is dealt by them is the same
pub dealt_same : (size other : ℕ → ℕ) (pieces table : List ℕ) (contents : List (List ℕ)) → ((p : ℕ) → is_among p pieces ≡ true → size p ≡ other p) → dealt size pieces table contents ≡ dealt other pieces table contents
unfolding dealt
dealt_same size other [] table contents same = refl
dealt_same size other (p ∷ ps) table contents same =
    ap (λ (n : ℕ). dealt size ps (drop n table) (set contents p (take n table))) (same p (rw (eq-eqb p p refl) refl))
    ∙ dealt_same size other ps (drop (other p) table) (set contents p (take (other p) table)) (λ q there. same q (or_right (eqb p q) (is_among q ps) there))

pub sum_same : (size other : ℕ → ℕ) (pieces : List ℕ) → ((p : ℕ) → is_among p pieces ≡ true → size p ≡ other p) → sum_by size pieces ≡ sum_by other pieces
sum_same size other [] same = refl
sum_same size other (p ∷ ps) same =
    let here = same p (rw (eq-eqb p p refl) refl) in
    let later = sum_same size other ps (λ q there. same q (or_right (eqb p q) (is_among q ps) there)) in
    omega (arith, here, later, sum_by-cons size p ps, sum_by-cons other p ps)

-- ---- sorted contents

pub length-joined : (contents : List (List ℕ)) (pieces : List ℕ) → length (joined contents pieces) ≡ sum_by (len_of contents) pieces
length-joined contents [] = refl
length-joined contents (p ∷ ps) =
    omega (arith, length-append (content_of contents p) (joined contents ps), length-joined contents ps, sum_by-cons (len_of contents) p ps)

joined_same : (contents other : List (List ℕ)) (pieces : List ℕ) → ((p : ℕ) → is_among p pieces ≡ true → content_of contents p ≡ content_of other p) → joined contents pieces ≡ joined other pieces
joined_same contents other [] same = refl
joined_same contents other (p ∷ ps) same =
    ap (λ (bytes : List ℕ). bytes ++ joined contents ps) (same p (rw (eq-eqb p p refl) refl))
    ∙ ap (λ (bytes : List ℕ). content_of other p ++ bytes) (joined_same contents other ps (λ q there. same q (or_right (eqb p q) (is_among q ps) there)))

pub length-sorted : (pieces : List ℕ) (contents : List (List ℕ)) → length (sorted_contents pieces contents) ≡ length contents
unfolding sorted_contents
length-sorted pieces contents = length-map-range_with_len (sorted_at pieces contents) 0 (length contents)

pub sorted_read : (pieces : List ℕ) (contents : List (List ℕ)) (k : ℕ) → k < length contents
    → get_or (sorted_contents pieces contents) k [] ≡ cond (is_among k pieces) (dealt_part (len_of contents) pieces k (sorted_table (joined contents pieces))) (content_of contents k)
unfolding sorted_contents
sorted_read pieces contents k lt = get_or-map-range_with_len (sorted_at pieces contents) 0 (length contents) k k [] lt (omega arith) ∙ by (is_among k pieces) refl
  where
    table : List ℕ
    table = sorted_table (joined contents pieces)

    by : (b : Bool) → is_among k pieces ≡ b → cond b (part_of (len_of contents) pieces k table) (content_of contents k) ≡ cond b (dealt_part (len_of contents) pieces k table) (content_of contents k)
    by true there = part_is_dealt (len_of contents) pieces k table there
    by false none = refl

-- a piece that is none of the exception table keeps what it holds
pub sorted_beside : (pieces : List ℕ) (contents : List (List ℕ)) (k : ℕ) → k < length contents → is_among k pieces ≡ false → get_or (sorted_contents pieces contents) k [] ≡ content_of contents k
sorted_beside pieces contents k lt none =
    sorted_read pieces contents k lt ∙ ap (λ (b : Bool). cond b (dealt_part (len_of contents) pieces k (sorted_table (joined contents pieces))) (content_of contents k)) none

-- they are what is dealt of the sorted table
pub dealt_sorted : (pieces : List ℕ) (contents : List (List ℕ)) → ArePieces pieces → dealt (len_of contents) pieces (sorted_table (joined contents pieces)) contents ≡ sorted_contents pieces contents
dealt_sorted pieces contents apart =
    ext_get_or [] (dealt (len_of contents) pieces (sorted_table (joined contents pieces)) contents) (sorted_contents pieces contents) (length-dealt (len_of contents) pieces (sorted_table (joined contents pieces)) contents ∙ sym (length-sorted pieces contents)) (λ k lt.
    let within : k < length contents = omega (arith, lt, length-dealt (len_of contents) pieces (sorted_table (joined contents pieces)) contents) in
    dealt_at (len_of contents) pieces (sorted_table (joined contents pieces)) contents k apart within ∙ sym (sorted_read pieces contents k within))

-- without an exception table nothing changes
pub none_sorted : (contents : List (List ℕ)) → sorted_contents [] contents ≡ contents
unfolding dealt IsDistinct
none_sorted contents = sym (dealt_sorted [] contents tt)

pub sorted_table_len : (contents : List (List ℕ)) (pieces : List ℕ) → HasWholeRows (joined contents pieces) → length (sorted_table (joined contents pieces)) ≡ sum_by (len_of contents) pieces
sorted_table_len contents pieces whole = length_sorted (joined contents pieces) whole ∙ length-joined contents pieces

-- each piece holds as many bytes as before
pub length-sorted_at : (pieces : List ℕ) (contents : List (List ℕ)) (k : ℕ) → k < length contents → HasWholeRows (joined contents pieces) → length (get_or (sorted_contents pieces contents) k []) ≡ len_of contents k
length-sorted_at pieces contents k lt whole = ap (λ (bytes : List ℕ). length bytes) (sorted_read pieces contents k lt) ∙ by (is_among k pieces) refl
  where
    table : List ℕ
    table = sorted_table (joined contents pieces)

    by : (b : Bool) → is_among k pieces ≡ b → length (cond b (dealt_part (len_of contents) pieces k (sorted_table (joined contents pieces))) (content_of contents k)) ≡ len_of contents k
    by true there = length-part (len_of contents) pieces (sorted_table (joined contents pieces)) k (sorted_table_len contents pieces whole) there
    by false none = refl

-- where two contents agree on the pieces of the exception table, so do what these hold of the sorted rows
pub sorted_agree : (pieces : List ℕ) (contents other : List (List ℕ)) (k : ℕ) → k < length contents → k < length other → ((p : ℕ) → is_among p pieces ≡ true → content_of contents p ≡ content_of other p) → is_among k pieces ≡ true → get_or (sorted_contents pieces contents) k [] ≡ get_or (sorted_contents pieces other) k []
sorted_agree pieces contents other k lt within same there =
    read contents lt
    ∙ part_same (len_of contents) (len_of other) pieces (sorted_table (joined contents pieces)) k (λ p among. ap (λ (bytes : List ℕ). length bytes) (same p among))
    ∙ ap (λ (bytes : List ℕ). dealt_part (len_of other) pieces k (sorted_table bytes)) (joined_same contents other pieces same)
    ∙ sym (read other within)
  where
    read : (cs : List (List ℕ)) → k < length cs → get_or (sorted_contents pieces cs) k [] ≡ dealt_part (len_of cs) pieces k (sorted_table (joined cs pieces))
    read cs inside =
        sorted_read pieces cs k inside ∙ ap (λ (b : Bool). cond b (dealt_part (len_of cs) pieces k (sorted_table (joined cs pieces))) (content_of cs k)) there

-- ---- together they hold the sorted rows

parts_later : (size : ℕ → ℕ) (p : ℕ) (ps qs table : List ℕ) → AllByRecursion (λ y. eqb p y ≡ false) qs → flat_map (λ k. dealt_part size (p ∷ ps) k table) qs ≡ flat_map (λ k. dealt_part size ps k (drop (size p) table)) qs
unfolding dealt_part
parts_later size p ps [] table all = refl
parts_later size p ps (q ∷ qs) table all =
    ap (λ (b : Bool). cond b (take (size p) table) (dealt_part size ps q (drop (size p) table)) ++ flat_map (λ k. dealt_part size (p ∷ ps) k table) qs) all.0
    ∙ ap (λ (bytes : List ℕ). dealt_part size ps q (drop (size p) table) ++ bytes) (parts_later size p ps qs table all.1)

-- the parts of a table, one after another, are the table
parts_are : (size : ℕ → ℕ) (pieces table : List ℕ) → ArePieces pieces → length table ≡ sum_by size pieces → flat_map (λ k. dealt_part size pieces k table) pieces ≡ table
unfolding dealt_part IsDistinct
parts_are size [] [] apart whole = refl
parts_are size [] (x ∷ table) apart whole = absurd (omega (arith, whole))
parts_are size (p ∷ ps) table apart whole =
    ap (λ (b : Bool). cond b (take (size p) table) (dealt_part size ps p (drop (size p) table)) ++ flat_map (λ k. dealt_part size (p ∷ ps) k table) ps) (eq-eqb p p refl)
    ∙ ap (λ (bytes : List ℕ). take (size p) table ++ bytes)
    (parts_later size p ps ps table apart.0
    ∙ parts_are size ps (drop (size p) table) apart.1 (omega (arith, length-drop (size p) table, whole, sum_by-cons size p ps)))
    ∙ take-append-drop (size p) table

sorted_parts : (pieces qs : List ℕ) (contents : List (List ℕ)) → ((q : ℕ) → is_among q qs ≡ true → (is_among q pieces ≡ true) × (q < length contents)) → joined (sorted_contents pieces contents) qs ≡ flat_map (λ k. dealt_part (len_of contents) pieces k (sorted_table (joined contents pieces))) qs
sorted_parts pieces [] contents there = refl
sorted_parts pieces (q ∷ qs) contents there =
    let here = there q (rw (eq-eqb q q refl) refl) in
    ap (λ (bytes : List ℕ). bytes ++ joined (sorted_contents pieces contents) qs)
    (sorted_read pieces contents q here.1 ∙ ap (λ (b : Bool). cond b (dealt_part (len_of contents) pieces q (sorted_table (joined contents pieces))) (content_of contents q)) here.0)
    ∙ ap (λ (bytes : List ℕ). dealt_part (len_of contents) pieces q (sorted_table (joined contents pieces)) ++ bytes)
    (sorted_parts pieces qs contents (λ r among. there r (or_right (eqb q r) (is_among r qs) among)))

-- the pieces of the exception table, one after another, hold its sorted rows
pub rows_together : (pieces : List ℕ) (contents : List (List ℕ)) → ArePieces pieces → ((q : ℕ) → is_among q pieces ≡ true → q < length contents) → HasWholeRows (joined contents pieces) → joined (sorted_contents pieces contents) pieces ≡ sorted_table (joined contents pieces)
rows_together pieces contents apart within whole =
    sorted_parts pieces pieces contents (λ q among. (among, within q among))
    ∙ parts_are (len_of contents) pieces (sorted_table (joined contents pieces)) apart (sorted_table_len contents pieces whole)
