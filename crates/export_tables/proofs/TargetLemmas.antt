-- What is exported by each number: one row more, and how many bytes the forwarders have.
use Rattle.std.proofs.Common.{◌≡◌, ◌≢◌, ℕ, zero, suc, ◌+◌, ◌-◌, ◌<◌, ◌≤◌, Bool, true, false, eqb, min, max, List, [], ◌∷◌, ◌++◌, length, take, map, fold, get_or, set, Option, Some, None, option_map, refl, sym, ap, ◌∙◌, inl, inr, lt-ltb, le-ltb, eq-eqb, arith}
use Rattle.std.specs.List.{sum_by, position, position_or_len, range_with_len}
use Rattle.std.proofs.lemmas.Bool.{cases_Bool, cases_lt, cases_eq}
use Rattle.std.proofs.lemmas.Grind.{get_or-set_at}
use Rattle.std.proofs.lemmas.List.{take_more, length-take, length-set, get_or-set_other, get_or-take, get_or_default}
use Rattle.std.proofs.lemmas.List.Sums.{sum_by-set, sum_by-cons}
use Rattle.std.proofs.lemmas.List.FromFn.{length-map-range_with_len, get_or-map-range_with_len, map-range_with_len_more, fill_by_all}
use Rattle.link_base.proofs.NumberLemmas.{eqb_apart}
use Rattle.export_tables.specs.declared.row.ExportRow.{ExportRow}
use Rattle.export_tables.specs.declared.row.ExportTo.{ExportTo}
use Rattle.export_tables.specs.ExportTable.{row_at, least, address_count, target_in, targets_in, target_size}

-- ---- the first place of a number

module _ {X : Type 0} (p : X → Bool) where
  hit : (y : X) (ys : List X) → p y ≡ true → position p (y ∷ ys) ≡ Some 0
  hit y ys e = let some : 0 < suc (length ys) = omega arith in rw (e, lt-ltb _ _ some) refl

  miss : (y : X) (ys : List X) → p y ≡ false → position p (y ∷ ys) ≡ option_map suc (position p ys)
  miss y ys e =
      elim (cases_lt (position_or_len p ys) (length ys)) [
        | inl lt ↦
            let more : suc (position_or_len p ys) < suc (length ys) = omega (arith, lt) in
            let one : 1 + position_or_len p ys ≡ suc (position_or_len p ys) = omega arith in
            rw (e, one, lt-ltb _ _ lt, lt-ltb _ _ more) refl
        | inr le ↦
            let more : suc (length ys) ≤ suc (position_or_len p ys) = omega (arith, le) in
            let one : 1 + position_or_len p ys ≡ suc (position_or_len p ys) = omega arith in
            rw (e, one, le-ltb _ _ le, le-ltb _ _ more) refl
      ]

  none_inside : (o : Option ℕ) → option_map suc o ≡ None → o ≡ None
  none_inside None e = refl
  none_inside (Some k) e = absurd cc

  pub place_of_other : (xs : List X) (x : X) → p x ≡ false → position p (xs ++ x ∷ []) ≡ position p xs
  place_of_other [] x fails = miss x [] fails
  place_of_other (y ∷ ys) x fails =
      elim (cases_Bool (p y)) [
        | inl passes ↦ hit y (ys ++ x ∷ []) passes ∙ sym (hit y ys passes)
        | inr other ↦ miss y (ys ++ x ∷ []) other ∙ ap (option_map suc) (place_of_other ys x fails) ∙ sym (miss y ys other)
      ]

  pub place_of_new : (xs : List X) (x : X) → position p xs ≡ None → p x ≡ true → position p (xs ++ x ∷ []) ≡ Some (length xs)
  place_of_new [] x none passes = hit x [] passes
  place_of_new (y ∷ ys) x none passes =
      elim (cases_Bool (p y)) [
        | inl first ↦ let found = sym (hit y ys first) ∙ none in absurd cc
        | inr other ↦
            miss y (ys ++ x ∷ []) other ∙ ap (option_map suc) (place_of_new ys x (none_inside _ (sym (miss y ys other) ∙ none)) passes)
      ]

  pub place_of_none : (xs : List X) → ((k : ℕ) (d : X) → k < length xs → p (get_or xs k d) ≡ false) → position p xs ≡ None
  place_of_none [] each = refl
  place_of_none (y ∷ ys) each =
      miss y ys (each 0 y (omega arith)) ∙ ap (option_map suc) (place_of_none ys (λ k d lt. each (suc k) d (omega (arith, lt))))

-- ---- the least ordinal and the greatest

pub falls : (xs : List ℕ) (most : ℕ) → fold min most xs ≤ most
falls [] most = omega arith
falls (x ∷ xs) most = let rest = falls xs (min most x) in omega (arith, rest)

at_least : (xs : List ℕ) (most i : ℕ) → i < length xs → fold min most xs ≤ get_or xs i 0
at_least [] most i lt = absurd (omega (arith, lt))
at_least (x ∷ xs) most zero lt = let rest = falls xs (min most x) in omega (arith, rest)
at_least (x ∷ xs) most (suc i) lt = at_least xs (min most x) i (omega (arith, lt))

rises : (xs : List ℕ) (least : ℕ) → least ≤ fold max least xs
rises [] least = omega arith
rises (x ∷ xs) least = let rest = rises xs (max least x) in omega (arith, rest)

at_most : (xs : List ℕ) (least i : ℕ) → i < length xs → get_or xs i 0 ≤ fold max least xs
at_most [] least i lt = absurd (omega (arith, lt))
at_most (x ∷ xs) least zero lt = let rest = rises xs (max least x) in omega (arith, rest)
at_most (x ∷ xs) least (suc i) lt = at_most xs (max least x) i (omega (arith, lt))

pub least_below : (ordinals : List ℕ) (i : ℕ) → i < length ordinals → least ordinals ≤ get_or ordinals i 0
least_below ordinals i lt = at_least ordinals 65535 i lt

pub place_within : (ordinals : List ℕ) (i : ℕ) → i < length ordinals → get_or ordinals i 0 - least ordinals < address_count ordinals
place_within ordinals i lt = omega (arith, at_least ordinals 65535 i lt, at_most ordinals 0 i lt)

-- ---- one row more

pub length_targets : (rows : List ExportRow) (base count : ℕ) (ordinals : List ℕ) → length (targets_in rows base count ordinals) ≡ count
unfolding targets_in
length_targets rows base count ordinals = length-map-range_with_len (target_in rows base ordinals) 0 count

abbrev pub Differ : List ℕ → Type 0
Differ ordinals = (i j : ℕ) → i < j → j < length ordinals → get_or ordinals i 0 ≢ get_or ordinals j 0

module _ (rows : List ExportRow) (base : ℕ) (ordinals : List ℕ) (i : ℕ) (lt : i < length ordinals) where
  -- a number that is not that of the row
  other_target : (k : ℕ) → base + k ≢ get_or ordinals i 0 → target_in rows base (take (i + 1) ordinals) k ≡ target_in rows base (take i ordinals) k
  unfolding target_in
  other_target k differ =
      ap (option_map (λ (row : ℕ). (row_at rows row).what))
      (ap (position (eqb (base + k))) (take_more ordinals i 0 lt)
      ∙ place_of_other (eqb (base + k)) (take i ordinals) (get_or ordinals i 0) (eqb_apart (base + k) (get_or ordinals i 0) differ))

  -- that of the row, which no earlier one has
  pub no_earlier : (k : ℕ) → Differ ordinals → base + k ≡ get_or ordinals i 0 → position (eqb (base + k)) (take i ordinals) ≡ None
  no_earlier k differ is =
      place_of_none (eqb (base + k)) (take i ordinals) (λ j d less.
      let before : j < i = omega (arith, less, length-take i ordinals) in
      eqb_apart (base + k) (get_or (take i ordinals) j d) (λ same.
      differ j i before lt (sym (is_get j d before less) ∙ sym same ∙ is)))
    where
      is_get : (j d : ℕ) → j < i → j < length (take i ordinals) → get_or (take i ordinals) j d ≡ get_or ordinals j 0
      is_get j d before less = get_or-take i ordinals j d before ∙ get_or_default ordinals j d 0 (omega (arith, before, lt))

  no_target : (k : ℕ) → Differ ordinals → base + k ≡ get_or ordinals i 0 → target_in rows base (take i ordinals) k ≡ None
  unfolding target_in
  no_target k differ is = ap (option_map (λ (row : ℕ). (row_at rows row).what)) (no_earlier k differ is)

  new_target : (k : ℕ) → Differ ordinals → base + k ≡ get_or ordinals i 0 → target_in rows base (take (i + 1) ordinals) k ≡ Some (row_at rows i).what
  unfolding target_in
  new_target k differ is =
      ap (option_map (λ (row : ℕ). (row_at rows row).what))
      (ap (position (eqb (base + k))) (take_more ordinals i 0 lt)
      ∙ place_of_new (eqb (base + k)) (take i ordinals) (get_or ordinals i 0) (no_earlier k differ is) (eq-eqb (base + k) (get_or ordinals i 0) is)
      ∙ ap Some (omega (arith, length-take i ordinals, lt)))

  module _ (count : ℕ) (differ : Differ ordinals) (low : base ≤ get_or ordinals i 0) (high : get_or ordinals i 0 - base < count) where
    place : ℕ
    place = get_or ordinals i 0 - base

    here : base + place ≡ get_or ordinals i 0
    unfolding place
    here = omega (arith, low)

    at : (earlier : List ℕ) (k : ℕ) → k < count → get_or (targets_in rows base count earlier) k None ≡ target_in rows base earlier k
    unfolding targets_in
    at earlier k within = get_or-map-range_with_len (target_in rows base earlier) 0 count k k None within (omega arith)

    pub set_target : set (targets_in rows base count (take i ordinals)) (get_or ordinals i 0 - base) (Some (row_at rows i).what) ≡ targets_in rows base count (take (i + 1) ordinals)
    unfolding targets_in place
    set_target =
        fill_by_all (target_in rows base (take (i + 1) ordinals)) _ count None
        (length-set (targets_in rows base count (take i ordinals)) place (Some (row_at rows i).what) ∙ length_targets rows base count (take i ordinals))
        (λ k within. elim (cases_eq k place) [
          | inl same ↦
              get_or-set_at targets place k (Some (row_at rows i).what) None same (omega (arith, high, length_targets rows base count (take i ordinals)))
              ∙ sym (new_target k differ (omega (arith, same, here)))
          | inr other ↦
              get_or-set_other targets place k (Some (row_at rows i).what) None other
              ∙ at (take i ordinals) k within
              ∙ sym (other_target k (λ e. other (omega (arith, e, here))))
        ])
      where
        targets : List (Option ExportTo)
        targets = targets_in rows base count (take i ordinals)

    pub sum_target : sum_by target_size (targets_in rows base count (take (i + 1) ordinals)) ≡ sum_by target_size (targets_in rows base count (take i ordinals)) + target_size (Some (row_at rows i).what)
    unfolding place
    sum_target =
        let targets = targets_in rows base count (take i ordinals) in
        let within : place < length targets = omega (arith, high, length_targets rows base count (take i ordinals)) in
        let changed = sum_by-set target_size targets place (Some (row_at rows i).what) None within in
        let none : target_size (get_or targets place None) ≡ 0 = ap target_size (at (take i ordinals) place high ∙ no_target place differ here) in
        let same : sum_by target_size (set targets place (Some (row_at rows i).what)) ≡ sum_by target_size (targets_in rows base count (take (i + 1) ordinals)) = ap (sum_by target_size) set_target in
        omega (arith, changed, none, same)

-- nothing has no text
none_sum : (rows : List ExportRow) (base from count : ℕ) → sum_by target_size (map (target_in rows base []) (range_with_len from count)) ≡ 0
unfolding target_in
none_sum rows base from zero = refl
none_sum rows base from (suc count) =
    let first : target_size (target_in rows base [] from) ≡ 0 = refl in
    omega (arith, first, sum_by-cons target_size (target_in rows base [] from) (map (target_in rows base []) (range_with_len (from + 1) count)), none_sum rows base (from + 1) count)

pub no_sum : (rows : List ExportRow) (base count : ℕ) → sum_by target_size (targets_in rows base count []) ≡ 0
unfolding targets_in
no_sum rows base count = none_sum rows base 0 count

pub none_more : (rows : List ExportRow) (base count : ℕ) → targets_in rows base (count + 1) [] ≡ targets_in rows base count [] ++ None ∷ []
unfolding targets_in target_in
none_more rows base count = map-range_with_len_more (target_in rows base []) 0 count count (omega arith)
