-- Ordinals that are assigned differ and have 16 bits, where no fault stands.
use Rattle.std.proofs.Common.{◌≡◌, ◌≢◌, ℕ, zero, suc, ◌+◌, ◌<◌, ◌≤◌, Bool, true, false, cond, ◌||◌, eqb, max, List, [], ◌∷◌, length, take, map, fold, get_or, count_by, Option, Some, None, is_none, option_map, unwrap_or, refl, sym, ap, ◌∙◌, subst, inl, inr, ◌⊎◌, eq-eqb, All, ◌^◌, arith}
use Rattle.std.specs.List.{list_any, cons_option}
use Rattle.std.specs.Cmp.Lexicographic.{slice_cmp, texts_ties}
use Rattle.std.specs.Ordering.{is_lt, is_eq, ordering_reverse, nat_cmp}
use Rattle.std.specs.declared.cmp.Ordering.{Ordering}
use Rattle.std.specs.declared.cmp.Ordering.TheVariants.{Less, Equal, Greater}
use Rattle.std.proofs.lemmas.Bool.{false≢true, cases_Bool, ltb-false, or_right}
use Rattle.std.proofs.lemmas.Cmp.{nat_list_cmp_total}
use Rattle.std.proofs.lemmas.List.{get_or-map, get_or-take, length-map, length-take}
use Rattle.std.proofs.lemmas.List.Folds.{list_any_at}
use Rattle.std.proofs.lemmas.List.Sums.{sum_by-cons}
use Rattle.directives.specs.declared.item.Export.{Export}
use Rattle.link_base.specs.Bytes.{first_below}
use Rattle.link_base.specs.NameText.{same_name}
use Rattle.link_base.proofs.CallerLemmas.{first_below-none}
use Rattle.link_base.proofs.OptionLemmas.{none_mapped, both_none}
use Rattle.export_tables.specs.declared.error.ExportError.{ExportError}
use Rattle.export_tables.specs.Ordinals.{no_export, row_at, asked, greatest, free_name, free_names, comes_before, ordinal_above, ordinal_of, ordinals_of, is_zero, asks_for_zero, has_earlier_name, is_among, has_earlier_ordinal, has_great_ordinal, ordinal_fault}
use Rattle.export_tables.proofs.OrdinalLemmas.{by_bytes}

-- ---- no fault

pub record Faultless (rows : List Export) : Type 0 where
  pub zero : (k : ℕ) → k < length rows → is_zero (row_at rows k).ordinal ≡ false
  pub name : (k : ℕ) → k < length rows → has_earlier_name rows k ≡ false
  pub ordinal : (k : ℕ) → k < length rows → has_earlier_ordinal rows k ≡ false
  pub great : (k : ℕ) → k < length rows → has_great_ordinal rows k ≡ false

none_fails : (rows : List Export) (kind : ℕ → ExportError) (test : ℕ → Bool) → option_map kind (first_below (length rows) test) ≡ None → (k : ℕ) → k < length rows → test k ≡ false
none_fails rows kind test e k lt = first_below-none (length rows) test (none_mapped kind (first_below (length rows) test) e) k lt

pub faultless : (rows : List Export) → ordinal_fault rows ≡ None → Faultless rows
unfolding ordinal_fault
faultless rows none =
    let first = both_none _ _ none in
    let second = both_none _ _ first.1 in
    let third = both_none _ _ second.1 in
    let fourth = both_none _ _ third.1 in
    record {
      zero = none_fails rows _ (asks_for_zero rows) first.0;
      name = none_fails rows _ (has_earlier_name rows) second.0;
      ordinal = none_fails rows _ (has_earlier_ordinal rows) third.0;
      great = none_fails rows _ (has_great_ordinal rows) fourth.0;
    }

-- ---- names differ

pub names_differ : (rows : List Export) (i j : ℕ) → Faultless rows → i < j → j < length rows → same_name (row_at rows j).name (row_at rows i).name ≡ false
unfolding has_earlier_name
names_differ rows i j ok lt within =
    elim (cases_Bool (same_name (row_at rows j).name (row_at rows i).name)) [
      | inr fails ↦ fails
      | inl same ↦
          let names = map (λ (row : Export). row.name) (take j rows) in
          let there : get_or names i [] ≡ (row_at rows i).name =
          get_or-map (λ (row : Export). row.name) (take j rows) i no_export [] (omega (arith, lt, within, length-take j rows)) ∙ ap (λ (row : Export). row.name) (get_or-take j rows i no_export lt) in
          absurd (false≢true (sym (ok.name j within)
          ∙ list_any_at (same_name (row_at rows j).name) names i [] (omega (arith, lt, within, length-map (take j rows) (λ (row : Export). row.name), length-take j rows)) (ap (same_name (row_at rows j).name) there ∙ same)))
    ]

-- ---- ordinals that are asked for

among_more : (o : Option ℕ) (n : ℕ) (rest : List ℕ) → list_any (eqb n) rest ≡ true → list_any (eqb n) (cons_option o rest) ≡ true
among_more None n rest e = e
among_more (Some m) n rest e = or_right (eqb n m) (list_any (eqb n) rest) e

among_asked : (rows : List Export) (i j n : ℕ) → i < j → j < length rows → (row_at rows i).ordinal ≡ Some n → list_any (eqb n) (asked (take j rows)) ≡ true
among_asked [] i j n lt within asks = absurd (omega (arith, within))
among_asked (row ∷ rows) zero zero n lt within asks = absurd (omega (arith, lt))
among_asked (row ∷ rows) zero (suc j) n lt within asks =
    ap (λ (o : Option ℕ). list_any (eqb n) (cons_option o (asked (take j rows)))) asks
    ∙ ap (λ (b : Bool). b || list_any (eqb n) (asked (take j rows))) (eq-eqb n n refl)
among_asked (row ∷ rows) (suc i) zero n lt within asks = absurd (omega (arith, lt))
among_asked (row ∷ rows) (suc i) (suc j) n lt within asks =
    among_more row.ordinal n (asked (take j rows)) (among_asked rows i j n (omega (arith, lt)) (omega (arith, within)) asks)

-- two rows do not ask for one
asked_differ : (rows : List Export) (i j m n : ℕ) → Faultless rows → i < j → j < length rows → (row_at rows i).ordinal ≡ Some m → (row_at rows j).ordinal ≡ Some n → m ≢ n
unfolding has_earlier_ordinal
asked_differ rows i j m n ok lt within first second same =
    false≢true (sym (ok.ordinal j within)
    ∙ ap (λ (o : Option ℕ). is_among o (asked (take j rows))) second
    ∙ among_asked rows i j n lt within (first ∙ ap Some same))

-- ---- the greatest

abbrev most : ℕ → List Export → ℕ
most least rows = fold (λ most row. max most (unwrap_or row.ordinal 0)) least rows

grows : (rows : List Export) (least : ℕ) → least ≤ most least rows
grows [] least = omega arith
grows (row ∷ rows) least = let more = grows rows (max least (unwrap_or row.ordinal 0)) in omega (arith, more)

most_of : (rows : List Export) (least i n : ℕ) → i < length rows → (row_at rows i).ordinal ≡ Some n → n ≤ most least rows
most_of [] least i n lt asks = absurd (omega (arith, lt))
most_of (row ∷ rows) least zero n lt asks =
    let more = grows rows (max least (unwrap_or row.ordinal 0)) in
    let is : unwrap_or row.ordinal 0 ≡ n = ap (λ (o : Option ℕ). unwrap_or o 0) asks in
    omega (arith, more, is)
most_of (row ∷ rows) least (suc i) n lt asks = most_of rows (max least (unwrap_or row.ordinal 0)) i n (omega (arith, lt)) asks

-- ---- names that ask for none

abbrev Implies : (List ℕ → Bool) → (List ℕ → Bool) → Type 0
Implies p q = (x : List ℕ) → p x ≡ true → q x ≡ true

one_or_none : (b : Bool) → b ≡ true → ◌≡◌ {A = ℕ} (cond b 1 0) 1
one_or_none b e = ap (λ (b : Bool). cond b 1 0) e

none_or_one : (b : Bool) → b ≡ false → ◌≡◌ {A = ℕ} (cond b 1 0) 0
none_or_one b e = ap (λ (b : Bool). cond b 1 0) e

at_most : (b c : Bool) → (b ≡ true → c ≡ true) → cond b 1 0 ≤ cond c 1 0
at_most false c implies = omega arith
at_most true c implies = omega (arith, one_or_none c (implies refl))

counts_le : (p q : List ℕ → Bool) (xs : List (List ℕ)) → Implies p q → count_by p xs ≤ count_by q xs
counts_le p q [] implies = omega arith
counts_le p q (x ∷ xs) implies =
    omega (arith, at_most (p x) (q x) (implies x), counts_le p q xs implies, sum_by-cons (λ (y : List ℕ). cond (p y) 1 0) x xs, sum_by-cons (λ (y : List ℕ). cond (q y) 1 0) x xs)

free_row : (row : Export) → row.ordinal ≡ None → free_name row ≡ Some row.name
free_row row e = ap (λ (o : Option ℕ). cond (is_none o) (Some row.name) None) e

counts_more : (p q : List ℕ → Bool) (o : Option (List ℕ)) (xs : List (List ℕ)) → Implies p q → count_by p xs < count_by q xs → count_by p (cons_option o xs) < count_by q (cons_option o xs)
counts_more p q None xs implies lt = lt
counts_more p q (Some x) xs implies lt =
    omega (arith, at_most (p x) (q x) (implies x), lt, sum_by-cons (λ (y : List ℕ). cond (p y) 1 0) x xs, sum_by-cons (λ (y : List ℕ). cond (q y) 1 0) x xs)

counts_lt : (p q : List ℕ → Bool) (rows : List Export) (i : ℕ) → Implies p q → i < length rows → (row_at rows i).ordinal ≡ None → p (row_at rows i).name ≡ false → q (row_at rows i).name ≡ true → count_by p (free_names rows) < count_by q (free_names rows)
counts_lt p q [] i implies lt free fails passes = absurd (omega (arith, lt))
counts_lt p q (row ∷ rows) zero implies lt free fails passes =
    subst (λ (o : Option (List ℕ)). count_by p (cons_option o (free_names rows)) < count_by q (cons_option o (free_names rows))) (sym (free_row row free))
    (omega (arith, none_or_one (p row.name) fails, one_or_none (q row.name) passes, counts_le p q (free_names rows) implies, sum_by-cons (λ (y : List ℕ). cond (p y) 1 0) row.name (free_names rows), sum_by-cons (λ (y : List ℕ). cond (q y) 1 0) row.name (free_names rows)))
counts_lt p q (row ∷ rows) (suc i) implies lt free fails passes =
    counts_more p q (free_name row) (free_names rows) implies (counts_lt p q rows i implies (omega (arith, lt)) free fails passes)

-- ---- the order of names

before_itself : (name : List ℕ) → comes_before name name ≡ false
before_itself name =
    elim (cases_Bool (comes_before name name)) [
      | inr fails ↦ fails
      | inl passes ↦ by_bytes.one_way name name passes
    ]

-- what comes before the earlier of two comes before the later
before_both : (a b : List ℕ) → comes_before b a ≡ true → Implies (comes_before a) (comes_before b)
before_both a b lt x passes =
    elim (cases_Bool (comes_before b x)) [
      | inl holds ↦ holds
      | inr fails ↦ absurd (false≢true (sym (by_bytes.chain x b a fails (by_bytes.one_way a b lt)) ∙ passes))
    ]

-- two rows that ask for none, of which one has the earlier name
given_differ : (rows : List Export) (i j : ℕ) → i < length rows → (row_at rows i).ordinal ≡ None → comes_before (row_at rows j).name (row_at rows i).name ≡ true → count_by (comes_before (row_at rows i).name) (free_names rows) < count_by (comes_before (row_at rows j).name) (free_names rows)
given_differ rows i j within free lt =
    counts_lt (comes_before (row_at rows i).name) (comes_before (row_at rows j).name) rows i (before_both (row_at rows i).name (row_at rows j).name lt) within free (before_itself (row_at rows i).name) lt

-- one of two different names comes before the other
earlier : (a b : List ℕ) → same_name b a ≡ false → (comes_before b a ≡ true) ⊎ (comes_before a b ≡ true)
earlier a b differ = go (slice_cmp nat_cmp a b) refl
  where
    go : (r : Ordering) → slice_cmp nat_cmp a b ≡ r → (comes_before b a ≡ true) ⊎ (comes_before a b ≡ true)
    go Less is = inl (ap is_lt is)
    go Greater is = inr (ap is_lt (nat_list_cmp_total.antisymm b a ∙ ap ordering_reverse is))
    go Equal is = absurd (false≢true (sym differ ∙ texts_ties b a ∙ ap is_eq (nat_list_cmp_total.antisymm b a ∙ ap ordering_reverse is)))

-- ---- all ordinals

asked_is : (rows : List Export) (row : Export) (n : ℕ) → row.ordinal ≡ Some n → ordinal_of rows row ≡ n
unfolding ordinal_of ordinal_above
asked_is rows row n e = ap (λ (o : Option ℕ). unwrap_or o (greatest rows + 1 + count_by (comes_before row.name) (free_names rows))) e

given_by : (rows : List Export) (row : Export) → row.ordinal ≡ None → ordinal_of rows row ≡ greatest rows + 1 + count_by (comes_before row.name) (free_names rows)
unfolding ordinal_of ordinal_above
given_by rows row e = ap (λ (o : Option ℕ). unwrap_or o (greatest rows + 1 + count_by (comes_before row.name) (free_names rows))) e

pub differ : (rows : List Export) (i j : ℕ) → Faultless rows → i < j → j < length rows → ordinal_of rows (row_at rows i) ≢ ordinal_of rows (row_at rows j)
differ rows i j ok lt within same = go (row_at rows i).ordinal (row_at rows j).ordinal refl refl
  where
    go : (first second : Option ℕ) → (row_at rows i).ordinal ≡ first → (row_at rows j).ordinal ≡ second → ⊥
    go (Some m) (Some n) e f =
        asked_differ rows i j m n ok lt within e f (sym (asked_is rows (row_at rows i) m e) ∙ same ∙ asked_is rows (row_at rows j) n f)
    go (Some m) None e f =
        absurd (omega (arith, same, asked_is rows (row_at rows i) m e, given_by rows (row_at rows j) f, most_of rows 0 i m (omega (arith, lt, within)) e))
    go None (Some n) e f =
        absurd (omega (arith, same, given_by rows (row_at rows i) e, asked_is rows (row_at rows j) n f, most_of rows 0 j n within f))
    go None None e f =
        elim (earlier (row_at rows i).name (row_at rows j).name (names_differ rows i j ok lt within)) [
          | inl first ↦ absurd (omega (arith, same, given_by rows (row_at rows i) e, given_by rows (row_at rows j) f, given_differ rows i j (omega (arith, lt, within)) e first))
          | inr second ↦ absurd (omega (arith, same, given_by rows (row_at rows i) e, given_by rows (row_at rows j) f, given_differ rows j i within f second))
        ]

pub at_least_one : (rows : List Export) (k : ℕ) → Faultless rows → k < length rows → 0 < ordinal_of rows (row_at rows k)
at_least_one rows k ok within = go (row_at rows k).ordinal refl
  where
    positive : (n : ℕ) → eqb n 0 ≡ false → 0 < n
    positive zero e = absurd (false≢true (sym e))
    positive (suc n) e = omega arith

    go : (o : Option ℕ) → (row_at rows k).ordinal ≡ o → 0 < ordinal_of rows (row_at rows k)
    go None e = omega (arith, given_by rows (row_at rows k) e)
    go (Some n) e = omega (arith, asked_is rows (row_at rows k) n e, positive n (ap is_zero (sym e) ∙ ok.zero k within))

pub at_most_great : (rows : List Export) (k : ℕ) → Faultless rows → k < length rows → ordinal_of rows (row_at rows k) ≤ 65535
unfolding has_great_ordinal
at_most_great rows k ok within = ltb-false 65535 (ordinal_of rows (row_at rows k)) (ok.great k within)

-- ---- in the list

ordinal_at : (rows : List Export) (k d : ℕ) → k < length rows → get_or (ordinals_of rows) k d ≡ ordinal_of rows (row_at rows k)
ordinal_at rows k d within = get_or-map (ordinal_of rows) rows k no_export d within

pub ordinals_differ : (rows : List Export) (i j : ℕ) → ordinal_fault rows ≡ None → i < j → j < length rows → get_or (ordinals_of rows) i 0 ≢ get_or (ordinals_of rows) j 0
ordinals_differ rows i j none lt within same =
    differ rows i j (faultless rows none) lt within (sym (ordinal_at rows i 0 (omega (arith, lt, within))) ∙ same ∙ ordinal_at rows j 0 within)

pub ordinals_fit : (rows : List Export) → ordinal_fault rows ≡ None → All (λ ordinal. (0 < ordinal) × (ordinal < 2 ^ 16)) (ordinals_of rows)
ordinals_fit rows none k d within =
    let ok = faultless rows none in
    let there : k < length rows = omega (arith, within, length-map rows (ordinal_of rows)) in
    let is = ordinal_at rows k d there in
    (omega (arith, is, at_least_one rows k ok there), omega (arith, is, at_most_great rows k ok there))
