-- Targets and names, by the rows that they are of.
use Rattle.std.proofs.Common.{◌≡◌, ℕ, zero, suc, ◌+◌, ◌-◌, ◌<◌, Bool, true, false, cond, eqb, List, [], ◌∷◌, length, get_or, Option, Some, None, option_map, All, refl, sym, ap, ◌∙◌, subst, inl, inr, lt-ltb, eq-eqb, arith}
use Rattle.std.specs.List.{Contains, find, position}
use Rattle.std.specs.Option.{option_to_list}
use Rattle.std.proofs.lemmas.Bool.{cases_lt, ne_eqb}
use Rattle.std.proofs.lemmas.List.Elements.{All-nil, All-cons, All-same, All-append, Contains-append_left, Contains-append_right}
use Rattle.std.proofs.lemmas.List.FromFn.{get_or-map-range_with_len}
use Rattle.std.proofs.lemmas.List.Quantifiers.{position-Some}
use Rattle.std.proofs.lemmas.List.Sorted.{All-permutation, Contains-permutation}
use Rattle.std.proofs.lemmas.List.Sums.{position_or_len_is}
use Rattle.sorted_lists.proofs.CallerLemmas.{order_permutes}
use Rattle.export_tables.specs.declared.row.ExportRow.{ExportRow}
use Rattle.export_tables.specs.declared.row.ExportTo.{ExportTo}
use Rattle.export_tables.specs.declared.names.NameEntry.{NameEntry}
use Rattle.export_tables.specs.ExportTable.{no_row, row_at, least, target_in, targets_in, named, entry_of, entry_at, entries_before, entry_cmp, names_of}
use Rattle.export_tables.proofs.TargetLemmas.{Differ, least_below}
use Rattle.export_tables.proofs.EntryLemmas.{entries_more}

-- ---- targets

pub target_at : (rows : List ExportRow) (base count : ℕ) (ordinals : List ℕ) (k : ℕ) → k < count → get_or (targets_in rows base count ordinals) k None ≡ target_in rows base ordinals k
unfolding targets_in
target_at rows base count ordinals k lt = get_or-map-range_with_len (target_in rows base ordinals) 0 count k k None lt (omega arith)

-- what all rows export passes: so does what a number exports
pub target_passes : (P : ExportTo → Type 0) (rows : List ExportRow) (base : ℕ) (ordinals : List ℕ) (k : ℕ) (what : ExportTo) → length ordinals ≡ length rows → All (λ row. P row.what) rows → target_in rows base ordinals k ≡ Some what → P what
unfolding target_in
target_passes P rows base ordinals k what many all is = go (position (eqb (base + k)) ordinals) refl is
  where
    same : (first : ExportTo) → Some first ≡ Some what → first ≡ what
    same first e = cc

    go : (o : Option ℕ) → position (eqb (base + k)) ordinals ≡ o → option_map (λ (row : ℕ). (row_at rows row).what) o ≡ Some what → P what
    go None e h = absurd cc
    go (Some i) e h =
        let inside = position-Some (eqb (base + k)) ordinals i 0 e in
        subst P (same (row_at rows i).what h) (all i no_row (omega (arith, inside.0, many)))

-- a row has its ordinal, and no other has it
position_of : (ordinals : List ℕ) (i : ℕ) → Differ ordinals → i < length ordinals → position (eqb (get_or ordinals i 0)) ordinals ≡ Some i
position_of ordinals i differ lt =
    let place =
    position_or_len_is (eqb (get_or ordinals i 0)) ordinals i 0 (omega (arith, lt))
    (λ k less. ne_eqb (get_or ordinals i 0) (get_or ordinals k 0) (λ e. differ k i less lt (sym e)))
    (λ within. eq-eqb (get_or ordinals i 0) (get_or ordinals i 0) refl) in
    rw (place, lt-ltb _ _ lt) refl

pub target_of_row : (rows : List ExportRow) (ordinals : List ℕ) (i : ℕ) → Differ ordinals → i < length ordinals → target_in rows (least ordinals) ordinals (get_or ordinals i 0 - least ordinals) ≡ Some (row_at rows i).what
unfolding target_in
target_of_row rows ordinals i differ lt =
    let number : least ordinals + (get_or ordinals i 0 - least ordinals) ≡ get_or ordinals i 0 = omega (arith, least_below ordinals i lt) in
    ap (λ (n : ℕ). option_map (λ (row : ℕ). (row_at rows row).what) (position (eqb n) ordinals)) number
    ∙ ap (option_map (λ (row : ℕ). (row_at rows row).what)) (position_of ordinals i differ lt)

-- ---- names

pub entry_is : (row : ExportRow) (index : ℕ) (entry : NameEntry) → entry_of row index ≡ Some entry → (row.noname ≡ false) × (named row index ≡ entry)
entry_is row index entry is = go row.noname refl is
  where
    same : (first : NameEntry) → Some first ≡ Some entry → first ≡ entry
    same first e = cc

    go : (b : Bool) → row.noname ≡ b → cond b None (Some (named row index)) ≡ Some entry → (row.noname ≡ false) × (named row index ≡ entry)
    go true e h = absurd cc
    go false e h = (e, same (named row index) h)

-- what the entry of each row passes, all names do
entries_pass : (P : NameEntry → Type 0) (rows : List ExportRow) (ordinals : List ℕ) (count : ℕ) → ((i : ℕ) (entry : NameEntry) → i < count → entry_at rows ordinals i ≡ Some entry → P entry) → All P (entries_before rows ordinals count)
unfolding entries_before
entries_pass P rows ordinals zero each = All-nil P
entries_pass P rows ordinals (suc k) each =
    let one : k + 1 ≡ suc k = omega arith in
    subst (λ (n : ℕ). All P (entries_before rows ordinals n)) one
    (All-same P _ _ (entries_more rows ordinals k)
    (All-append P (entries_before rows ordinals k) (option_to_list (entry_at rows ordinals k)) (entries_pass P rows ordinals k (λ i entry lt. each i entry (omega (arith, lt)))) (last (entry_at rows ordinals k) refl)))
  where
    last : (o : Option NameEntry) → entry_at rows ordinals k ≡ o → All P (option_to_list o)
    last None e = All-nil P
    last (Some entry) e = All-cons P entry [] (each k entry (omega arith) e) (All-nil P)

pub names_pass : (P : NameEntry → Type 0) (rows : List ExportRow) (ordinals : List ℕ) → ((i : ℕ) (entry : NameEntry) → i < length rows → entry_at rows ordinals i ≡ Some entry → P entry) → All P (names_of rows ordinals)
unfolding names_of
names_pass P rows ordinals each =
    All-permutation P _ _ (order_permutes entry_cmp (entries_before rows ordinals (length rows))) (entries_pass P rows ordinals (length rows) each)

-- the entry of a row is among the names
entry_there : (rows : List ExportRow) (ordinals : List ℕ) (count i : ℕ) (entry : NameEntry) → i < count → entry_at rows ordinals i ≡ Some entry → Contains (entries_before rows ordinals count) entry
entry_there rows ordinals zero i entry lt is = absurd (omega (arith, lt))
entry_there rows ordinals (suc k) i entry lt is =
    let one : k + 1 ≡ suc k = omega arith in
    let earlier = entries_before rows ordinals k in
    subst (λ (n : ℕ). Contains (entries_before rows ordinals n) entry) one
    (subst (λ (xs : List NameEntry). Contains xs entry) (sym (entries_more rows ordinals k))
    (elim (cases_lt i k) [
      | inl less ↦ Contains-append_left earlier (option_to_list (entry_at rows ordinals k)) entry (entry_there rows ordinals k i entry less is)
      | inr le ↦
          let last : entry_at rows ordinals k ≡ Some entry = ap (entry_at rows ordinals) (omega (arith, lt, le)) ∙ is in
          Contains-append_right earlier (option_to_list (entry_at rows ordinals k)) entry
          (subst (λ (o : Option NameEntry). Contains (option_to_list o) entry) (sym last) (0, omega arith, refl))
    ]))

pub name_among : (rows : List ExportRow) (ordinals : List ℕ) (i : ℕ) (entry : NameEntry) → i < length rows → entry_at rows ordinals i ≡ Some entry → Contains (names_of rows ordinals) entry
unfolding names_of
name_among rows ordinals i entry lt is =
    Contains-permutation _ _ entry (order_permutes entry_cmp (entries_before rows ordinals (length rows))) (entry_there rows ordinals (length rows) i entry lt is)

-- ---- the first row that passes

module _ (p : ExportRow → Bool) where
  pub none_found : (rows : List ExportRow) → find p rows ≡ None → (k : ℕ) → k < length rows → p (row_at rows k) ≡ false
  none_found [] none k lt = absurd (omega (arith, lt))
  none_found (row ∷ rows) none k lt = go (p row) refl none (none_found rows) k lt
    where
      go : (b : Bool) → p row ≡ b → cond b (Some row) (find p rows) ≡ None → (find p rows ≡ None → (k : ℕ) → k < length rows → p (row_at rows k) ≡ false) → (k : ℕ) → k < suc (length rows) → p (row_at (row ∷ rows) k) ≡ false
      go true e h rest k lt = absurd cc
      go false e h rest zero lt = e
      go false e h rest (suc k) lt = rest h k (omega (arith, lt))

  abbrev pub StandsAt : List ExportRow → ExportRow → Type 0
  StandsAt rows row = (i : ℕ) × (i < length rows) × (row_at rows i ≡ row) × (p row ≡ true)

  pub one_found : (rows : List ExportRow) (found : ExportRow) → find p rows ≡ Some found → StandsAt rows found
  one_found [] found is = absurd cc
  one_found (row ∷ rows) found is = go (p row) refl is (one_found rows found)
    where
      same : Some row ≡ Some found → row ≡ found
      same e = cc

      go : (b : Bool) → p row ≡ b → cond b (Some row) (find p rows) ≡ Some found → (find p rows ≡ Some found → StandsAt rows found) → StandsAt (row ∷ rows) found
      go true e h rest = (0, omega arith, same h, ap p (sym (same h)) ∙ e)
      go false e h rest =
          let later = rest h in
          (suc later.0, omega (arith, later.1), later.2, later.3)
