-- A search in written streams finds the row of a name.
use Rattle.std.proofs.Common.{◌≡◌, ℕ, zero, suc, ◌<◌, ◌≤◌, Bool, true, false, List, [], ◌∷◌, length, get_or, map, Option, Some, None, Ok, unwrap_or, option_map, refl, sym, ap, ◌∙◌, inl, inr, ◌⊎◌, arith}
use Rattle.std.specs.List.{Contains, slice_get}
use Rattle.std.proofs.lemmas.List.{get_or_default}
use Rattle.std.proofs.lemmas.List.Sorted.{All-permutation, Contains-permutation, IsPermutation-sym}
use Rattle.link_base.specs.NameText.{same_name}
use Rattle.pdb_msf.specs.Streams.{stream_of}
use Rattle.pdb_msf.specs.WrittenFile.{MSF_LIMIT, file_size, msf_of}
use Rattle.pdb_msf.proofs.LawLemmas.{reads}
use Rattle.sorted_lists.proofs.CallerLemmas.{order_permutes}
use Rattle.pdb_publics.specs.declared.rows.PublicRow.{PublicRow}
use Rattle.pdb_publics.specs.PublicOrder.{row_cmp, by_name}
use Rattle.pdb_publics.specs.PublicStreams.{records_stream, publics_stream}
use Rattle.pdb_publics.specs.Lookup.{found_in, found}
use Rattle.pdb_publics.specs.WrittenPublics.{IsRow, AreRows, row_named, public_of, public_named}
use Rattle.pdb_publics.proofs.KeyLemmas.{hashed_are_keys}
use Rattle.pdb_publics.proofs.StreamLemmas.{extent_fits}
use Rattle.pdb_publics.proofs.LawLemmas.{Written, none_found, row_found}

-- ---- the rows in the order of their names

moved_in : (rows : List PublicRow) (row : PublicRow) → Contains rows row → Contains (by_name rows) row
moved_in rows row there = Contains-permutation rows (by_name rows) row (order_permutes row_cmp rows) there

moved_out : (rows : List PublicRow) (row : PublicRow) → Contains (by_name rows) row → Contains rows row
moved_out rows row there = Contains-permutation (by_name rows) rows row (IsPermutation-sym rows (by_name rows) (order_permutes row_cmp rows)) there

one_name : (rows : List PublicRow) → AreRows rows → (a b : PublicRow) → Contains rows a → Contains rows b → a.name ≡ b.name → a ≡ b
one_name rows are a b in_a in_b same =
    let at_b = get_or_default rows in_b.0 a b in_b.1 ∙ in_b.2 in
    let place = are.differ in_a.0 in_b.0 a in_a.1 in_b.1 (ap (λ (row : PublicRow). row.name) in_a.2 ∙ same ∙ sym (ap (λ (row : PublicRow). row.name) at_b)) in
    sym in_a.2 ∙ ap (λ (n : ℕ). get_or rows n a) place ∙ at_b

written : (rows : List PublicRow) → AreRows rows → Written (by_name rows)
written rows are = record {
  each = All-permutation IsRow rows (by_name rows) (order_permutes row_cmp rows) are.each;
  one_name = λ a b in_a in_b same. one_name rows are a b (moved_out rows a in_a) (moved_out rows b in_b) same;
  fit = record { each = hashed_are_keys (by_name rows) (extent_fits rows (by_name rows) refl are.records); long = are.publics };
}

-- ---- the row of a name

behind_first : (first row : PublicRow) (rows : List PublicRow) → Contains rows row → Contains (first ∷ rows) row
behind_first first row rows there = (suc there.0, omega (arith, there.1), there.2)

pub record IsNamed (name : List ℕ) (rows : List PublicRow) : Type 0 where
  pub row : PublicRow
  pub there : Contains rows row
  pub named : same_name row.name name ≡ true
  pub is : row_named name rows ≡ Some row

pub record IsUnnamed (name : List ℕ) (rows : List PublicRow) : Type 0 where
  pub other : (row : PublicRow) → Contains rows row → same_name row.name name ≡ false
  pub is : row_named name rows ≡ None

pub named_or_not : (name : List ℕ) (rows : List PublicRow) → IsNamed name rows ⊎ IsUnnamed name rows
unfolding row_named
named_or_not name [] = inr (record { other = λ row there. absurd (omega (arith, there.1)); is = refl })
named_or_not name (first ∷ rows) = go (same_name first.name name) refl (named_or_not name rows)
  where
    go : (b : Bool) → same_name first.name name ≡ b → IsNamed name rows ⊎ IsUnnamed name rows → IsNamed name (first ∷ rows) ⊎ IsUnnamed name (first ∷ rows)
    go true e rest = inl (record { row = first; there = (0, omega arith, refl); named = e; is = rw e refl })
    go false e (inl found) = inl (record { row = found.row; there = behind_first first found.row rows found.there; named = found.named; is = rw e found.is })
    go false e (inr none) = inr (record { other = λ row there. apart row there.0 there.1 there.2; is = rw e none.is })
      where
        apart : (row : PublicRow) (i : ℕ) → i < length (first ∷ rows) → get_or (first ∷ rows) i row ≡ row → same_name row.name name ≡ false
        apart row zero lt is = ap (λ (r : PublicRow). same_name r.name name) (sym is) ∙ e
        apart row (suc i) lt is = none.other row (i, omega (arith, lt), is)

-- ---- the laws

pub rows_are_found : (rows : List PublicRow) → AreRows rows → (name : List ℕ) → found_in (publics_stream rows) (records_stream rows) name ≡ Ok (public_named name rows)
rows_are_found rows are name =
    elim (named_or_not name rows) [
      | inl named ↦ row_found (by_name rows) (written rows are) name named.row (moved_in rows named.row named.there) named.named ∙ ap (λ (o : Option PublicRow). Ok (option_map public_of o)) (sym named.is)
      | inr unnamed ↦ none_found (by_name rows) (written rows are) name (λ row there. unnamed.other row (moved_out rows row there)) ∙ ap (λ (o : Option PublicRow). Ok (option_map public_of o)) (sym unnamed.is)
    ]

stream_there : (streams : List (List ℕ)) (i : ℕ) (bytes : List ℕ) → length streams ≤ 64 → file_size (map length streams) ≤ MSF_LIMIT → slice_get streams i ≡ Some bytes → unwrap_or (stream_of (msf_of streams) i) [] ≡ bytes
stream_there streams i bytes few fits is = ap (λ (o : Option (List ℕ)). unwrap_or o []) (reads streams few fits i ∙ is)

pub rows_are_found_in_file : (rows : List PublicRow) → AreRows rows → (streams : List (List ℕ)) → length streams ≤ 64 → file_size (map length streams) ≤ MSF_LIMIT → slice_get streams 6 ≡ Some (publics_stream rows) → slice_get streams 7 ≡ Some (records_stream rows) → (name : List ℕ) → found (msf_of streams) name ≡ Ok (public_named name rows)
rows_are_found_in_file rows are streams few fits publics records name =
    ap (λ (bytes : List ℕ). found_in bytes (unwrap_or (stream_of (msf_of streams) 7) []) name) (stream_there streams 6 (publics_stream rows) few fits publics)
    ∙ ap (λ (bytes : List ℕ). found_in (publics_stream rows) bytes name) (stream_there streams 7 (records_stream rows) few fits records)
    ∙ rows_are_found rows are name
