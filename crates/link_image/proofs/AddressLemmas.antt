-- Whether some field of a link holds an address, by the judged fields of its pieces.
use Rattle.std.proofs.Common.{◌≡◌, ℕ, suc, ◌+◌, ◌<◌, ◌⊎◌, Bool, true, false, ◌||◌, List, [], ◌∷◌, length, get_or, refl, sym, ap, ◌∙◌, inl, inr, arith}
use Rattle.std.specs.Cmp.{both_ways}
use Rattle.std.specs.List.{list_any, range_with_len}
use Rattle.std.proofs.lemmas.Bool.{false≢true}
use Rattle.std.proofs.lemmas.List.Folds.{list_any_at}
use Rattle.relocate.specs.declared.fix.Fix.{Fix}
use Rattle.relocate.specs.Field.{field_width, has_field, no_fix, fix_at}
use Rattle.relocate.specs.Judged.{AreTheFields}
use Rattle.relocate.specs.PatchedBytes.{is_based}
use Rattle.relocate.proofs.OrderLemmas.{IsAmong}
use Rattle.relocate.proofs.CallerLemmas.{based_width, field_among, among_fields}
use Rattle.link_pieces.specs.TablePieces.{KeptParts, whole_pieces}
use Rattle.link_plan.specs.Planned.{planned_fixes, HaveFields}
use Rattle.link_image.specs.BaseFields.{piece_holds_address, holds_address}

-- where a test passes
PlaceOf : {X : Type 0} → (X → Bool) → List X → X → Type 0
PlaceOf test xs d = (k : ℕ) × (k < length xs) × (test (get_or xs k d) ≡ true)

one_before : {X : Type 0} (test : X → Bool) (x : X) (xs : List X) (d : X) (b : Bool) → test x ≡ b → (b ≡ false → PlaceOf test xs d) → PlaceOf test (x ∷ xs) d
unfolding PlaceOf
one_before test x xs d true here later = (0, omega arith, here)
one_before test x xs d false here later = let place = later refl in (suc place.0, omega (arith, place.1), place.2)

any_place : {X : Type 0} (test : X → Bool) (xs : List X) (d : X) → list_any test xs ≡ true → PlaceOf test xs d
any_place test [] d e = absurd (false≢true e)
any_place test (x ∷ xs) d e =
    one_before test x xs d (test x) refl (λ apart. any_place test xs d (sym (ap (λ (b : Bool). b || list_any test xs) apart) ∙ e))

-- a field that holds an address is a field
pub based_field : (fix : Fix) → is_based fix ≡ true → has_field fix ≡ true
based_field fix based = by (based_width fix based)
  where
    by : ((fix.kind ≡ 1) × (field_width fix.kind ≡ 8)) ⊎ ((fix.kind ≡ 2) × (field_width fix.kind ≡ 4)) → has_field fix ≡ true
    by (inl wide) = rw wide.1 refl
    by (inr narrow) = rw narrow.1 refl

-- the judged fields of a piece hold an address where its relocations do
same_piece : (fixes fixups : List Fix) → AreTheFields fixes fixups → list_any is_based fixups ≡ list_any is_based fixes
unfolding IsAmong PlaceOf
same_piece fixes fixups fields = both_ways (list_any is_based fixups) (list_any is_based fixes) there back
  where
    there : list_any is_based fixups ≡ true → list_any is_based fixes ≡ true
    there e =
        let at = any_place is_based fixups no_fix e in
        let among = (field_among fixes fixups at.0 fields at.1).1 in
        list_any_at is_based fixes among.0 no_fix among.1 (ap is_based among.2 ∙ at.2)

    back : list_any is_based fixes ≡ true → list_any is_based fixups ≡ true
    back e =
        let at = any_place is_based fixes no_fix e in
        among_fields (λ fix. is_based fix ≡ true → list_any is_based fixups ≡ true) fixes fixups at.0 fields
        (λ k d lt based. list_any_at is_based fixups k d lt based) at.1 (based_field (fix_at fixes at.0) at.2) at.2

any_from : {X : Type 0} (test : X → Bool) (at : ℕ → Bool) (xs : List X) (d : X) (start : ℕ) → ((k : ℕ) → k < length xs → test (get_or xs k d) ≡ at (start + k)) → list_any test xs ≡ list_any at (range_with_len start (length xs))
any_from test at [] d start same = refl
any_from test at (x ∷ xs) d start same =
    ap (λ (b : Bool). b || list_any test xs) (same 0 (omega arith) ∙ ap at (zero_more start))
    ∙ ap (λ (b : Bool). at start || b) (any_from test at xs d (start + 1) (λ k lt. same (suc k) (omega arith) ∙ ap at (one_more start k)))
  where
    zero_more : (n : ℕ) → n + 0 ≡ n
    zero_more n = omega arith

    one_more : (n k : ℕ) → n + suc k ≡ n + 1 + k
    one_more n k = omega arith

pub held_addresses : (link : KeptParts) (fixups : List (List Fix)) (count : ℕ) → count ≡ length (whole_pieces link) → HaveFields link count fixups → list_any (λ fixes. list_any is_based fixes) fixups ≡ holds_address link
unfolding holds_address
held_addresses link fixups count same fields =
    any_from (λ fixes. list_any is_based fixes) (piece_holds_address link) fixups [] 0 (λ k lt. same_piece (planned_fixes link k) (get_or fixups k []) (fields.fields k (omega (arith, lt, fields.for_each))) ∙ ap (piece_holds_address link) (none_more k))
    ∙ ap (λ (n : ℕ). list_any (piece_holds_address link) (range_with_len 0 n)) (fields.for_each ∙ same)
  where
    none_more : (k : ℕ) → k ≡ 0 + k
    none_more k = omega arith
