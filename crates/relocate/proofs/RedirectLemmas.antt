-- Relocations whose targets are given other places have the same fields, numbers and faults.
use Rattle.std.proofs.Common.{◌≡◌, ℕ, ◌<◌, List, [], ◌∷◌, length, get_or, map, Option, Some, None, Bool, true, false, cond, nat_lt, option_map, Result, Ok, Err, refl, ap, ◌∙◌, subst, arith}
use Rattle.std.proofs.lemmas.List.{get_or-map, length-map}
use Rattle.std.proofs.lemmas.List.Elements.{All-map}
use Rattle.std.proofs.lemmas.List.Sorted.{IsPermutation-map}
use Rattle.std.specs.List.{filter}
use Rattle.std.specs.Option.{is_some, is_none}
use Rattle.link_base.specs.Refusals.{first_standing}
use Rattle.link_base.specs.declared.kinds.target.TargetFault.{TargetFault}
use Rattle.relocate.specs.declared.fix.Fix.{Fix}
use Rattle.relocate.specs.declared.fix.Target.{Target}
use Rattle.relocate.specs.declared.fix.Target.TheVariants.{Piece, Absolute, ImageBase}
use Rattle.relocate.specs.Field.{has_field, no_fix}
use Rattle.relocate.specs.FieldFaults.{own_fault, is_absolute, is_image_base, place_faults, target_faults}
use Rattle.relocate.specs.Judged.{IsPatchable, AreApart, AreTheFields, ArePatchable}
use Rattle.relocate.specs.PatchedBytes.{is_based, AreNumbered, IsSuited, AreSuited}
use Rattle.relocate.specs.Redirected.{redirected_if, redirected_fix}

module _ (places : List ℕ) (first home : ℕ) (offsets : List ℕ) where
  -- ---- a target

  there : (target : Option (Result Target TargetFault)) → is_some (option_map (redirected_if places first home offsets) target) ≡ is_some target
  there None = refl
  there (Some target) = refl

  not_there : (target : Option (Result Target TargetFault)) → is_none (option_map (redirected_if places first home offsets) target) ≡ is_none target
  not_there None = refl
  not_there (Some target) = refl

  same_fault : (target : Option (Result Target TargetFault)) → own_fault (option_map (redirected_if places first home offsets) target) ≡ own_fault target
  same_fault None = refl
  same_fault (Some (Err fault)) = refl
  same_fault (Some (Ok target)) = refl

  no_number : (b : Bool) (place value offset : ℕ) → is_absolute (Some (Ok (cond b (Piece place value) (Piece home offset)))) ≡ false
  no_number true place value offset = refl
  no_number false place value offset = refl

  same_absolute : (target : Option (Result Target TargetFault)) → is_absolute (option_map (redirected_if places first home offsets) target) ≡ is_absolute target
  same_absolute None = refl
  same_absolute (Some (Err fault)) = refl
  same_absolute (Some (Ok (Piece piece value))) = no_number (nat_lt piece first) (get_or places piece piece) value _
  same_absolute (Some (Ok (Absolute value))) = refl
  same_absolute (Some (Ok ImageBase)) = refl

  no_base : (b : Bool) (place value offset : ℕ) → is_image_base (Some (Ok (cond b (Piece place value) (Piece home offset)))) ≡ false
  no_base true place value offset = refl
  no_base false place value offset = refl

  same_image_base : (target : Option (Result Target TargetFault)) → is_image_base (option_map (redirected_if places first home offsets) target) ≡ is_image_base target
  same_image_base None = refl
  same_image_base (Some (Err fault)) = refl
  same_image_base (Some (Ok (Piece piece value))) = no_base (nat_lt piece first) (get_or places piece piece) value _
  same_image_base (Some (Ok (Absolute value))) = refl
  same_image_base (Some (Ok ImageBase)) = refl

  -- ---- a relocation

  pub field_redirected : (fix : Fix) → has_field (redirected_fix places first home offsets fix) ≡ has_field fix
  field_redirected fix = refl

  pub based_redirected : (fix : Fix) → is_based (redirected_fix places first home offsets fix) ≡ is_based fix
  based_redirected fix = rw (same_absolute fix.target) refl

  same_place : (len : Option ℕ) (fix : Fix) → place_faults len (redirected_fix places first home offsets fix) ≡ place_faults len fix
  unfolding place_faults
  same_place None fix = rw (not_there fix.target) refl
  same_place (Some len) fix = rw (not_there fix.target) refl

  same_target : (large pdata : Bool) (fix : Fix) → target_faults large pdata (redirected_fix places first home offsets fix) ≡ target_faults large pdata fix
  unfolding target_faults
  same_target large pdata fix = rw (same_fault fix.target, same_absolute fix.target, same_image_base fix.target) refl

  one_suited : (large pdata : Bool) (fix : Fix) → IsSuited large pdata fix → IsSuited large pdata (redirected_fix places first home offsets fix)
  one_suited large pdata fix suits = (there fix.target ∙ suits.0, ap first_standing (same_target large pdata fix) ∙ suits.1)

  one_patchable : (len : ℕ) (fix : Fix) → IsPatchable len fix → IsPatchable len (redirected_fix places first home offsets fix)
  one_patchable len fix patchable =
      record {
        some = patchable.some;
        place = ap first_standing (same_place (Some len) fix) ∙ patchable.place;
        target = ap first_standing (same_target false false fix) ∙ patchable.target;
      }

  -- ---- all of them

  pub numbered_redirected : (fixes : List Fix) → AreNumbered fixes → AreNumbered (map (redirected_fix places first home offsets) fixes)
  numbered_redirected fixes numbered k lt =
      let within : k < length fixes = subst (λ (n : ℕ). k < n) (length-map fixes (redirected_fix places first home offsets)) lt in
      ap (λ (fix : Fix). fix.index) (get_or-map (redirected_fix places first home offsets) fixes k no_fix no_fix within) ∙ numbered k within

  pub suited_redirected : (large pdata : Bool) (fixes : List Fix) → AreSuited large pdata fixes → AreSuited large pdata (map (redirected_fix places first home offsets) fixes)
  suited_redirected large pdata fixes suits =
      All-map (λ fix. has_field fix ≡ true → IsSuited large pdata fix) (redirected_fix places first home offsets) fixes
      (λ k d lt some. one_suited large pdata (get_or fixes k d) (suits k d lt some))

  kept_field : (b : Bool) (fix : Fix) (fields : List Fix) → cond b (redirected_fix places first home offsets fix ∷ map (redirected_fix places first home offsets) fields) (map (redirected_fix places first home offsets) fields) ≡ map (redirected_fix places first home offsets) (cond b (fix ∷ fields) fields)
  kept_field true fix fields = refl
  kept_field false fix fields = refl

  same_fields : (fixes : List Fix) → filter has_field (map (redirected_fix places first home offsets) fixes) ≡ map (redirected_fix places first home offsets) (filter has_field fixes)
  same_fields [] = refl
  same_fields (fix ∷ fixes) =
      ap (λ (fields : List Fix). cond (has_field fix) (redirected_fix places first home offsets fix ∷ fields) fields) (same_fields fixes)
      ∙ kept_field (has_field fix) fix (filter has_field fixes)

  pub fields_redirected : (fixes fixups : List Fix) → AreTheFields fixes fixups → AreTheFields (map (redirected_fix places first home offsets) fixes) (map (redirected_fix places first home offsets) fixups)
  fields_redirected fixes fixups fields =
      rw (same_fields fixes) (IsPermutation-map (redirected_fix places first home offsets) (filter has_field fixes) fixups fields)

  apart_redirected : (fixups : List Fix) → AreApart fixups → AreApart (map (redirected_fix places first home offsets) fixups)
  apart_redirected fixups apart i j d before lt =
      let within : j < length fixups = subst (λ (n : ℕ). j < n) (length-map fixups (redirected_fix places first home offsets)) lt in
      let here : i < length fixups = omega arith in
      let one = get_or-map (redirected_fix places first home offsets) fixups i d d here in
      let two = get_or-map (redirected_fix places first home offsets) fixups j d d within in
      rw (one, two) (apart i j d before within)

  pub patchable_redirected : (len : ℕ) (fixups : List Fix) → ArePatchable len fixups → ArePatchable len (map (redirected_fix places first home offsets) fixups)
  patchable_redirected len fixups patchable =
      record {
        each = All-map (IsPatchable len) (redirected_fix places first home offsets) fixups (λ k d lt. one_patchable len (get_or fixups k d) (patchable.each k d lt));
        apart = apart_redirected fixups patchable.apart;
      }
