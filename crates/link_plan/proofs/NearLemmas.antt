-- Where nothing folds and no field of what is kept means an import, these fields have the places already that they are to have.
use Rattle.std.proofs.Common.{◌≡◌, ℕ, zero, suc, ◌+◌, ◌<◌, Bool, true, false, cond, List, [], ◌∷◌, ◌++◌, length, map, filter, get_or, Option, Some, None, option_map, Result, Ok, Err, refl, sym, ap, ◌∙◌, subst, inl, inr, lt-ltb, arith}
use Rattle.std.specs.List.{All, AllByRecursion, cons_option, flat_map, range_with_len}
use Rattle.std.proofs.lemmas.Bool.{cases_lt}
use Rattle.std.proofs.lemmas.Option.{same_Some}
use Rattle.std.proofs.lemmas.List.Sorted.{All-permutation}
use Rattle.link_base.specs.declared.kinds.target.TargetFault.{TargetFault}
use Rattle.relocate.specs.declared.fix.Fix.{Fix}
use Rattle.relocate.specs.declared.fix.Target.{Target}
use Rattle.relocate.specs.declared.fix.Target.TheVariants as target
use Rattle.relocate.specs.Field.{has_field}
use Rattle.relocate.specs.Value.{meant}
use Rattle.relocate.specs.Redirected.{redirected_if, redirected_fix}
use Rattle.link_pieces.specs.LinkParts.{LinkParts}
use Rattle.link_pieces.specs.Pieces.{link_pieces}
use Rattle.link_fields.specs.Targets.{piece_in}
use Rattle.link_fields.specs.Fixes.{piece_fixes, meant_in, edges_by, edges_of, field_edges, HaveFields}
use Rattle.link_keeping.specs.Named.{LeadsWithin}

-- ---- lists

each : {X : Type 0} (P : X → Type 0) (xs : List X) → All P xs → AllByRecursion P xs
each P [] all = tt
each P (x ∷ xs) all = (all 0 x (omega arith), each P xs (λ k d lt. all (suc k) d (omega arith)))

whole : {X : Type 0} (P : X → Type 0) (xs : List X) → AllByRecursion P xs → All P xs
whole P [] all = λ k d lt. absurd (omega arith)
whole {X} P (x ∷ xs) all = by (whole P xs all.1)
  where
    by : All P xs → (k : ℕ) (d : X) → k < length (x ∷ xs) → P (get_or (x ∷ xs) k d)
    by rest zero d lt = all.0
    by rest (suc k) d lt = rest k d (omega arith)

first_part : {X : Type 0} (P : X → Type 0) (xs ys : List X) → AllByRecursion P (xs ++ ys) → AllByRecursion P xs
first_part P [] ys all = tt
first_part P (x ∷ xs) ys all = (all.0, first_part P xs ys all.1)

last_part : {X : Type 0} (P : X → Type 0) (xs ys : List X) → AllByRecursion P (xs ++ ys) → AllByRecursion P ys
last_part P [] ys all = all
last_part P (x ∷ xs) ys all = last_part P xs ys all.1

-- those of one of the first numbers
of_one : {X : Type 0} (P : X → Type 0) (f : ℕ → List X) (from count k : ℕ) → from < k + 1 → k < from + count → AllByRecursion P (flat_map f (range_with_len from count)) → AllByRecursion P (f k)
of_one P f from zero k above below all = absurd (omega arith)
of_one P f from (suc count) k above below all =
    elim (cases_lt from k) [
      | inl later ↦ of_one P f (from + 1) count k (omega arith) (omega arith) (last_part P (f from) (flat_map f (range_with_len (from + 1) count)) all)
      | inr here ↦
          let same : from ≡ k = omega arith in
          subst (λ (n : ℕ). AllByRecursion P (f n)) same (first_part P (f from) (flat_map f (range_with_len (from + 1) count)) all)
    ]

same_map : {X : Type 0} (f : X → X) (xs : List X) → AllByRecursion (λ x. f x ≡ x) xs → map f xs ≡ xs
same_map f [] all = refl
same_map {X} f (x ∷ xs) all = ap (λ (y : X). y ∷ map f xs) all.0 ∙ ap (λ (ys : List X). x ∷ ys) (same_map f xs all.1)

-- ---- one field

module _ (count home : ℕ) (offsets : List ℕ) where
  abbrev Stays : Fix → Type 0
  Stays fix = redirected_fix [] count home offsets fix ≡ fix

  same_target : (told : Option (Result Target TargetFault)) → ((to : ℕ) → piece_in (meant told) ≡ Some to → to < count) → option_map (redirected_if [] count home offsets) told ≡ told
  same_target None near = refl
  same_target (Some (Err fault)) near = refl
  same_target (Some (Ok (target.Piece piece value))) near = rw (lt-ltb piece count (near piece refl)) refl
  same_target (Some (Ok (target.Absolute value))) near = refl
  same_target (Some (Ok target.ImageBase)) near = refl

  stays : (fix : Fix) → has_field fix ≡ true → ((to : ℕ) → meant_in fix ≡ Some to → to < count) → Stays fix
  unfolding meant_in
  stays fix field near = ap (λ (told : Option (Result Target TargetFault)). record fix { target = told }) (same_target fix.target (λ to is. near to (rw field is)))

  -- those of a piece that is kept
  each_stays : (kept : List Bool) (k : ℕ) (fixes : List Fix) → get_or kept k false ≡ true → AllByRecursion (LeadsWithin kept count) (edges_by k fixes) → AllByRecursion Stays (filter has_field fixes)
  each_stays kept k [] is near = tt
  each_stays kept k (fix ∷ fixes) is near = by (has_field fix) refl (meant_in fix) refl near (λ all. each_stays kept k fixes is all)
    where
      by : (b : Bool) → has_field fix ≡ b → (told : Option ℕ) → meant_in fix ≡ told
          → AllByRecursion (LeadsWithin kept count) (cons_option (option_map (λ (to : ℕ). (k, to)) told) (edges_by k fixes))
          → (AllByRecursion (LeadsWithin kept count) (edges_by k fixes) → AllByRecursion Stays (filter has_field fixes))
          → AllByRecursion Stays (cond b (fix ∷ filter has_field fixes) (filter has_field fixes))
      by false field (Some to) leads all rest = rest all.1
      by false field None leads all rest = rest all
      by true field (Some to) leads all rest =
          (stays fix field (λ other e. subst (λ (n : ℕ). n < count) (same_Some to other (sym leads ∙ e)) (all.0 is)), rest all.1)
      by true field None leads all rest = (stays fix field (λ other e. let none = sym leads ∙ e in absurd cc), rest all)

-- ---- those of all pieces

pub fields_stay : (link : LinkParts) (count home : ℕ) (offsets : List ℕ) (kept : List Bool) (fixups : List (List Fix)) (k : ℕ) → count ≡ length (link_pieces link) → HaveFields link count fixups → All (LeadsWithin kept count) (field_edges link) → k < count → get_or kept k false ≡ true
    → map (redirected_fix [] count home offsets) (get_or fixups k []) ≡ get_or fixups k []
unfolding field_edges
fields_stay link count home offsets kept fixups k counted have near lt is =
    let edges = of_one (LeadsWithin kept count) (edges_of link) 0 (length (link_pieces link)) k (omega arith) (omega (arith, lt, counted)) (each (LeadsWithin kept count) (field_edges link) near) in
    let own = each_stays count home offsets kept k (piece_fixes link k) is edges in
    let all = All-permutation (Stays count home offsets) (filter has_field (piece_fixes link k)) (get_or fixups k []) (have.fields k lt) (whole (Stays count home offsets) (filter has_field (piece_fixes link k)) own) in
    same_map (redirected_fix [] count home offsets) (get_or fixups k []) (each (Stays count home offsets) (get_or fixups k []) all)
