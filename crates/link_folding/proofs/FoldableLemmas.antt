-- What `icf` asks of the fields of a link.
use Rattle.std.proofs.Common.{◌≡◌, ℕ, ◌<◌, ◌≤◌, inl, inr, true, false, List, [], length, get_or, Option, Some, None, Result, Ok, Err, refl, ap, subst, arith}
use Rattle.std.specs.Prelude.{is_some}
use Rattle.std.specs.List.{AllPairs}
use Rattle.std.proofs.lemmas.Bool.{cases_lt, false≢true}
use Rattle.std.proofs.lemmas.List.{get_or_past}
use Rattle.link_base.specs.declared.kinds.target.TargetFault.{TargetFault}
use Rattle.relocate.specs.declared.fix.Fix.{Fix}
use Rattle.relocate.specs.declared.fix.Target.{Target}
use Rattle.relocate.specs.Judged.{IsPatchable, ArePatchable}
use Rattle.relocate.specs.FieldFaults.{own_fault}
use Rattle.relocate.proofs.BaseLemmas.{patchable_suits, suited}
use Rattle.section_group.specs.declared.piece.Piece.{Piece}
use Rattle.link_pieces.specs.LinkParts.{LinkParts}
use Rattle.link_pieces.specs.Pieces.{link_contents}
use Rattle.link_fields.specs.Fixes.{HaveFields}
use Rattle.icf.specs.declared.candidate.FoldCandidate.{FoldCandidate}
use Rattle.icf.specs.Sections.{AreCandidates, IsFoldable, input_from, fields_at}

-- a relocation that can be patched has a target
has_target : (len : ℕ) (fix : Fix) → IsPatchable len fix → (target : Target) × (fix.target ≡ Some (Ok target))
has_target len fix patchable =
    let suits = patchable_suits len fix patchable in
    by fix.target suits.0 (suited false false fix suits).0
  where
    by : (meant : Option (Result Target TargetFault)) → is_some meant ≡ true → own_fault meant ≡ None → (target : Target) × (meant ≡ Some (Ok target))
    by None some own = absurd (false≢true some)
    by (Some (Ok target)) some own = (target, refl)
    by (Some (Err fault)) some own = absurd cc

module _ (link : LinkParts) (pieces : List Piece) (fixes : List (List Fix)) (candidates : List FoldCandidate) (fields : HaveFields link (length pieces) fixes) where
  none_past : (piece : ℕ) → length pieces ≤ piece → fields_at fixes piece ≡ []
  none_past piece past = get_or_past fixes piece [] (omega (arith, past, fields.for_each))

  rising : (len : ℕ) (fixups : List Fix) → ArePatchable len fixups → AllPairs (λ left right. left.at < right.at) fixups
  rising len fixups patchable i j d before lt =
      let apart = patchable.apart i j d before lt in
      let first = patchable.each i d (omega (arith, before, lt)) in
      let some = first.some in
      omega (arith, apart, some)

  pub foldable : AreCandidates (length pieces) candidates → IsFoldable (input_from pieces fixes candidates)
  foldable are = record {
    every_piece = omega (arith, fields.for_each);
    candidates = are;
    ascending = λ piece. elim (cases_lt piece (length pieces)) [
      | inl low ↦ rising (length (get_or (link_contents link) piece [])) (fields_at fixes piece) (fields.patchable piece low)
      | inr past ↦ λ i j d before lt. absurd (omega (arith, lt, ap length (none_past piece past)))
    ];
    targets = λ piece fix there. elim (cases_lt piece (length pieces)) [
      | inl low ↦
          let fixups = fields_at fixes piece in
          let patchable = (fields.patchable piece low).each there.0 fix there.1 in
          subst (λ (f : Fix). (target : Target) × (f.target ≡ Some (Ok target))) there.2 (has_target (length (get_or (link_contents link) piece [])) (get_or fixups there.0 fix) patchable)
      | inr past ↦ absurd (let lt = there.1 in omega (arith, lt, ap length (none_past piece past)))
    ];
  }
