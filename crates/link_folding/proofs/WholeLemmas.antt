-- The folding of a link, put together.
use Rattle.std.proofs.Common.{◌≡◌, ℕ, Bool, List, length, map, Result, Ok, Err, Vec, Global, refl, sym, ap, subst, ◌∙◌}
use Rattle.std.specs.Result.{IfOk}
use Rattle.std.proofs.lemmas.List.{length-map}
use Rattle.link_base.specs.declared.memory.Memory.{Memory}
use Rattle.section_group.specs.declared.piece.Piece.{Piece}
use Rattle.section_group.specs.BarePieces.{bare}
use Rattle.relocate.specs.declared.fix.Fix.{Fix}
use Rattle.link_pieces.specs.LinkParts.{LinkParts}
use Rattle.link_pieces.specs.Pieces.{link_pieces}
use Rattle.link_fields.specs.Fixes.{HaveFields}
use Rattle.icf.specs.declared.candidate.FoldCandidate.{FoldCandidate}
use Rattle.icf.specs.Sections.{AreCandidates, IsFoldable, input_from}
use Rattle.icf.specs.Folding.{IsFolding}
use Rattle.link_folding.specs.Candidates.{AreCandidatesOf}
use Rattle.link_folding.specs.Places.{IsFolded, ArePlaces, body_in, all_bodies}
use Rattle.link_folding.specs.Steps.{HaveSections}
use Rattle.link_folding.proofs.DistinctLemmas.{candidates_distinct}
use Rattle.link_folding.proofs.FoldableLemmas.{foldable}
use Rattle.link_folding.proofs.PutLemmas.{folded_sections}

-- the pieces of a link, with their bytes, and its candidates
pub record AreWhole (link : LinkParts) (kept : List Bool) (fixes : List (List Fix)) (count : ℕ) (whole : List Piece) (candidates : List FoldCandidate) : Type 0 where
  pub pieces : map bare whole ≡ link_pieces link
  pub bodies : map body_in whole ≡ all_bodies link
  pub counted : count ≡ length (link_pieces link)
  pub fields : HaveFields link count fixes
  pub are : AreCandidatesOf link kept candidates

module _ (link : LinkParts) (kept : List Bool) (fixes : List (List Fix)) (count : ℕ) (whole : List Piece) (candidates : List FoldCandidate) (is : AreWhole link kept fixes count whole candidates) where
  pub as_many : length whole ≡ length (link_pieces link)
  as_many = sym (length-map whole bare) ∙ ap length is.pieces

  whole_fields : HaveFields link (length whole) fixes
  whole_fields = subst (λ (n : ℕ). HaveFields link n fixes) (is.counted ∙ sym as_many) is.fields

  pub whole_distinct : AreCandidates count candidates
  whole_distinct = candidates_distinct link kept candidates is.are count is.counted

  distinct_here : AreCandidates (length whole) candidates
  distinct_here = candidates_distinct link kept candidates is.are (length whole) as_many

  pub whole_foldable : (given : List Piece) (listed : List FoldCandidate) → given ≡ whole → listed ≡ candidates → IsFoldable (input_from given fixes listed)
  whole_foldable given listed same same' =
      subst (λ (pieces : List Piece). IsFoldable (input_from pieces fixes listed)) (sym same)
      (subst (λ (list : List FoldCandidate). IsFoldable (input_from whole fixes list)) (sym same')
      (foldable link whole fixes candidates whole_fields distinct_here))

  pub whole_sections : (given : List Piece) (listed others : List FoldCandidate) (answers told : List ℕ) → listed ≡ candidates → others ≡ candidates → told ≡ answers → IsFolding (input_from given fixes listed) answers → HaveSections others told
  whole_sections given listed others answers told same same' equal folding =
      subst (λ (list : List FoldCandidate). HaveSections list told) (same ∙ sym same')
      (subst (HaveSections listed) (sym equal) (folded_sections listed answers (input_from given fixes listed) refl folding.same_length folding.least folding.alike))

  pub whole_folded : (given : List Piece) (listed others : List FoldCandidate) (answers told places : List ℕ) → given ≡ whole → listed ≡ candidates → others ≡ candidates → told ≡ answers → IsFolding (input_from given fixes listed) answers → length places ≡ count → ArePlaces others told places → IsFolded link kept places
  whole_folded given listed others answers told places same same' same'' equal folding for_each places_are = record {
    pieces = whole;
    pieces_are = is.pieces;
    bodies_are = is.bodies;
    fixes = fixes;
    fields = whole_fields;
    candidates = candidates;
    are = is.are;
    distinct = distinct_here;
    answers = answers;
    folding =
        subst (λ (pieces : List Piece). IsFolding (input_from pieces fixes candidates) answers) same
        (subst (λ (list : List FoldCandidate). IsFolding (input_from given fixes list) answers) same' folding);
    for_each = for_each ∙ is.counted;
    places_are =
        subst (λ (list : List FoldCandidate). ArePlaces list answers places) same''
        (subst (λ (xs : List ℕ). ArePlaces others xs places) equal places_are);
  }

  pub whole_result : (result : Result (Vec ℕ Global) Memory) (given : List Piece) (listed others : List FoldCandidate) (answers told : List ℕ) → given ≡ whole → listed ≡ candidates → others ≡ candidates → told ≡ answers → IsFolding (input_from given fixes listed) answers
      → IfOk result (λ places. length places.items ≡ count) → IfOk result (λ places. ArePlaces others told places.items) → IfOk result (λ places. IsFolded link kept places.items)
  whole_result (Ok places) given listed others answers told same same' same'' equal folding for_each places_are =
      whole_folded given listed others answers told places.items same same' same'' equal folding for_each places_are
  whole_result (Err error) given listed others answers told same same' same'' equal folding for_each places_are = for_each
