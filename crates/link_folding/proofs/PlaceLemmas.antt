-- Where pieces stand by a folding: at the place of a piece that is kept, as long, and stands at its own.
use Rattle.std.proofs.Common.{◌≡◌, ℕ, ◌<◌, ◌≤◌, inl, inr, Bool, true, false, eqb, List, length, get_or, map, sym, ap, ◌∙◌, subst, eq-eqb, arith}
use Rattle.std.proofs.lemmas.Bool.{and_from}
use Rattle.std.proofs.lemmas.List.{length-map, get_or_past}
use Rattle.section_group.specs.declared.piece.Piece.{Piece}
use Rattle.section_group.specs.BarePieces.{bare}
use Rattle.section_group.specs.SectionOrder.{no_piece}
use Rattle.relocate.specs.Redirected.{place_of}
use Rattle.link_pieces.specs.LinkParts.{LinkParts}
use Rattle.link_pieces.specs.Pieces.{link_pieces}
use Rattle.link_pieces.proofs.CallerLemmas.{bare_at}
use Rattle.link_fields.specs.Fixes.{piece_at}
use Rattle.icf.specs.Sections.{HasSection, sections_at}
use Rattle.icf.specs.Folding.{AnsweredAlike}
use Rattle.icf.proofs.SectionLemmas.{candidate_there, one_section}
use Rattle.link_folding.specs.Places.{IsFolded, StandsWith, stands_alone}
use Rattle.link_folding.proofs.SectionsLemmas.{section_kept}

-- ---- where a piece stands

piece_count : (pieces links : List Piece) → map bare pieces ≡ links → length pieces ≡ length links
piece_count pieces links are = sym (length-map pieces bare) ∙ ap length are

module _ (link : LinkParts) (kept : List Bool) (places : List ℕ) (folded : IsFolded link kept places) where
  -- a section of a candidate stands at the place of one that stands at its own
  stays : (piece place : ℕ) → StandsWith folded.candidates folded.answers piece place → place_of places place ≡ place
  stays piece place with_another = elim (folded.places_are place) [
    | inr alone ↦ alone.1
    | inl again ↦
        let first = get_or folded.answers with_another.number 0 in
        let there = candidate_there folded.candidates with_another.number with_another.rank piece with_another.section in
        let within : with_another.number < length folded.answers = omega (arith, there, folded.folding.same_length) in
        let same = folded.distinct.distinct again.number again.rank first with_another.rank place again.section with_another.other in
        let here : HasSection folded.candidates (get_or folded.answers again.number 0) again.rank (place_of places place) = again.other in
        let number : get_or folded.answers again.number 0 ≡ first = ap (λ (n : ℕ). get_or folded.answers n 0) same.0 ∙ folded.folding.least.own with_another.number within in
        one_section (sections_at folded.candidates first) with_another.rank (place_of places place) place
        (subst (λ (r : ℕ). HasSection folded.candidates first r (place_of places place)) same.1
        (subst (λ (n : ℕ). HasSection folded.candidates n again.rank (place_of places place)) number here))
        with_another.other
  ]

  alone_at : (place : ℕ) → get_or kept place false ≡ true → place_of places place ≡ place → stands_alone kept places place ≡ true
  alone_at place is_kept own = and_from (get_or kept place false) (eqb (place_of places place) place) is_kept (eq-eqb (place_of places place) place own)

  pub stands : (k : ℕ) → get_or kept k false ≡ true → stands_alone kept places (place_of places k) ≡ true
  stands k is_kept = elim (folded.places_are k) [
    | inl with_another ↦
        alone_at (place_of places k)
        (section_kept link kept folded.candidates folded.are (get_or folded.answers with_another.number 0) with_another.rank (place_of places k) with_another.other)
        (stays k (place_of places k) with_another)
    | inr alone ↦ subst (λ (place : ℕ). stands_alone kept places place ≡ true) (sym alone.1) (alone_at k is_kept alone.1)
  ]

  pub within : (k : ℕ) → k < length (link_pieces link) → place_of places k < length (link_pieces link)
  within k lt = elim (folded.places_are k) [
    | inl with_another ↦
        let below = folded.distinct.within (get_or folded.answers with_another.number 0) with_another.rank (place_of places k) with_another.other in
        omega (arith, below, piece_count folded.pieces (link_pieces link) folded.pieces_are)
    | inr alone ↦ omega (arith, lt, alone.1)
  ]

  size_at : (k : ℕ) → (get_or folded.pieces k no_piece).size ≡ (piece_at link k).size
  size_at k = ap (λ (piece : Piece). piece.size) (bare_at link folded.pieces k folded.pieces_are)

  pub as_long : (k : ℕ) → (piece_at link (place_of places k)).size ≡ (piece_at link k).size
  as_long k = elim (folded.places_are k) [
    | inl with_another ↦
        let number = with_another.number in
        let first = get_or folded.answers number 0 in
        let there = candidate_there folded.candidates number with_another.rank k with_another.section in
        let number_in : number < length folded.answers = omega (arith, there, folded.folding.same_length) in
        let low = folded.folding.least.low number number_in in
        let related : AnsweredAlike folded.answers number first = record { within = number_in; other_within = omega arith; equal = sym (folded.folding.least.own number number_in) } in
        let alike = (folded.folding.alike number first related).pairwise with_another.rank k (place_of places k) with_another.section with_another.other in
        sym (size_at (place_of places k)) ∙ sym alike.sizes ∙ size_at k
    | inr alone ↦ ap (λ (place : ℕ). (piece_at link place).size) alone.1
  ]

  pub beyond : (k : ℕ) → length (link_pieces link) ≤ k → place_of places k ≡ k
  beyond k le = get_or_past places k k (omega (arith, le, folded.for_each))
