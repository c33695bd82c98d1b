use Rattle.std.proofs.Common.{◌≡◌, List, length, map, Some, sym, ap, subst, ◌∙◌}
use Rattle.std.proofs.lemmas.List.{length-map}
use Rattle.section_group.specs.declared.piece.Piece.{Piece}
use Rattle.section_group.specs.BarePieces.{bare}
use Rattle.link_pieces.specs.Pieces.{link_pieces}
use Rattle.icf.specs.Sections.{AreCandidates, input_from}
use Rattle.icf.specs.Folding.{IsFolding}
use Rattle.link_folding.proofs.WholeLemmas.{AreWhole, whole_distinct, whole_foldable, whole_sections, whole_result}
use Rattle.link_folding.proofs.folded.folded_places.Goals as goal

counted : (pieces links : List Piece) → map bare pieces ≡ links → length pieces ≡ length links
counted pieces links are = sym (length-map pieces bare) ∙ ap length are

pub fold-requires : goal.fold-requires
fold-requires c =
    let link = c.args.names.now in
    let kept = c.args.kept.now in
    let fixes = c.args.fixes.now in
    let count = length c.args.pieces.now in
    let whole = c.in_ok-whole.whole.items in
    let candidates = c.in_ok-candidates.candidates.items in
    let is : AreWhole link kept fixes count whole candidates = record {
      pieces = c.in_ok-whole.ensures.bare ∙ c.requires.pieces;
      bodies = c.in_ok-whole.ensures.bodies ∙ ap (map Some) c.requires.contents;
      counted = counted c.args.pieces.now (link_pieces link) c.requires.pieces;
      fields = c.requires.fields;
      are = c.in_ok-candidates.ensures;
    } in
    whole_foldable link kept fixes count whole candidates is c.deref.result.now c.deref-2.result.now c.deref.ensures.value c.deref-2.ensures.value

pub places_by-requires-clause-candidates : goal.places_by-requires-clause-candidates
places_by-requires-clause-candidates c =
    let link = c.args.names.now in
    let kept = c.args.kept.now in
    let fixes = c.args.fixes.now in
    let count = length c.args.pieces.now in
    let whole = c.in_ok-whole.whole.items in
    let candidates = c.in_ok-candidates.candidates.items in
    let is : AreWhole link kept fixes count whole candidates = record {
      pieces = c.in_ok-whole.ensures.bare ∙ c.requires.pieces;
      bodies = c.in_ok-whole.ensures.bodies ∙ ap (map Some) c.requires.contents;
      counted = counted c.args.pieces.now (link_pieces link) c.requires.pieces;
      fields = c.requires.fields;
      are = c.in_ok-candidates.ensures;
    } in
    subst (AreCandidates count) (sym c.deref-3.ensures.value) (whole_distinct link kept fixes count whole candidates is)

pub places_by-requires-clause-answers : goal.places_by-requires-clause-answers
places_by-requires-clause-answers c =
    let link = c.args.names.now in
    let kept = c.args.kept.now in
    let fixes = c.args.fixes.now in
    let count = length c.args.pieces.now in
    let whole = c.in_ok-whole.whole.items in
    let candidates = c.in_ok-candidates.candidates.items in
    let is : AreWhole link kept fixes count whole candidates = record {
      pieces = c.in_ok-whole.ensures.bare ∙ c.requires.pieces;
      bodies = c.in_ok-whole.ensures.bodies ∙ ap (map Some) c.requires.contents;
      counted = counted c.args.pieces.now (link_pieces link) c.requires.pieces;
      fields = c.requires.fields;
      are = c.in_ok-candidates.ensures;
    } in
    let answers = c.in_ok-answers.answers.items in
    let folding : IsFolding (input_from c.deref.result.now fixes c.deref-2.result.now) answers = record {
      same_length = c.in_ok-answers.ensures.length;
      least = c.in_ok-answers.ensures.least;
      alike = c.in_ok-answers.ensures.alike;
      greatest = c.in_ok-answers.ensures.greatest;
    } in
    whole_sections link kept fixes count whole candidates is c.deref.result.now c.deref-2.result.now c.deref-3.result.now answers c.deref-4.result.now c.deref-2.ensures.value c.deref-3.ensures.value c.deref-4.ensures.value folding

pub returns : goal.returns
returns c =
    let link = c.args.names.now in
    let kept = c.args.kept.now in
    let fixes = c.args.fixes.now in
    let count = length c.args.pieces.now in
    let whole = c.in_ok-whole.whole.items in
    let candidates = c.in_ok-candidates.candidates.items in
    let is : AreWhole link kept fixes count whole candidates = record {
      pieces = c.in_ok-whole.ensures.bare ∙ c.requires.pieces;
      bodies = c.in_ok-whole.ensures.bodies ∙ ap (map Some) c.requires.contents;
      counted = counted c.args.pieces.now (link_pieces link) c.requires.pieces;
      fields = c.requires.fields;
      are = c.in_ok-candidates.ensures;
    } in
    let answers = c.in_ok-answers.answers.items in
    let folding : IsFolding (input_from c.deref.result.now fixes c.deref-2.result.now) answers = record {
      same_length = c.in_ok-answers.ensures.length;
      least = c.in_ok-answers.ensures.least;
      alike = c.in_ok-answers.ensures.alike;
      greatest = c.in_ok-answers.ensures.greatest;
    } in
    whole_result link kept fixes count whole candidates is c.places_by.result c.deref.result.now c.deref-2.result.now c.deref-3.result.now answers c.deref-4.result.now
    c.deref.ensures.value c.deref-2.ensures.value c.deref-3.ensures.value c.deref-4.ensures.value folding c.places_by.ensures.for_each c.places_by.ensures.places
