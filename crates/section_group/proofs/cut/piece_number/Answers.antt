use Rattle.std.proofs.Common.{Some, ap, sym, ◌∙◌, arith}
use Rattle.std.proofs.lemmas.List.{get_or_default}
use Rattle.link_base.proofs.NameTextLemmas.{same_is}
use Rattle.section_group.specs.declared.piece.Piece.{Piece}
use Rattle.section_group.specs.SectionOrder.{no_piece}
use Rattle.section_group.proofs.PartLemmas.{named_again, named_more}
use Rattle.section_group.proofs.cut.piece_number.Goals as goal

pub returns-then-eq-clause-named : goal.returns-then-eq-clause-named
returns-then-eq-clause-named c =
    let same = same_is _ _ (sym c.eq.ensures ∙ c.if-eq.true) in
    named_again c.args.pieces.now c.args.index c.args.names.now.keys c.args.numbers.now c.index-pieces-index.result c.index-pieces-index-then-index-gt0.result
    c.requires.so_far c.requires.within c.if-index-gt0.true same

pub returns-clause-named : goal.returns-clause-named
returns-clause-named c =
    let piece = c.index-pieces-index.result in
    let here = get_or_default c.args.pieces.now c.args.index piece no_piece c.requires.within in
    named_more c.args.pieces.now c.args.index c.args.names.now.keys c.name_number.new.names.keys c.args.numbers.now c.in_ok-number.number c.requires.so_far c.in_ok-number.ensures.kept (omega (arith, c.in_ok-number.ensures.few, c.requires.so_far.few)) (c.in_ok-number.ensures.distinct c.requires.so_far.distinct)
    (c.in_ok-number.ensures.named ∙ ap (λ (p : Piece). Some p.name) here)
