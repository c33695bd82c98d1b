use Rattle.std.proofs.Common.{ℕ, ap, sym, bit_and, ◌∙◌}
use Rattle.section_group.specs.declared.piece.Piece.{Piece}
use Rattle.section_group.specs.SectionOrder.{piece_at}
use Rattle.section_group.specs.Placement.{section_attributes}
use Rattle.section_group.specs.Gathering.{input_of}
use Rattle.section_group.proofs.PartLemmas.{piece_read}
use Rattle.section_group.proofs.owners.attributes.Goals as goal

pub returns : goal.returns
unfolding section_attributes
returns c =
    let input = input_of c.args.parts.now in
    let read = piece_read input c.deciding_piece-deciding.result c.index-parts-deciding.result c.deciding_piece-deciding.ensures.within c.index-parts-deciding.is in
    ap (λ (p : Piece). bit_and p.flags 4261412864) (sym c.index-parts-deciding.is ∙ read) ∙ ap (λ (k : ℕ). bit_and (piece_at input k).flags 4261412864) c.deciding_piece-deciding.ensures.piece
