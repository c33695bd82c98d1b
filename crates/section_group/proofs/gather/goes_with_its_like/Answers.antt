use Rattle.std.proofs.Common.{◌-◌, ◌<◌, IsTrue, length, bit_and, sym, ap, ◌∙◌, arith, rules}
use Rattle.std.proofs.lemmas.Bool.{eqb-true}
use Rattle.section_group.specs.declared.piece.Piece.{Piece}
use Rattle.section_group.specs.SectionOrder.{is_used}
use Rattle.section_group.specs.Gathering.{input_of}
use Rattle.section_group.proofs.PartLemmas.{one_home, piece_read, used_at}
use Rattle.section_group.proofs.gather.goes_with_its_like.Goals as goal

pub returns-clause-goes : goal.returns-clause-goes
returns-clause-goes c =
    let input = input_of c.args.parts.now in
    let i = c.args.index in
    let above : 0 < i = omega arith in
    let within : i - 1 < length input.pieces = omega arith in
    let shared : IsTrue c.share_name.result = search rules in
    let used : IsTrue (is_used input (i - 1)) = used_at input (i - 1) within ∙ search rules in
    let before = ap (λ (p : Piece). bit_and p.flags 4261412864) (sym c.index-parts-index.is ∙ piece_read input (i - 1) c.index-parts-index.result within c.index-parts-index.is) in
    let here = ap (λ (p : Piece). bit_and p.flags 4261412864) (sym c.index-parts-index-2.is ∙ piece_read input i c.index-parts-index-2.result c.requires c.index-parts-index-2.is) in
    λ same. (above, used, one_home input (i - 1) i (c.share_name.ensures.cut shared) (sym before ∙ eqb-true _ _ same ∙ here))
