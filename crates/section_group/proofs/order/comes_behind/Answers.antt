use Rattle.std.proofs.Common.{◌≡◌, IsTrue, sym, ap, ◌∙◌, rules}
use Rattle.section_group.specs.declared.piece.Piece.{Piece}
use Rattle.section_group.specs.Gathering.{input_of}
use Rattle.section_group.proofs.PartLemmas.{piece_read}
use Rattle.section_group.proofs.KeyLemmas.{behind}
use Rattle.section_group.proofs.order.comes_behind.Goals as goal

pub returns-clause-behind : goal.returns-clause-behind
returns-clause-behind c =
    let input = input_of c.args.parts.now in
    let before = c.index-parts-other.result in
    let piece = c.index-parts-index.result in
    let shared : IsTrue c.share_name.result = search rules in
    let alike : before.init ≡ piece.init = search rules in
    let first = ap (λ (p : Piece). p.init) (piece_read input c.args.other before c.requires.other c.index-parts-other.is) in
    let second = ap (λ (p : Piece). p.init) (piece_read input c.args.index piece c.requires.index c.index-parts-index.is) in
    λ precedes. behind input c.args.other c.args.index (c.share_name.ensures.cut shared) (sym first ∙ alike ∙ second) (sym c.precedes.ensures ∙ precedes)
