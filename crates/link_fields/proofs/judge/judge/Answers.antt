use Rattle.std.proofs.Common.{◌≡◌, ◌∙◌, sym, eqb-true, length, vec_len, arith}
use Rattle.section_group.specs.PieceContents.{piece_contents}
use Rattle.link_fields.proofs.JudgeLemmas.{none_judged}
use Rattle.link_fields.proofs.judge.judge.Goals as goal

pub returns-then-is_empty-clause-accepted : goal.returns-then-is_empty-clause-accepted
returns-then-is_empty-clause-accepted c =
    let none : length c.args.fixes.items ≡ 0 = omega (arith, eqb-true (vec_len c.args.fixes) 0 (sym c.is_empty.ensures ∙ c.if-is_empty.true)) in
    none_judged c.args.piece.now (piece_contents c.args.piece.now) c.args.large c.args.fixes.items none
