use Rattle.std.proofs.Common.{ℕ, ◌-◌, List, ap, sym, ◌∙◌, arith}
use Rattle.lib_reader.specs.Texts.{texts_end}
use Rattle.lib_reader.proofs.TextsLemmas.{texts_end-more, texts_end-missing, texts_end-zero}
use Rattle.lib_reader.proofs.texts.texts_end.Goals as goal

pub returns-in_default : goal.returns-in_default
returns-in_default c =
    sym (c.loop-left.invariant ∙ texts_end-missing c.loop-left.left c.loop-left.rest.now (omega arith) c.in_default.ensures)

pub loop-left-preserved : goal.loop-left-preserved
loop-left-preserved c =
    c.loop-left.invariant
    ∙ (texts_end-more c.loop-left.left c.in-Some.first c.loop-left.rest.now (omega arith) c.in-Some.ensures
    ∙ ap (λ (text : List ℕ). texts_end (c.loop-left.left - 1) text) (sym c.behind-rest.ensures))

pub returns : goal.returns
returns c = sym (c.loop-left.invariant ∙ texts_end-zero c.loop-left.left c.loop-left.rest.now (omega arith))
