use Rattle.std.proofs.Common.{rules, List, sym, subst, ◌∙◌, arith}
use Rattle.symbol_names.specs.Lists.{Said, said_by}
use Rattle.symbol_table.specs.Passes.{TellsWeaks, AreWeaks}
use Rattle.symbol_table.proofs.PassLemmas.{of_first_more, of_first_all}
use Rattle.symbol_table.proofs.WeakLemmas.{no_weaks, none_said}
use Rattle.symbol_table.proofs.first_weak.first_weaks.Goals as goal

pub loop-position-init : goal.loop-position-init
loop-position-init c =
    no_weaks c.args.names.now.keys c.len.result c.in_ok-weaks.weaks.items (c.in_ok-weaks.ensures.items_if_clones_equal (search rules)) c.len.ensures.len

pub note_weaks-requires-clause-long : goal.note_weaks-requires-clause-long
note_weaks-requires-clause-long c = c.loop-position.invariant.long

pub loop-position-preserved : goal.loop-position-preserved
loop-position-preserved c =
    subst (λ (es : List Said). AreWeaks c.args.names.now.keys es c.note_weaks.new.weaks.items)
    (sym (of_first_more said_by c.args.modules.now c.loop-position.position c.index-modules-position.result (omega arith) c.index-modules-position.is))
    (c.note_weaks.ensures.noted _ c.loop-position.invariant)

pub returns-then-not-say_weakly : goal.returns-then-not-say_weakly
returns-then-not-say_weakly c = none_said c.args.names.now.keys c.args.modules.now c.new.result.items c.requires.noted (sym c.say_weakly.ensures ∙ c.if-not-say_weakly.true) c.new.ensures.items

pub returns : goal.returns
returns c =
    subst (λ (es : List Said). TellsWeaks c.args.names.now.keys es c.loop-position.weaks.items)
    (of_first_all said_by c.args.modules.now c.loop-position.position (omega arith))
    c.loop-position.invariant.first
