use Rattle.std.proofs.Common.{rules, List, sym, subst, ◌∙◌, arith}
use Rattle.symbol_names.specs.Lists.{Offered, offered_by}
use Rattle.symbol_table.specs.Passes.{TellsGreatest, AreGreatest}
use Rattle.symbol_table.proofs.PassLemmas.{of_first_more, of_first_all}
use Rattle.symbol_table.proofs.GreatestLemmas.{no_commons, none_shared}
use Rattle.symbol_table.proofs.greatest.greatest_commons.Goals as goal

pub loop-position-init : goal.loop-position-init
loop-position-init c =
    no_commons c.args.names.now.keys c.len.result c.in_ok-commons.commons.items (c.in_ok-commons.ensures.items_if_clones_equal (search rules)) c.len.ensures.len

pub note_commons-requires-clause-long : goal.note_commons-requires-clause-long
note_commons-requires-clause-long c = c.loop-position.invariant.long

pub loop-position-preserved : goal.loop-position-preserved
loop-position-preserved c =
    subst (λ (es : List Offered). AreGreatest c.args.names.now.keys es c.note_commons.new.commons.items)
    (sym (of_first_more offered_by c.args.modules.now c.loop-position.position c.index-modules-position.result (omega arith) c.index-modules-position.is))
    (c.note_commons.ensures.noted _ c.loop-position.invariant)

pub returns-then-not-share_names : goal.returns-then-not-share_names
returns-then-not-share_names c = none_shared c.args.names.now.keys c.args.modules.now c.new.result.items c.requires.noted (sym c.share_names.ensures ∙ c.if-not-share_names.true) c.new.ensures.items

pub returns : goal.returns
returns c =
    subst (λ (es : List Offered). TellsGreatest c.args.names.now.keys es c.loop-position.commons.items)
    (of_first_all offered_by c.args.modules.now c.loop-position.position (omega arith))
    c.loop-position.invariant.greatest
