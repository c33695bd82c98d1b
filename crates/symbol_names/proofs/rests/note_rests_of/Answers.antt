use Rattle.std.proofs.Common.{sym, ◌∙◌}
use Rattle.symbol_names.proofs.RestLemmas.{rests_more, rests_stop, rests_end}
use Rattle.symbol_names.proofs.rests.note_rests_of.Goals as goal

pub loop-rest-preserved : goal.loop-rest-preserved
loop-rest-preserved c =
    rests_more c.args.names.now.keys c.loop-rest.names.keys c.numbered.new.names.keys c.args.number c.loop-rest.rest c.of-rest.result c.in_ok-is_new.field-0-0 c.numbered.ensures.kept c.numbered.ensures.long c.in_ok-is_new.ensures.numbered c.in_ok-is_new.ensures.alone (c.of-rest.ensures ∙ c.rest.ensures) c.loop-rest.invariant

pub returns-clause-rests : goal.returns-clause-rests
returns-clause-rests c = λ count.
    rests_end c.args.names.now.keys c.loop-rest.names.keys c.args.number c.loop-rest.rest count (sym c.loop-rest-test.ensures) c.loop-rest.invariant

pub returns-then-not-is_new-clause-rests : goal.returns-then-not-is_new-clause-rests
returns-then-not-is_new-clause-rests c =
    rests_stop c.args.names.now.keys c.loop-rest.names.keys c.numbered.new.names.keys c.args.number c.loop-rest.rest c.of-rest.result c.in_ok-is_new.field-0-0 c.numbered.ensures.kept (c.in_ok-is_new.ensures.old c.if-not-is_new.true) c.in_ok-is_new.ensures.numbered (c.of-rest.ensures ∙ c.rest.ensures) c.loop-rest.invariant
