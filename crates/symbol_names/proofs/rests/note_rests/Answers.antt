use Rattle.std.proofs.Common.{length, arith}
use Rattle.symbol_names.proofs.NumberLemmas.{keeps_both}
use Rattle.symbol_names.proofs.rests.note_rests.Goals as goal

pub loop-number-preserved : goal.loop-number-preserved
loop-number-preserved c =
    let before = c.loop-number.invariant in
    record {
      kept = keeps_both c.args.names.now.keys c.loop-number.names.keys c.note_rests_of.new.names.keys before.kept c.note_rests_of.ensures.kept;
      long = omega (arith, before.long, c.note_rests_of.ensures.long);
      noted = c.in_ok-note_rests_of.ensures.rests (length c.args.names.now.keys) before.long before.noted;
    }
