use Rattle.std.proofs.Common.{arith}
use Rattle.map_file.specs.MapText.{module_line}
use Rattle.map_file.proofs.LineLemmas.{numbered_grows}
use Rattle.map_file.proofs.text.push_modules.Goals as goal

pub loop-position-preserved : goal.loop-position-preserved
loop-position-preserved c =
    numbered_grows module_line 0 c.loop-position.position _ c.args.rows.now c.index-rows-position.result c.args.out.now.items c.loop-position.out.items c.push_module.new.out.items (omega arith) (omega arith) c.index-rows-position.is c.loop-position.invariant c.in_ok-push_module.ensures
