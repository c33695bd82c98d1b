use Rattle.std.proofs.Common.{◌+◌, arith}
use Rattle.map_file.specs.MapText.{section_line}
use Rattle.map_file.proofs.LineLemmas.{numbered_grows}
use Rattle.map_file.proofs.text.push_sections.Goals as goal

pub loop-index-preserved : goal.loop-index-preserved
loop-index-preserved c =
    numbered_grows section_line 1 c.loop-index.index (c.loop-index.index + 1) c.args.rows.now c.index-rows-index.result c.args.out.now.items c.loop-index.out.items c.push_section.new.out.items (omega arith) (omega arith) c.index-rows-index.is c.loop-index.invariant c.in_ok-push_section.ensures
