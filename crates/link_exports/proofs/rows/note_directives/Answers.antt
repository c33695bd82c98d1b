use Rattle.std.proofs.Common.{List, map, arith}
use Rattle.std.specs.Prelude.{filter_map}
use Rattle.directives.specs.Said.{said}
use Rattle.directives.specs.declared.item.Directive.{Directive}
use Rattle.link_exports.specs.Exports.{export_said}
use Rattle.link_exports.proofs.RowLemmas.{rows_more, among_append}
use Rattle.link_exports.proofs.rows.note_directives.Goals as goal

pub loop-directive-preserved : goal.loop-directive-preserved
loop-directive-preserved c = record {
  known = c.in_ok-note_directive.ensures.known;
  rows = rows_more (λ (directives : List Directive). filter_map export_said (map said directives)) among_append c.args.noted.now.rows.items c.loop-directive.noted.rows.items c.note_directive.new.noted.rows.items c.args.directives.now c.loop-directive.directive-index c.directive-item.result (omega arith) c.directive-item.is c.loop-directive.invariant.rows c.in_ok-note_directive.ensures.rows;
}
