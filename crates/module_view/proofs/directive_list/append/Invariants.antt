use Rattle.std.proofs.Common.{◌≡◌, ◌++◌, map}
use Rattle.std.specs.Prelude.{filter_map}
use Rattle.directives.specs.Said.{said}
use Rattle.directives.specs.Words.{directives_of}
use Rattle.directives.specs.Left.{items_left}
use Rattle.module_view.specs.ModuleDirectives.{well_formed}
use Rattle.module_view.proofs.DirectiveLemmas.{first_bad}
use Rattle.module_view.proofs.directive_list.append.Given as goal

abbrev pub invariant-loop-item : goal.invariant-loop-item
invariant-loop-item l = record {
  directives : map said l.list.items ++ filter_map well_formed (items_left l.item-iterator) ≡ map said l.fn.list.items ++ filter_map well_formed (directives_of l.text);
  bad : first_bad (items_left l.item-iterator) ≡ first_bad (directives_of l.text);
}
