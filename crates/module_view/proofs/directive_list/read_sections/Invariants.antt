use Rattle.std.proofs.Common.{◌≡◌, ◌++◌, map}
use Rattle.std.specs.Prelude.{filter_map}
use Rattle.directives.specs.Said.{said}
use Rattle.module_view.specs.ModuleDirectives.{sections_say, module_directives, bad_directive, well_formed}
use Rattle.module_view.proofs.DirectiveLemmas.{first_bad, sections_left}
use Rattle.module_view.proofs.directive_list.read_sections.Given as goal

abbrev pub invariant-loop-index : goal.invariant-loop-index
invariant-loop-index l = record {
  directives : map said l.list.items ++ filter_map well_formed (sections_say l.object (sections_left l.object l.index)) ≡ module_directives l.object;
  bad : first_bad (sections_say l.object (sections_left l.object l.index)) ≡ bad_directive l.object;
}
