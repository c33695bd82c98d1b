use Rattle.std.proofs.Common.{◌≡◌, ◌++◌, ℕ, List, map, take}
use Rattle.std.specs.List.{filter_map}
use Rattle.directives.specs.Said.{said}
use Rattle.link_words.specs.Outcome.{LinkOptions}
use Rattle.file_search.specs.FileNames.{completed}
use Rattle.file_search.specs.DefaultLibraries.{default_said}
use Rattle.file_search.specs.DefaultSteps.{KeepsDefaults}
use Rattle.file_search.proofs.default_libraries.DefaultLibraries.add_module.Given as goal

abbrev pub invariant-loop-directive : goal.invariant-loop-directive
invariant-loop-directive l = record {
  named : (options : LinkOptions) (names : List (List ℕ)) → KeepsDefaults options names l.fn.self → KeepsDefaults options (names ++ map completed (filter_map default_said (map said (take l.directive-index l.directive-items)))) l.self;
  total_kept : l.inputs ≡ l.fn.inputs;
}
