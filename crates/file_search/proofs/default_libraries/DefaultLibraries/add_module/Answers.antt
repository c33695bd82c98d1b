use Rattle.std.proofs.Common.{◌<◌, ◌++◌, List, ℕ, length, map, take, ◌∙◌, subst, arith}
use Rattle.std.specs.List.{filter_map}
use Rattle.directives.specs.Said.{said}
use Rattle.file_search.specs.FileNames.{completed}
use Rattle.file_search.specs.DefaultLibraries.{default_said, default_names}
use Rattle.file_search.specs.DefaultSteps.{KeepsDefaults}
use Rattle.file_search.proofs.DefaultLemmas.{said_more, said_all}
use Rattle.file_search.proofs.default_libraries.DefaultLibraries.add_module.Goals as goal

pub loop-directive-preserved : goal.loop-directive-preserved
loop-directive-preserved c =
    let items = c.directives-directive-items.result.now in
    let index = c.loop-directive.directive-index in
    let lt : index < length items = omega arith in
    record {
      named = λ options names was.
          subst (λ (all : List (List ℕ)). KeepsDefaults options all c.add_directive.new.self) (said_more names items index c.directive-item.result lt c.directive-item.is)
          (c.in_ok-add_directive.ensures.named options (names ++ map completed (filter_map default_said (map said (take index items)))) (c.loop-directive.invariant.named options names was));
      total_kept = c.in_ok-add_directive.ensures.total_kept ∙ c.loop-directive.invariant.total_kept;
    }

pub returns-clause-named : goal.returns-clause-named
returns-clause-named c = λ options modules was.
    let items = c.directives-directive-items.result.now in
    subst (λ (all : List (List ℕ)). KeepsDefaults options all c.loop-directive.self) (said_all options modules c.args.module.now items c.loop-directive.directive-index c.loop-directive-test.false c.directives-directive-items.ensures.directives)
    (c.loop-directive.invariant.named options (default_names options modules) was)
