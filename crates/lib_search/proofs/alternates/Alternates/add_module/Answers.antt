use Rattle.std.proofs.Common.{ℕ, List, ◌++◌, ◌∷◌, [], ap, ◌∙◌, arith}
use Rattle.std.specs.List.{filter_map}
use Rattle.directives.specs.Said.{said}
use Rattle.symbol_names.specs.Alternates.{alternate_said}
use Rattle.lib_search.proofs.WaitLemmas.{said_next}
use Rattle.lib_search.proofs.alternates.Alternates.add_module.Goals as goal

pub loop-directive-preserved : goal.loop-directive-preserved
loop-directive-preserved c = record {
  kept = c.in_ok-add_directive.ensures.kept;
  pairs =
      c.in_ok-add_directive.ensures.pairs
      ∙ ap (λ (pairs : List (List ℕ × List ℕ)). pairs ++ filter_map alternate_said (said c.directive-item.result ∷ [])) c.loop-directive.invariant.pairs
      ∙ said_next c.args.self.now.pairs.items c.directives-directive-items.result.now c.loop-directive.directive-index c.directive-item.result (omega (arith, c.loop-directive-test.true)) c.directive-item.is;
}
