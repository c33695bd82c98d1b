use Rattle.std.proofs.Common.{List, ◌++◌, ap, ◌∙◌, arith}
use Rattle.link_words.specs.Outcome.{options_said}
use Rattle.symbol_names.specs.Alternates.{alternates_by}
use Rattle.lib_search.proofs.JoinedLemmas.{said_by_more}
use Rattle.lib_search.proofs.search.alternates_of.Goals as goal

pub loop-module-preserved : goal.loop-module-preserved
loop-module-preserved c = record {
  kept = c.in_ok-add_module.ensures.kept;
  pairs =
      c.in_ok-add_module.ensures.pairs
      ∙ ap (λ (pairs : List (List _ × List _)). pairs ++ alternates_by 0 c.module-item.result.bytes) c.loop-module.invariant.pairs
      ∙ said_by_more (options_said c.args.options.now) c.args.modules.now c.loop-module.module-index c.module-item.result (omega (arith, c.loop-module-test.true)) c.module-item.is;
}
