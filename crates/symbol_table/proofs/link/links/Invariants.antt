use Rattle.std.proofs.Common.{◌≡◌, ℕ, ◌<◌, List, length}
use Rattle.symbol_names.specs.LinkView.{LinkView}
use Rattle.symbol_names.specs.Alternates.{all_alternates}
use Rattle.symbol_names.specs.Lists.{live_definitions, all_commons, all_weaks}
use Rattle.symbol_table.specs.Resolution.{step}
use Rattle.symbol_names.specs.Interning.{Numbers}
use Rattle.symbol_names.specs.Kept.{rows_of}
use Rattle.symbol_table.specs.Passes.{AreFirst, TellsGreatest, TellsWeaks, TellsAlternates}
use Rattle.symbol_table.specs.Links.{IsStep, link_at}
use Rattle.symbol_table.proofs.link.links.Given as goal

abbrev pub invariant-loop-number : goal.invariant-loop-number
invariant-loop-number l = record {
  long : length l.links.items ≡ l.number;
  each : (view : LinkView) (k : ℕ) (name : List ℕ) → AreFirst l.names.keys (live_definitions view.modules (rows_of l.chosen)) l.firsts → TellsGreatest l.names.keys (all_commons view.modules) l.commons → TellsWeaks l.names.keys (all_weaks view.modules) l.weaks → TellsAlternates l.names.keys (all_alternates view) l.alternates → k < l.number → Numbers l.names.keys k name → IsStep l.names.keys (step view (rows_of l.chosen) name) (link_at l.links.items k);
}
