use Rattle.std.proofs.Common.{List, Option, length, map, sym, subst, ap, ◌∙◌}
use Rattle.symbol_names.specs.Kept.{rows_of, noted_view}
use Rattle.symbol_names.specs.Lists.{live_definitions}
use Rattle.symbol_table.specs.declared.lives.FirstLive.{FirstLive}
use Rattle.symbol_table.specs.Passes.{AreFirst}
use Rattle.symbol_table.specs.TableParts.{link_view}
use Rattle.symbol_table.proofs.TableLemmas.{steps_below}
use Rattle.symbol_table.proofs.settled.settled.Goals as goal

pub links_of-requires-clause-long : goal.links_of-requires-clause-long
links_of-requires-clause-long c =
    ap (λ (firsts : List (Option FirstLive)). length firsts) c.deref.ensures.value ∙ c.in_ok-lives.ensures.long

pub links_of-requires-clause-first : goal.links_of-requires-clause-first
links_of-requires-clause-first c =
    subst (AreFirst c.args.names.now.keys (live_definitions (map noted_view c.args.modules.now) (rows_of c.args.chosen.now))) (sym c.deref.ensures.value) c.in_ok-lives.ensures.first

pub settle-requires-clause-below : goal.settle-requires-clause-below
settle-requires-clause-below c =
    steps_below (link_view c.args.given.now c.args.modules.now) (rows_of c.args.chosen.now) c.args.names.now.keys c.in_ok-links.links.items c.in_ok-links.ensures

pub settle-requires-clause-long : goal.settle-requires-clause-long
settle-requires-clause-long c = c.in_ok-links.ensures.long

pub returns : goal.returns
returns c = record {
  whole = c.requires.kept;
  asked = c.requires.asked;
  meant = c.in_ok-settle.ensures (link_view c.args.given.now c.args.modules.now) (rows_of c.args.chosen.now) c.in_ok-links.ensures;
  clash_is = c.in_ok-lives.ensures.clash_is;
}
