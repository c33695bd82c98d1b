use Rattle.std.proofs.Common.{◌<◌, List, Vec, length, sym, subst}
use Rattle.std.specs.List.{All}
use Rattle.std.specs.declared.alloc.Global.{Global}
use Rattle.std.proofs.lemmas.Result.{IfOk-weaker}
use Rattle.symbol_names.specs.declared.noted.NotedAlternate.{NotedAlternate}
use Rattle.symbol_names.specs.Alternates.{all_alternates}
use Rattle.symbol_names.specs.Kept.{rows_of}
use Rattle.symbol_names.specs.LinkView.{LinkView}
use Rattle.symbol_names.specs.Lists.{live_definitions, all_commons, all_weaks}
use Rattle.symbol_table.specs.declared.link.Link.{Link}
use Rattle.symbol_table.specs.Links.{AreSteps}
use Rattle.symbol_table.specs.Passes.{AreFirst, TellsGreatest, TellsWeaks, TellsAlternates}
use Rattle.symbol_table.specs.TableParts.{link_view}
use Rattle.symbol_table.proofs.AlternateLemmas.{lefts_within}
use Rattle.symbol_table.proofs.TableLemmas.{steps_hold}
use Rattle.symbol_table.proofs.settled.links_of.Goals as goal

pub first_alternates-requires-clause-given : goal.first_alternates-requires-clause-given
first_alternates-requires-clause-given c =
    let names = c.args.names.now.keys in
    subst (λ (notes : List NotedAlternate). All (λ alternate. alternate.left < length names) notes) (sym c.deref.ensures.value)
    (lefts_within names _ _ c.requires.kept.alternates)

pub returns : goal.returns
returns c =
    let names = c.args.names.now.keys in
    let given = c.args.given.now in
    let kept = c.args.modules.now in
    let chosen = rows_of c.args.chosen.now in
    IfOk-weaker c.links.result
    (λ (links : Vec Link Global). (view : LinkView) → AreFirst names (live_definitions view.modules chosen) c.args.firsts.now → TellsGreatest names (all_commons view.modules) c.deref-2.result.now
    → TellsWeaks names (all_weaks view.modules) c.deref-3.result.now → TellsAlternates names (all_alternates view) c.deref-4.result.now → AreSteps view chosen names links.items)
    (λ links. AreSteps (link_view given kept) chosen names links.items)
    (λ links each. steps_hold names given kept chosen c.args.firsts.now c.deref.result.now c.in_ok-commons.commons.items c.deref-2.result.now c.in_ok-weaks.weaks.items c.deref-3.result.now
    c.in_ok-alternates.alternates.items c.deref-4.result.now links.items c.requires.kept c.deref.ensures.value c.deref-2.ensures.value c.deref-3.ensures.value c.deref-4.ensures.value
    c.requires.first c.in_ok-commons.ensures c.in_ok-weaks.ensures c.in_ok-alternates.ensures each)
    c.links.ensures
