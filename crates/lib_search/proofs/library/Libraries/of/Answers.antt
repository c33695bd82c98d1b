use Rattle.std.proofs.Common.{◌≡◌, ℕ, length, ap, subst, arith}
use Rattle.std.specs.Map.{lookup}
use Rattle.indexmap.specs.IndexMap.{get}
use Rattle.link_base.specs.NameText.{same_name}
use Rattle.lib_search.specs.OpenLibraries.{ListsBelow}
use Rattle.lib_search.proofs.LibraryLemmas.{lists_none, library_here}
use Rattle.lib_search.proofs.library.Libraries.of.Goals as goal

pub loop-index-init : goal.loop-index-init
loop-index-init c =
    lists_none c.args.list.items (get same_name c.in_ok-places.places) (λ name. ap (λ entries. lookup (same_name name) entries) c.in_ok-places.ensures.empty)

pub loop-index-preserved : goal.loop-index-preserved
loop-index-preserved c =
    c.in_ok-note_listings.ensures c.args.list.items
    (library_here c.args.list.items c.loop-index.index c.index.result.now (omega (arith, c.loop-index-test.true, c.len-index-end.ensures, c.args.list.ok.0)) c.index.ensures)
    c.loop-index.invariant

pub invariant_of-result : goal.invariant_of-result
invariant_of-result c =
    let end : c.loop-index.index ≡ length c.args.list.items = omega (arith, c.loop-index-test.false, c.len-index-end.ensures, c.args.list.ok.0) in
    subst (λ (n : ℕ). ListsBelow (get same_name c.loop-index.places) n c.args.list.items) end c.loop-index.invariant
