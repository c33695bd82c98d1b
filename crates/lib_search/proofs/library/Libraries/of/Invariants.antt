use Rattle.indexmap.specs.IndexMap.{get}
use Rattle.link_base.specs.NameText.{same_name}
use Rattle.lib_search.specs.OpenLibraries.{ListsBelow}
use Rattle.lib_search.proofs.library.Libraries.of.Given as goal

abbrev pub invariant-loop-index : goal.invariant-loop-index
invariant-loop-index l = ListsBelow (get same_name l.places) l.index l.list.items
