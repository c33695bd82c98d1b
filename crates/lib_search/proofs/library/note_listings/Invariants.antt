use Rattle.std.proofs.Common.{◌≡◌, List, get_or}
use Rattle.indexmap.specs.IndexMap.{get}
use Rattle.link_base.specs.NameText.{same_name}
use Rattle.file_search.specs.FoundFiles.{FoundFile, no_file}
use Rattle.lib_search.specs.OpenLibraries.{ListsBelow, ListsSoFar}
use Rattle.lib_search.proofs.library.note_listings.Given as goal

abbrev pub invariant-loop-name : goal.invariant-loop-name
invariant-loop-name l = record {
  can : (goal.iterator-loop-name).can_next l.name-iterator;
  ends : (goal.iterator-loop-name).is_finite l.name-iterator;
  lists : (libraries : List FoundFile) → l.library ≡ get_or libraries l.index no_file → ListsBelow (get same_name l.fn.places) l.index libraries → ListsSoFar (get same_name l.places) l.index l.name-iterator libraries;
}
