use Rattle.std.proofs.Common.{◌≡◌, map}
use Rattle.res_merge.specs.Entries.{entry_of}
use Rattle.res_merge.specs.Left.{items_left}
use Rattle.file_search.specs.Reading.{file_found}
use Rattle.resource_files.specs.Held.{entries_in}
use Rattle.resource_files.specs.Parts.{KeepsResources}
use Rattle.resource_files.proofs.ResourceLemmas.{AddsOn}
use Rattle.resource_files.proofs.files.ResourceFiles.add_all.Given as goal

abbrev pub invariant-loop-item : goal.invariant-loop-item
invariant-loop-item l = record {
  can : (goal.iterator-loop-item).can_next l.item-iterator;
  ends : (goal.iterator-loop-item).is_finite l.item-iterator;
  kept : KeepsResources l.self;
  opened : l.self.opened ≡ l.fn.self.opened;
  adds : AddsOn (map entry_of l.fn.self.resources.items) (entries_in (file_found l.file)) (map entry_of l.self.resources.items) (items_left l.item-iterator);
}
