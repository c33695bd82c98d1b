use Rattle.std.specs.List.{range_with_len, flat_map}
use Rattle.module_view.specs.Module.{module_at}
use Rattle.comdat.specs.Entries.{KeepsEntries}
use Rattle.comdat.specs.Selection.{entries_of}
use Rattle.comdat.proofs.sections.read_sections.Given as goal

abbrev pub invariant-loop-position : goal.invariant-loop-position
invariant-loop-position l =
    KeepsEntries l.names.keys l.modules (flat_map (λ k. entries_of k (module_at l.modules k).bytes) (range_with_len 0 l.position)) l.entries.items
