use Rattle.std.proofs.Common.{◌≡◌, ◌<◌, ◌++◌, ℕ, List, length, map, filter}
use Rattle.std.specs.List.{AllZip, range_with_len}
use Rattle.module_view.specs.ImportModule.{module_definitions}
use Rattle.module_view.specs.Module.{ModuleView, module_at}
use Rattle.symbol_names.specs.Interning.{NotesDefinition}
use Rattle.comdat.specs.Entries.{KeepsEntries}
use Rattle.comdat.specs.Groups.{Named}
use Rattle.comdat.specs.Selection.{goes_by_name, entry_in}
use Rattle.comdat.proofs.sections.read_module.Given as goal

abbrev pub invariant-loop-index : goal.invariant-loop-index
invariant-loop-index l =
    (names : List (List ℕ)) (modules : List ModuleView) (named : List Named) → l.position < length modules
    → module_at modules l.position ≡ l.«module» → AllZip (NotesDefinition names) (module_definitions l.«module») l.noted
    → KeepsEntries names modules named l.initial.entries.items
    → KeepsEntries names modules (named ++ map (entry_in l.position l.«module».bytes) (filter (goes_by_name l.«module».bytes) (range_with_len 1 l.index))) l.entries.items
