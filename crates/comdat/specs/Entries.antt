-- What is kept of the sections that go by a name. Own.
use Rattle.std.specs.Prelude.{◌≡◌, ℕ, ◌<◌, ◌≤◌, false, List, length, map, slice_index_or}
use Rattle.std.specs.List.{All}
use Rattle.coff_records.specs.ObjectFile.{section_total}
use Rattle.module_view.specs.Module.{ModuleView, module_at}
use Rattle.symbol_names.specs.Interning.{Numbers}
use Rattle.comdat.specs.declared.entry.Entry.{Entry}
use Rattle.comdat.specs.Groups.{Named, is_same_section}
use Rattle.comdat.specs.Selection.{entry_in}

abbrev pub no_entry : Entry
no_entry = record { number = 0; «module» = 0; section = 0; selection = 0 }

abbrev pub selection_at : List Entry → ℕ → ℕ
selection_at entries k = (slice_index_or entries k no_entry).selection

-- the section that one stands for
abbrev pub entry_at : List ModuleView → Entry → Named
entry_at modules entry = entry_in entry.«module» (module_at modules entry.«module»).bytes entry.section

abbrev pub named_by : List ModuleView → List Entry → List Named
named_by modules entries = map (entry_at modules) entries

-- it is one of a module, and its selection is kept
pub record IsSection (modules : List ModuleView) (entry : Entry) : Type 0 where
  pub within : entry.«module» < length modules
  pub first : 1 ≤ entry.section
  pub last : entry.section ≤ section_total (module_at modules entry.«module»).bytes
  pub selection : entry.selection ≡ (entry_at modules entry).candidate.selection

-- and so is the number of its name
pub record KeepsEntry (names : List (List ℕ)) (modules : List ModuleView) (entry : Entry) : Type 0 where
  pub section : IsSection modules entry
  pub number : Numbers names entry.number (entry_at modules entry).name

-- those that stand for some sections
pub record KeepsEntries (names : List (List ℕ)) (modules : List ModuleView) (named : List Named) (entries : List Entry) : Type 0 where
  pub stand_for : named_by modules entries ≡ named
  pub each : All (KeepsEntry names modules) entries

-- a section of the module at a position
pub record IsSectionOf (modules : List ModuleView) (position : ℕ) (view : ModuleView) (section : ℕ) : Type 0 where
  pub within : position < length modules
  pub is : module_at modules position ≡ view
  pub first : 1 ≤ section
  pub last : section ≤ section_total view.bytes

-- two are not one section
abbrev pub AreApart : Named → Named → Type 0
AreApart one other = is_same_section other.candidate one.candidate ≡ false
