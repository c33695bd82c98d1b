-- The names that modules refer to, and which of them mean nothing. Own.
use Rattle.std.specs.Prelude.{ℕ, if◌then◌else◌, List, length, map, Option, Some, None, Result, Ok, Err}
use Rattle.std.specs.Option.{option_or}
use Rattle.link_base.specs.Refusals.{first_standing, first_refusal_below}
use Rattle.link_base.specs.declared.fault.Fault.{Fault}
use Rattle.link_base.specs.declared.fault.Fault.TheVariants as faults
use Rattle.module_view.specs.Module.{module_at}
use Rattle.link_pieces.specs.LinkParts.{LinkParts}
use Rattle.coff_records.specs.ObjectFile.{SymbolEntry, name_in, symbol_entries}
use Rattle.symbol_names.specs.References.{names_by}
use Rattle.symbol_table.specs.declared.meaning.Meaning.{Meaning}
use Rattle.symbol_table.specs.declared.meaning.NoMeaning.{NoMeaning}
use Rattle.symbol_table.specs.declared.meaning.NoMeaning.TheVariants.{Undefined, WeakCycle}
use Rattle.link_pieces.specs.NameMeaning.{name_meaning}
use Rattle.link_pieces.specs.LocalSlots.{asks}

abbrev pub no_meaning_fault : List ℕ → Option ℕ → Result Meaning NoMeaning → Option Fault
no_meaning_fault name at (Ok meaning) = None
no_meaning_fault name at (Err Undefined) = Some (faults.Undefined name at)
no_meaning_fault name at (Err WeakCycle) = Some (faults.WeakCycle name at)

-- a name, said by the module at a position or before all modules, means nothing
abbrev pub name_fault : LinkParts → List ℕ → Option ℕ → Option Fault
name_fault link name at = no_meaning_fault name at (name_meaning link name)

-- ---- the symbols of a module whose names must mean something

abbrev pub symbol_fault : LinkParts → ℕ → SymbolEntry → Option Fault
symbol_fault link position entry =
    if asks link position entry.1 then name_fault link (name_in entry.1) (Some position) else None

-- the first that means nothing, in the order of the symbols
abbrev pub symbols_fault : LinkParts → ℕ → List ℕ → Option Fault
symbols_fault link position bytes = first_standing (map (symbol_fault link position) (symbol_entries bytes))

-- ---- names that the command line and directives ask for (MSVC linker reference, "/INCLUDE" and "/EXPORT")

abbrev pub asked_fault : LinkParts → Option ℕ → List ℕ → Option Fault
asked_fault link at name = name_fault link name at

-- the first of several names that means nothing
abbrev pub names_fault : LinkParts → Option ℕ → List (List ℕ) → Option Fault
names_fault link at names = first_standing (map (asked_fault link at) names)

-- ---- all of them

-- in a module its symbols come before its directives
abbrev pub object_fault_among : LinkParts → ℕ → List ℕ → Option Fault
object_fault_among link position bytes =
    option_or (symbols_fault link position bytes) (names_fault link (Some position) (names_by bytes))

abbrev pub references_fault_at : LinkParts → ℕ → Option Fault
references_fault_at link position = object_fault_among link position (module_at link.modules position).bytes

-- that of all modules, in their order
abbrev pub references_fault : LinkParts → Option Fault
references_fault link = first_refusal_below (length link.modules) (references_fault_at link)

-- ---- the entry

-- it means nothing
abbrev pub entry_meaning_fault : LinkParts → Option (List ℕ) → Option Fault
entry_meaning_fault link None = None
entry_meaning_fault link (Some name) = name_fault link name None
