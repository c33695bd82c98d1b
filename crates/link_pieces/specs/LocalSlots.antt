-- The local slots of a link: pointers to what is linked, for names that begin with the import prefix and that no import
-- defines. Own.
use Rattle.std.specs.Prelude.{ℕ, Bool, ◌&&◌, ◌||◌, not, if◌then◌else◌, List, [], ◌++◌, length, fold, filter_map, position, Option, Some, None, Result, Ok, Err}
use Rattle.std.specs.List.{flat_map, range_with_len}
use Rattle.std.specs.Ordering.{nat_cmp}
use Rattle.std.specs.Cmp.Lexicographic.{slice_cmp}
use Rattle.std.specs.BTreeSet.{insert_key}
use Rattle.link_base.specs.NameText.{same_name}
use Rattle.coff_records.specs.ObjectFile.{SymbolView, SymbolEntry, name_in, symbol_entries}
use Rattle.module_view.specs.Module.{module_at}
use Rattle.module_view.specs.SymbolLists.{is_definition, place_of, is_reference}
use Rattle.link_pieces.specs.LinkParts.{LinkParts}
use Rattle.symbol_names.specs.Lists.{is_live_at}
use Rattle.symbol_names.specs.References.{names_by}
use Rattle.symbol_table.specs.declared.meaning.Meaning.{Meaning}
use Rattle.symbol_table.specs.declared.meaning.Meaning.TheVariants as meaning
use Rattle.symbol_table.specs.declared.meaning.NoMeaning.{NoMeaning}
use Rattle.comdat.specs.Selection.{chosen_sections}
use Rattle.link_pieces.specs.NameMeaning.{name_meaning}

-- ---- the names that a link refers to

-- a definition in a section that takes no part in the link stands for its name
abbrev pub is_lost : LinkParts → ℕ → SymbolView → Bool
is_lost link position symbol = is_definition symbol && not (is_live_at (chosen_sections link.modules) position (place_of symbol))

unfoldable pub asks : LinkParts → ℕ → SymbolView → Bool
asks link position symbol = is_reference symbol || is_lost link position symbol

abbrev pub name_asked : LinkParts → ℕ → SymbolEntry → Option (List ℕ)
name_asked link position entry = if asks link position entry.1 then Some (name_in entry.1) else None

-- a module refers to names by its symbols, then by its directives
abbrev pub names_asked : LinkParts → ℕ → List ℕ → List (List ℕ)
names_asked link position bytes = filter_map (name_asked link position) (symbol_entries bytes) ++ names_by bytes

abbrev pub modules_asked : LinkParts → List (List ℕ)
modules_asked link = flat_map (λ k. names_asked link k (module_at link.modules k).bytes) (range_with_len 0 (length link.modules))

-- ---- the names of slots

-- the name whose slot a meaning is
abbrev pub slot_in : Result Meaning NoMeaning → Option (List ℕ)
slot_in (Ok (meaning.LocalSlot name)) = Some name
slot_in (Ok (meaning.Section position section value)) = None
slot_in (Ok (meaning.Common position symbol)) = None
slot_in (Ok (meaning.Slot position)) = None
slot_in (Ok (meaning.Thunk position)) = None
slot_in (Ok (meaning.Absolute value)) = None
slot_in (Ok meaning.ImageBase) = None
slot_in (Err none) = None

abbrev pub slot_meant : LinkParts → List ℕ → Option (List ℕ)
slot_meant link name = slot_in (name_meaning link name)

-- with one more, in the order of their bytes, each once
abbrev pub with_slot : List (List ℕ) → List ℕ → List (List ℕ)
with_slot slots name = insert_key (slice_cmp nat_cmp) slots name

abbrev pub with_slots : List (List ℕ) → List (List ℕ) → List (List ℕ)
with_slots slots names = fold with_slot slots names

-- with those that some names mean
abbrev pub with_meant : LinkParts → List (List ℕ) → List (List ℕ) → List (List ℕ)
with_meant link slots names = with_slots slots (filter_map (slot_meant link) names)

-- the names whose slots a link refers to, by words or by modules
unfoldable pub slot_names : LinkParts → List (List ℕ)
slot_names link = with_meant link (with_meant link [] link.words) (modules_asked link)

-- the number of the slot of a name among these, where it is one of them
abbrev pub slot_number : List (List ℕ) → List ℕ → Option ℕ
slot_number slots name = position (same_name name) slots
