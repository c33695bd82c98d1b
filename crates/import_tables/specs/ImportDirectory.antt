-- The imports of a mapped image, by a walk over its import directory (PE Format, "The .idata Section"). The bytes are
-- those of the image from RVA 0 on.
use Rattle.std.specs.Prelude.{◌≡◌, ℕ, zero, suc, ◌+◌, ◌%◌, ◌^◌, Bool, ◌&&◌, ◌==◌, nat_lt, nat_le, if◌then◌else◌, List, [], ◌∷◌, ◌++◌, length, Option, Some, None, option_map}
use Rattle.std.specs.Option.{option_and_then}
use Rattle.link_base.specs.Bytes.{u32_at, u64_at, has_bytes, field, text_at}
use Rattle.short_import.specs.declared.import.ImportBy.{ImportBy}
use Rattle.short_import.specs.declared.import.ImportBy.TheVariants as by
use Rattle.import_tables.specs.declared.found.ImportFound.{ImportFound}
use Rattle.import_tables.specs.declared.found.TableError.{TableError}
use Rattle.import_tables.specs.declared.found.TableError.TheVariants.{Range, Memory}
use Rattle.import_tables.specs.declared.lookup.Entry.{Entry}
use Rattle.import_tables.specs.declared.lookup.Entry.TheVariants.{End, Import, Leaves}
use Rattle.import_tables.specs.Constants.{SIZEOF_IMPORT_DESCRIPTOR, SIZEOF_LOOKUP_ENTRY, ORDINAL_FLAG64}

-- ---- a lookup entry ("Import Lookup Table", "Hint/Name Table")

-- a place that leaves the memory is told by its RVA, or by that of the entry where it is not below 2^32
abbrev pub told_rva : ℕ → ℕ → ℕ
told_rva place entry = if nat_lt place (2 ^ 32) then place else entry

-- a hint of two bytes and a name that a NUL ends
unfoldable pub hint_and_name : List ℕ → ℕ → Option ImportBy
hint_and_name memory place =
    option_and_then (λ hint. option_map (by.Named hint) (text_at memory (place + 2))) (field 2 memory place)

abbrev pub named_entry : ℕ → ℕ → Option ImportBy → Entry
named_entry at place None = Leaves (told_rva place at)
named_entry at place (Some how) = Import how

-- an entry, at an RVA where its eight bytes are there: bit 63 and an ordinal, or the RVA of a hint and a name; zero ends
-- the table. Its slot is to be there too.
unfoldable pub entry_at : List ℕ → ℕ → ℕ → Entry
entry_at memory at slot =
    let number = u64_at memory at in
    if number == 0 then End
    else (if has_bytes memory slot SIZEOF_LOOKUP_ENTRY then (if nat_le ORDINAL_FLAG64 number then Import (by.Ordinal (number % 2 ^ 16)) else named_entry at number (hint_and_name memory number))
    else Leaves (told_rva slot at))

-- ---- the walk

-- what a walk gives: the imports in order, or the RVA of the first thing that leaves the memory
pub data Walk : Type 0 where
  Imports : List ImportFound → Walk
  LeavesAt : ℕ → Walk

abbrev pub then_walk : Walk → Walk → Walk
then_walk (Imports first) (Imports second) = Imports (first ++ second)
then_walk (Imports first) (LeavesAt rva) = LeavesAt rva
then_walk (LeavesAt rva) second = LeavesAt rva

abbrev pub import_of : List ℕ → ImportBy → ℕ → ImportFound
import_of dll how slot = record { dll = dll; by = how; slot = slot }

abbrev pub with_entry : List ℕ → ℕ → Entry → Walk → Walk
with_entry dll slot End rest = Imports []
with_entry dll slot (Leaves rva) rest = LeavesAt rva
with_entry dll slot (Import how) rest = then_walk (Imports (import_of dll how slot ∷ [])) rest

-- the imports of a DLL by the entries from an RVA on, of which at most `most` are read; the slots stand as the entries do
unfoldable pub entries_from : ℕ → List ℕ → List ℕ → ℕ → ℕ → Walk
entries_from zero memory dll at slot = Imports []
entries_from (suc most) memory dll at slot =
    if has_bytes memory at SIZEOF_LOOKUP_ENTRY then with_entry dll slot (entry_at memory at slot) (entries_from most memory dll (at + SIZEOF_LOOKUP_ENTRY) (slot + SIZEOF_LOOKUP_ENTRY))
    else LeavesAt at

-- more entries than bytes are never read
unfoldable pub entries_of : List ℕ → List ℕ → ℕ → ℕ → Walk
entries_of memory dll lookup slots = entries_from (length memory + 1) memory dll lookup slots

-- ---- a descriptor ("Import Directory Table"): the RVAs of its lookup table, of its DLL's name and of its slots

abbrev pub lookup_rva : List ℕ → ℕ → ℕ
lookup_rva memory at = u32_at memory at

abbrev pub name_rva : List ℕ → ℕ → ℕ
name_rva memory at = u32_at memory (at + 12)

abbrev pub slots_rva : List ℕ → ℕ → ℕ
slots_rva memory at = u32_at memory (at + 16)

-- twenty zero bytes end the directory
unfoldable pub is_last : List ℕ → ℕ → Bool
is_last memory at =
    (u64_at memory at == 0) && ((u64_at memory (at + 8) == 0) && (u32_at memory (at + 16) == 0))

abbrev pub of_dll : List ℕ → ℕ → Option (List ℕ) → Walk
of_dll memory at None = LeavesAt (name_rva memory at)
of_dll memory at (Some dll) = entries_of memory dll (lookup_rva memory at) (slots_rva memory at)

-- the imports of the descriptor at an RVA
unfoldable pub descriptor_imports : List ℕ → ℕ → Walk
descriptor_imports memory at = of_dll memory at (text_at memory (name_rva memory at))

-- those of the descriptors from an RVA on, of which at most `most` are read
unfoldable pub descriptors_from : ℕ → List ℕ → ℕ → Walk
descriptors_from zero memory at = Imports []
descriptors_from (suc most) memory at =
    if has_bytes memory at SIZEOF_IMPORT_DESCRIPTOR then (if is_last memory at then Imports [] else then_walk (descriptor_imports memory at) (descriptors_from most memory (at + SIZEOF_IMPORT_DESCRIPTOR)))
    else LeavesAt at

-- the imports of a mapped image whose import directory stands at an RVA: none at RVA 0
unfoldable pub imports_of : List ℕ → ℕ → Walk
imports_of memory rva = if rva == 0 then Imports [] else descriptors_from (length memory + 1) memory rva

-- why a walk is refused: the RVA at which it leaves the memory, or want of memory
abbrev pub IsRefusal : Walk → TableError → Type 0
IsRefusal walk (Range rva) = walk ≡ LeavesAt rva
IsRefusal walk Memory = Unit {0}
