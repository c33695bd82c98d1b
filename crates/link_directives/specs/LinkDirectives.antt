-- What the directives of all modules say together: merges of sections, alignments of commons, and keys whose values differ
-- (MSVC linker reference, "/MERGE"; ALIGNCOMM and FAILIFMISMATCH as this linker reads them).
use Rattle.std.specs.Prelude.{ℕ, ◌^◌, Bool, if◌then◌else◌, List, [], ◌++◌, length, take, slice_index_or, min, max, flat_map, filter_map, fold, Option, Some, None, option_and_then}
use Rattle.std.specs.List.{find}
use Rattle.link_base.specs.NameText.{same_name}
use Rattle.link_base.specs.Refusals.{first_refusal_below}
use Rattle.directives.specs.Said.{Said}
use Rattle.directives.specs.Said as says
use Rattle.module_view.specs.Module.{ModuleView}
use Rattle.module_view.specs.ModuleDirectives.{module_directives}
use Rattle.link_directives.specs.declared.mismatch.Mismatch.{Mismatch}

abbrev pub directives_by : ModuleView → List Said
directives_by view = module_directives view.bytes

-- the directives of all modules, in the order of the modules and of their sections
abbrev pub all_directives : List ModuleView → List Said
all_directives modules = flat_map directives_by modules

-- ---- merges

-- the base name of the sections that are merged, and that of the section that they become part of
abbrev pub merge_said : Said → Option (List ℕ × List ℕ)
merge_said (says.Merge left right) = Some (left, right)
merge_said (says.AlignComm name log) = None
merge_said (says.AlternateName left right) = None
merge_said (says.DefaultLib text) = None
merge_said (says.Exports row) = None
merge_said (says.FailIfMismatch key value) = None
merge_said (says.Include name) = None

-- those that are given, then those of the modules in their order
abbrev pub link_merges : List (List ℕ × List ℕ) → List ModuleView → List (List ℕ × List ℕ)
link_merges given modules = given ++ filter_map merge_said (all_directives modules)

-- ---- keys whose values differ

-- a key and its value
abbrev pub key_said : Said → Option (List ℕ × List ℕ)
key_said (says.FailIfMismatch key value) = Some (key, value)
key_said (says.AlignComm name log) = None
key_said (says.AlternateName left right) = None
key_said (says.DefaultLib text) = None
key_said (says.Exports row) = None
key_said (says.Include name) = None
key_said (says.Merge left right) = None

abbrev pub all_keys : List ModuleView → List (List ℕ × List ℕ)
all_keys modules = filter_map key_said (all_directives modules)

abbrev pub entry_at : List (List ℕ × List ℕ) → ℕ → List ℕ × List ℕ
entry_at entries k = slice_index_or entries k ([], [])

abbrev pub has_key : List ℕ → List ℕ × List ℕ → Bool
has_key key entry = same_name entry.0 key

-- a value that differs from an earlier one of its key
abbrev pub mismatch_with : List ℕ × List ℕ → List ℕ × List ℕ → Option Mismatch
mismatch_with later first =
    if same_name first.1 later.1 then None else Some (record { key = later.0; first = first.1; second = later.1 })

-- that of the value at a place with the first value of its key, where that stands before. Up to the first mismatch all values of
-- one key are equal, so that it does not matter with which of them the next is compared
abbrev pub mismatch_at : List (List ℕ × List ℕ) → ℕ → Option Mismatch
mismatch_at entries k =
    option_and_then (mismatch_with (entry_at entries k)) (find (has_key (entry_at entries k).0) (take k entries))

abbrev pub mismatch_in : List (List ℕ × List ℕ) → Option Mismatch
mismatch_in entries = first_refusal_below (length entries) (mismatch_at entries)

-- the first directive whose key stands earlier with another value
unfoldable pub mismatch_of : List ModuleView → Option Mismatch
mismatch_of modules = mismatch_in (all_keys modules)

-- ---- alignments of commons

-- the greatest power of two that a common can be aligned to, by its exponent
abbrev pub GREATEST_POWER : ℕ
GREATEST_POWER = 13

-- the alignment that a directive asks for a name
abbrev pub asked_alignment : ℕ → ℕ
asked_alignment log = 2 ^ min log GREATEST_POWER

abbrev pub asked_by : List ℕ → Said → Option ℕ
asked_by name (says.AlignComm other log) = if same_name other name then Some (asked_alignment log) else None
asked_by name (says.AlternateName left right) = None
asked_by name (says.DefaultLib text) = None
asked_by name (says.Exports row) = None
asked_by name (says.FailIfMismatch key value) = None
asked_by name (says.Include other) = None
asked_by name (says.Merge left right) = None

-- the alignments that the directives of all modules ask for a name
abbrev pub asked_alignments : List ModuleView → List ℕ → List ℕ
asked_alignments modules name = filter_map (asked_by name) (all_directives modules)

-- the greatest of an alignment and those that are asked for
unfoldable pub raised_alignment : List ModuleView → List ℕ → ℕ → ℕ
raised_alignment modules name alignment = fold max alignment (asked_alignments modules name)
