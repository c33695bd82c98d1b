-- The ordinals of exports: those that exports ask for, and those that are given to the others (MSVC linker reference,
-- "/EXPORT"; which ones are given, and what is wrong with exports, is own).
use Rattle.std.specs.Prelude.{◌≡◌, ℕ, ◌+◌, Bool, false, ◌==◌, nat_eq, nat_lt, max, if◌then◌else◌, List, [], ◌∷◌, length, take, map, fold, count_by, slice_index_or, Option, Some, None, is_none, option_map, unwrap_or}
use Rattle.std.specs.List.{filter_map, list_any}
use Rattle.std.specs.Ordering.{is_lt, nat_cmp}
use Rattle.std.specs.Cmp.Lexicographic.{slice_cmp}
use Rattle.directives.specs.declared.item.Export.{Export}
use Rattle.directives.specs.declared.item.ExportForm.TheVariants.{Code}
use Rattle.link_base.specs.Bytes.{first_below}
use Rattle.link_base.specs.NameText.{same_name}
use Rattle.link_base.specs.Refusals.{first_standing}
use Rattle.link_base.specs.declared.kinds.export.ExportFault.{ExportFault}
use Rattle.link_base.specs.declared.kinds.export.ExportFault.TheVariants.{ZeroOrdinal, TwoNames, TwoOrdinals, TooMany}
use Rattle.export_tables.specs.declared.error.ExportError.{ExportError}
use Rattle.export_tables.specs.declared.error.ExportError.TheVariants as error

-- an export of no name
abbrev pub no_export : Export
no_export = record { name = []; internal = None; ordinal = None; noname = false; form = Code; private = false }

abbrev pub row_at : List Export → ℕ → Export
row_at rows index = slice_index_or rows index no_export

-- ---- the ordinals

-- the ordinals that rows ask for, and the greatest of them, or 0
abbrev pub asked : List Export → List ℕ
asked rows = filter_map (λ row. row.ordinal) rows

abbrev pub greatest : List Export → ℕ
greatest rows = fold (λ most row. max most (unwrap_or row.ordinal 0)) 0 rows

-- the names of the rows that ask for none
abbrev pub free_name : Export → Option (List ℕ)
free_name row = if is_none row.ordinal then Some row.name else None

abbrev pub free_names : List Export → List (List ℕ)
free_names rows = filter_map free_name rows

-- a name comes before another by its bytes
abbrev pub comes_before : List ℕ → List ℕ → Bool
comes_before name other = is_lt (slice_cmp nat_cmp other name)

-- a row that asks for none gets one more than a number, and one more for each of some names that comes before its own
unfoldable pub ordinal_above : ℕ → List (List ℕ) → Export → ℕ
ordinal_above most names row = unwrap_or row.ordinal (most + 1 + count_by (comes_before row.name) names)

-- those that ask for none get the numbers above the greatest that is asked for, by the bytes of their names
unfoldable pub ordinal_of : List Export → Export → ℕ
ordinal_of rows row = ordinal_above (greatest rows) (free_names rows) row

abbrev pub ordinals_of : List Export → List ℕ
ordinals_of rows = map (ordinal_of rows) rows

-- ---- what is wrong with rows

abbrev pub is_zero : Option ℕ → Bool
is_zero None = false
is_zero (Some ordinal) = ordinal == 0

-- a row asks for 0
abbrev pub asks_for_zero : List Export → ℕ → Bool
asks_for_zero rows index = is_zero (row_at rows index).ordinal

-- an earlier row has its name
unfoldable pub has_earlier_name : List Export → ℕ → Bool
has_earlier_name rows index = list_any (same_name (row_at rows index).name) (map (λ row. row.name) (take index rows))

-- an earlier row asks for its ordinal
abbrev pub is_among : Option ℕ → List ℕ → Bool
is_among None ordinals = false
is_among (Some ordinal) ordinals = list_any (nat_eq ordinal) ordinals

unfoldable pub has_earlier_ordinal : List Export → ℕ → Bool
has_earlier_ordinal rows index = is_among (row_at rows index).ordinal (asked (take index rows))

-- its ordinal has more than 16 bits
unfoldable pub has_great_ordinal : List Export → ℕ → Bool
has_great_ordinal rows index = nat_lt 65535 (ordinal_of rows (row_at rows index))

-- the least row that fails a test
abbrev pub bad_row : ExportFault → ℕ → ExportError
bad_row kind row = error.Bad row kind

abbrev pub first_bad : ExportFault → List Export → (ℕ → Bool) → Option ExportError
first_bad kind rows test = option_map (bad_row kind) (first_below (length rows) test)

-- the first fault, by its kind and then by its row
unfoldable pub ordinal_fault : List Export → Option ExportError
ordinal_fault rows =
    first_standing
    (first_bad ZeroOrdinal rows (asks_for_zero rows)
    ∷ first_bad TwoNames rows (has_earlier_name rows)
    ∷ first_bad TwoOrdinals rows (has_earlier_ordinal rows)
    ∷ first_bad TooMany rows (has_great_ordinal rows)
    ∷ [])

-- a refusal is the fault that stands; of want of memory nothing is said
abbrev pub RefusesOrdinals : Option ExportError → ExportError → Type 0
RefusesOrdinals standing (error.Bad row kind) = standing ≡ Some (error.Bad row kind)
RefusesOrdinals standing error.Memory = Unit {0}
