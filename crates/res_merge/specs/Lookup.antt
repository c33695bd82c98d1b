-- A resource in the resource tree of any memory (PE Format, "The .rsrc Section"; what is found where a tree is malformed is
-- own).
use Rattle.std.specs.Prelude.{ℕ, ◌+◌, ◌-◌, ◌*◌, ◌/◌, Bool, ◌&&◌, nat_le, nat_lt, min, ◌==◌, if◌then◌else◌, List, [], ◌∷◌, length, map, Option, Some, None, option_map, option_and_then}
use Rattle.std.specs.List.{range_with_len}
use Rattle.link_base.specs.Bytes.{u16_at, u32_at, has_bytes, bytes_at}
use Rattle.link_base.specs.NameText.{same_name}
use Rattle.res_merge.specs.declared.rows.Row.{Row}
use Rattle.res_merge.specs.Entries.{Key, Number, Text}
use Rattle.res_merge.specs.Tree.{HIGH_BIT, TABLE_SIZE, ROW_SIZE, LEAF_SIZE}

-- ---- a table, by its offset in the range that the tree stands in

abbrev pub row_at : List ℕ → ℕ → ℕ → Row
row_at part table index = record {
  id = u32_at part (table + TABLE_SIZE + ROW_SIZE * index);
  target = u32_at part (table + TABLE_SIZE + ROW_SIZE * index + 4);
}

-- how many entries a table counts, texts and numbers, and how many of them lie in the range
abbrev pub counted_rows : List ℕ → ℕ → ℕ
counted_rows part table = u16_at part (table + 12) + u16_at part (table + 14)

unfoldable pub row_count : List ℕ → ℕ → ℕ
row_count part table = min (counted_rows part table) ((length part - (table + TABLE_SIZE)) / ROW_SIZE)

unfoldable pub rows_at : List ℕ → ℕ → List Row
rows_at part table = map (row_at part table) (range_with_len 0 (row_count part table))

-- ---- an entry of a table

-- the text at an offset is this one: a count of units, and the units
abbrev pub is_text_at : List ℕ → ℕ → List ℕ → Bool
is_text_at part offset units =
    has_bytes part offset (2 + length units)
    && ((2 * u16_at part offset == length units) && same_name (bytes_at part (offset + 2) (length units)) units)

-- an entry has this number or text
unfoldable pub is_named : List ℕ → Key → ℕ → Bool
is_named part (Number number) id = id == number
is_named part (Text units) id = nat_le HIGH_BIT id && is_text_at part (id - HIGH_BIT) units

-- where the first entry leads that does
unfoldable pub first_named : List ℕ → Key → List Row → Option ℕ
first_named part key [] = None
first_named part key (row ∷ rest) = if is_named part key row.id then Some row.target else first_named part key rest

-- ---- three steps

-- a step from a table to a table, by its offset
abbrev pub table_target : ℕ → Option ℕ
table_target target = if nat_le HIGH_BIT target then Some (target - HIGH_BIT) else None

unfoldable pub table_step : List ℕ → Key → ℕ → Option ℕ
table_step part key table = option_and_then table_target (first_named part key (rows_at part table))

-- a step from a table to a leaf
abbrev pub leaf_target : List ℕ → ℕ → Option ℕ
leaf_target part target = if nat_lt target HIGH_BIT && has_bytes part target LEAF_SIZE then Some target else None

unfoldable pub leaf_step : List ℕ → Key → ℕ → Option ℕ
leaf_step part key table = option_and_then (leaf_target part) (first_named part key (rows_at part table))

-- ---- a resource

-- the RVA and the size that a leaf gives, where these bytes lie in the range, which begins at an RVA
unfoldable pub leaf_data : List ℕ → ℕ → ℕ → Option (ℕ × ℕ)
leaf_data part rva leaf =
    if nat_le rva (u32_at part leaf) && nat_le (u32_at part leaf + u32_at part (leaf + 4)) (rva + length part)
    then Some (u32_at part leaf, u32_at part (leaf + 4)) else None

-- the RVA and the size of a resource's data
unfoldable pub place_in : List ℕ → ℕ → Key → Key → ℕ → Option (ℕ × ℕ)
place_in part rva kind name language =
    option_and_then (leaf_data part rva)
    (option_and_then (leaf_step part (Number language)) (option_and_then (table_step part name) (table_step part kind 0)))

abbrev pub resource_place : List ℕ → ℕ → ℕ → Key → Key → ℕ → Option (ℕ × ℕ)
resource_place memory rva size kind name language = place_in (bytes_at memory rva size) rva kind name language

-- the data of a resource
unfoldable pub resource_data : List ℕ → ℕ → ℕ → Key → Key → ℕ → Option (List ℕ)
resource_data memory rva size kind name language =
    option_map (λ place. bytes_at memory place.0 place.1) (resource_place memory rva size kind name language)
