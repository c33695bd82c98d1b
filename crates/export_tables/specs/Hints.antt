-- The hints of exports: the places of names among those that the table lists (PE Format, "Hint/Name Table").
use Rattle.std.specs.Prelude.{ℕ, if◌then◌else◌, List, map, count_by, Option, Some, None}
use Rattle.std.specs.List.{filter_map}
use Rattle.directives.specs.declared.item.Export.{Export}
use Rattle.export_tables.specs.Ordinals.{comes_before}

-- the name by which the table lists an export, where it does
abbrev pub listed_name : Export → Option (List ℕ)
listed_name row = if row.noname then None else Some row.name

abbrev pub listed_names : List Export → List (List ℕ)
listed_names rows = filter_map listed_name rows

-- the place of a name: how many of those that are listed come before it
unfoldable pub hint_in : List (List ℕ) → Export → ℕ
hint_in names row = count_by (comes_before row.name) names

unfoldable pub hint_of : List Export → Export → ℕ
hint_of rows row = hint_in (listed_names rows) row

-- those of all exports, in their order
abbrev pub hints_of : List Export → List ℕ
hints_of rows = map (hint_of rows) rows
