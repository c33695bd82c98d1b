-- Exports by the bytes of their names. Own.
use Rattle.std.specs.Prelude.{ℕ, List, map, length}
use Rattle.std.specs.List.{range_with_len}
use Rattle.directives.specs.declared.item.Export.{Export}
use Rattle.sorted_lists.specs.Order.{in_order}
use Rattle.export_tables.specs.declared.names.NameEntry.{NameEntry}
use Rattle.export_tables.specs.ExportTable.{entry_cmp}
use Rattle.export_tables.specs.Ordinals.{row_at}

-- the name of an export and its index
abbrev pub row_entry : List Export → ℕ → NameEntry
row_entry rows index = record { name = (row_at rows index).name; index = index }

abbrev pub row_entries : List Export → List NameEntry
row_entries rows = map (row_entry rows) (range_with_len 0 (length rows))

-- the indexes of exports by their names; where these are equal the indexes count
unfoldable pub name_order : List Export → List ℕ
name_order rows = map (λ entry. entry.index) (in_order entry_cmp (row_entries rows))
