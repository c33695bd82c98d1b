-- What callers may cite: the table of the slots has bytes where an import is kept.
use Rattle.std.proofs.Common.{◌≡◌, ℕ, ◌+◌, ◌<◌, Bool, true, false, List, [], length, get_or, Option, Some, None, option_map, refl, ap, ◌∙◌, arith}
use Rattle.std.proofs.lemmas.Bool.{false≢true}
use Rattle.std.specs.List.{cons_option}
use Rattle.std.specs.Option.{is_some}
use Rattle.short_import.specs.declared.import.Import.{Import}
use Rattle.module_view.specs.Module.{ModuleView, module_at}
use Rattle.import_tables.specs.declared.row.ImportRow.{ImportRow}
use Rattle.import_tables.specs.ImportShape.{extent_of, sizes_of}
use Rattle.import_tables.proofs.ApartLemmas.{table_inside}
use Rattle.synthetic_sections.specs.LinkerPieces.{SLOTS, size_at}
use Rattle.link_imports.specs.Imports.{is_import, row_of, row_if, row_at, import_rows, import_sizes}
use Rattle.link_imports.proofs.RowLemmas.{count_after, rows_among}

has_row : (import : Option Import) → is_some import ≡ true → length (cons_option (option_map row_of import) []) ≡ 1
has_row None some = absurd (false≢true some)
has_row (Some import) some = refl

kept_row : (modules : List ModuleView) (kept : List Bool) (position : ℕ) → get_or kept position false ≡ true → is_import modules position ≡ true → length (cons_option (row_at modules kept position) []) ≡ 1
kept_row modules kept position told some =
    ap (λ (b : Bool). length (cons_option (row_if b (module_at modules position)) [])) told
    ∙ has_row (module_at modules position).imported some

slots_some : (rows : List ImportRow) → 0 < length rows → 0 < size_at (sizes_of rows) SLOTS
unfolding sizes_of extent_of
slots_some rows some = let within = table_inside rows 0 some in omega arith

pub slots_made : (modules : List ModuleView) (kept : List Bool) (position : ℕ) → position < length modules → get_or kept position false ≡ true → is_import modules position ≡ true → 0 < size_at (import_sizes modules kept) SLOTS
slots_made modules kept position lt told some =
    slots_some (import_rows modules kept)
    (omega (arith, count_after modules kept position, kept_row modules kept position told some, rows_among modules kept (position + 1) (length modules) (omega arith)))
