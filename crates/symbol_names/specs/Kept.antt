-- What the rows of chosen sections and what is kept of a module stand for. Own.
use Rattle.std.specs.Prelude.{Bool, true, List, map, replicate}
use Rattle.module_view.specs.Module.{ModuleView}
use Rattle.module_view.specs.ModuleParts.{view_with}
use Rattle.symbol_names.specs.declared.chosen.ChosenRow.{ChosenRow}
use Rattle.symbol_names.specs.declared.chosen.ChosenRow.TheVariants as row
use Rattle.symbol_names.specs.declared.noted.ModuleNames.{ModuleNames}

abbrev pub row_flags : ChosenRow → List Bool
row_flags (row.All count) = replicate count true
row_flags (row.Said flags) = flags.items

abbrev pub rows_of : List ChosenRow → List (List Bool)
rows_of rows = map row_flags rows

-- a module, by what is kept of it
abbrev pub noted_view : ModuleNames → ModuleView
noted_view noted = view_with noted.origin noted.bytes.now noted.imported
