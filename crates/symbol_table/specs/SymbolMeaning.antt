-- What the name of a symbol means, by its record. Own.
use Rattle.std.specs.Prelude.{◌≡◌, ℕ, true, List, Option}
use Rattle.std.specs.Borrow.{Bor}
use Rattle.std.specs.Option.{option_copied}
use Rattle.std.specs.Result.{result_ok}
use Rattle.coff_records.specs.ObjectFile.{starts_symbol, symbol_name_of}
use Rattle.symbol_table.specs.declared.meaning.Meaning.{Meaning}
use Rattle.symbol_table.specs.Resolution.{meaning_of}
use Rattle.symbol_table.specs.TableParts.{ResolvedView}

-- a symbol starts at a record of an object, and this is what its name means, none where it means nothing
pub record MeansSymbol (names : ResolvedView) (bytes : List ℕ) (symbol : ℕ) (meant : Option (Bor Meaning)) : Type 0 where
  pub starts : starts_symbol bytes symbol ≡ true
  pub means : option_copied meant ≡ result_ok (meaning_of names.link names.chosen (symbol_name_of bytes symbol))
