-- What the rows of an import library and the name of its DLL are to be. Own.
use Rattle.std.specs.Prelude.{◌≡◌, ℕ, ◌+◌, ◌<◌, ◌≤◌, false, List, length, All}
use Rattle.std.specs.List.{list_any, AllAdjacentBelow}
use Rattle.std.specs.Ordering.{nat_cmp}
use Rattle.std.specs.Cmp.Lexicographic.{slice_cmp}
use Rattle.std.specs.declared.cmp.Ordering.TheVariants.{Less}
use Rattle.link_base.specs.Bytes.{is_nul}
use Rattle.link_base.specs.Limits.{NAME_LIMIT}
use Rattle.short_import.specs.declared.import.ImportBy.{ImportBy}
use Rattle.short_import.specs.declared.import.ImportBy.TheVariants.{Ordinal, Named}
use Rattle.implib.specs.declared.row.LibraryRow.{LibraryRow}

-- the greatest number of rows: an index from 1 on has two bytes
abbrev pub ROW_LIMIT : ℕ
ROW_LIMIT = 65535

-- the greatest length of the name of a DLL: the file name of an image, with an extension behind a name that has none
abbrev pub DLL_LIMIT : ℕ
DLL_LIMIT = NAME_LIMIT + 4

-- a text with some bytes, no more than these, and no NUL among them
pub record IsText (limit : ℕ) (text : List ℕ) : Type 0 where
  pub some : 0 < length text
  pub short : length text ≤ limit
  pub plain : list_any is_nul text ≡ false

-- what is imported by name has the symbol's
abbrev pub IsBySymbol : List ℕ → ImportBy → Type 0
IsBySymbol symbol (Ordinal ordinal) = Unit {0}
IsBySymbol symbol (Named hint name) = name ≡ symbol

-- one symbol's bytes are before another's
abbrev pub IsBefore : LibraryRow → LibraryRow → Type 0
IsBefore row next = slice_cmp nat_cmp row.symbol next.symbol ≡ Less

-- there are no more rows than indices, their symbols ascend and differ, and each can be written
pub record AreRows (rows : List LibraryRow) : Type 0 where
  pub few : length rows ≤ ROW_LIMIT
  pub ascend : AllAdjacentBelow IsBefore rows (length rows)
  pub symbols : All (λ row. IsText NAME_LIMIT row.symbol) rows
  pub named : All (λ row. IsBySymbol row.symbol row.by) rows
