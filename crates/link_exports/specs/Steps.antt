-- What functions of this crate promise one another. It decides nothing.
use Rattle.std.specs.Prelude.{◌≡◌, ℕ, Bool, List, Option, map}
use Rattle.directives.specs.declared.item.Export.{Export}
use Rattle.link_exports.specs.declared.rows.NotedRows.{NotedRows}

-- all by which exports differ
abbrev pub SaidRow : Type 0
SaidRow = List ℕ × Option (List ℕ) × Option ℕ × Bool

abbrev pub said_row : Export → SaidRow
said_row row = (row.name, row.internal, row.ordinal, row.noname)

-- each export is known by what it says
abbrev pub AreNoted : NotedRows → Type 0
AreNoted noted = noted.said.keys ≡ map said_row noted.rows.items
