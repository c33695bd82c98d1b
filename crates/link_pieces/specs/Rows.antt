-- The rows of an index of pieces, one for each module: for its sections with a place for the number 0, and for its symbol
-- records, where it has commons; and one for the pieces that the linker makes. They decide nothing.
use Rattle.std.specs.Prelude.{◌≡◌, ◌⊎◌, ℕ, ◌+◌, ◌-◌, ◌<◌, ◌≤◌, ◌==◌, if◌then◌else◌, List, length, slice_index_or, replicate, Option, None}
use Rattle.coff_records.specs.ObjectFile.{section_total, record_total}
use Rattle.module_view.specs.Module.{ModuleView, module_at}
use Rattle.module_view.specs.SymbolLists.{commons_of}
use Rattle.link_pieces.specs.Commons.{FIRST_COMMON}
use Rattle.synthetic_sections.specs.LinkerPieces.{FIRST_THUNK, FIRST_LOCAL_SLOT}
use Rattle.link_pieces.specs.LinkerPieces.{IsLinkerNumber}
use Rattle.link_pieces.specs.PieceIndex.{RowsView, LinkerView, IndexView, row_start}

abbrev pub rows_of : List ℕ → List (Option ℕ) → RowsView
rows_of starts pieces = record { starts = starts; pieces = pieces }

abbrev pub linker_rows_of : List (Option ℕ) → List (Option ℕ) → LinkerView
linker_rows_of made slots = record { made = made; slots = slots }

abbrev pub index_of : RowsView → RowsView → List (List ℕ) → LinkerView → List (Option ℕ) → IndexView
index_of sections commons slots linker imports =
    record { sections = sections; commons = commons; slots = slots; linker = linker; imports = imports }

abbrev pub section_places : List ℕ → ℕ
section_places bytes = section_total bytes + 1

abbrev pub common_places : List ℕ → ℕ
common_places bytes = if length (commons_of bytes) == 0 then 0 else record_total bytes

-- a row does not start before an earlier one, and none leaves the list of pieces
pub record AreRows (rows : RowsView) : Type 0 where
  pub ascend : (i j : ℕ) → i ≤ j → j < length rows.starts → row_start rows i ≤ row_start rows j
  pub within : (i : ℕ) → row_start rows i ≤ length rows.pieces

-- starts of rows with so many places for each of the first modules
pub record HasStarts (places : List ℕ → ℕ) (modules : List ModuleView) (count : ℕ) (starts : List ℕ) (end : ℕ) : Type 0 where
  pub for_each : length starts ≡ count + 1
  pub next : (m : ℕ) → m < count → slice_index_or starts (m + 1) 0 ≡ slice_index_or starts m 0 + places (module_at modules m).bytes
  pub last : slice_index_or starts count 0 ≡ end

-- rows with so many places for each module, and nothing in them
pub record HasRows (places : List ℕ → ℕ) (modules : List ModuleView) (rows : RowsView) : Type 0 where
  pub starts : HasStarts places modules (length modules) rows.starts (length rows.pieces)
  pub empty : rows.pieces ≡ replicate (length rows.pieces) None

-- a piece of a module, by its number, has a place in the rows: a section or a common
pub record HasPlace (modules : List ModuleView) (position number : ℕ) : Type 0 where
  pub within : position < length modules
  pub section : number < FIRST_COMMON → number < section_places (module_at modules position).bytes
  pub common : FIRST_COMMON ≤ number → number - FIRST_COMMON < common_places (module_at modules position).bytes

-- a piece of the linker's module has one, where there are so many local slots
pub record HasLinkerPlace (modules : List ModuleView) (slots position number : ℕ) : Type 0 where
  pub of_linker : position ≡ length modules
  pub within : IsLinkerNumber (length modules) slots number
  pub few : number < FIRST_COMMON

abbrev pub HasSomePlace : List ModuleView → ℕ → ℕ → ℕ → Type 0
HasSomePlace modules slots position number =
    HasPlace modules position number ⊎ HasLinkerPlace modules slots position number

-- rows for what the linker makes for so many modules and local slots, and nothing in them
pub record HasLinkerRows (modules count : ℕ) (rows : LinkerView) : Type 0 where
  pub made : rows.made ≡ replicate (FIRST_THUNK + modules) None
  pub slots : rows.slots ≡ replicate count None

-- a number has a place in them
pub record HasLinkerRoom (rows : LinkerView) (number : ℕ) : Type 0 where
  pub made : number < FIRST_LOCAL_SLOT → number < length rows.made
  pub slots : FIRST_LOCAL_SLOT ≤ number → number - FIRST_LOCAL_SLOT < length rows.slots
