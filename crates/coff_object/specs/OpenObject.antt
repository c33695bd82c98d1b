-- What is kept of an object that was opened: an invariant of the code. Own.
use Rattle.std.specs.Prelude.{◌≡◌, ℕ, List, None}
use Rattle.coff_records.specs.StringTable.{string_table}
use Rattle.coff_object.specs.ObjectFaults.{object_fault}

-- the string table is the file's, and no kind of fault stands
pub record IsOpen (file strings : List ℕ) : Type 0 where
  pub table : strings ≡ string_table file
  pub well_formed : object_fault file ≡ None
