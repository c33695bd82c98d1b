-- What is kept of an object's header, and of a walk along its symbols: invariants of the code. Own.
use Rattle.std.specs.Prelude.{◌≡◌, ℕ, List}
use Rattle.coff_records.specs.declared.header.Header.{Header}
use Rattle.coff_records.specs.ObjectHeader.{is_big_object, machine_of, section_total, section_headers_offset, symbols_offset, record_total}
use Rattle.coff_records.specs.StringTable.{string_table}
use Rattle.coff_records.specs.FileRanges.{HasRecords}

-- the numbers are those of the file's header
pub record ReadsHeader (file : List ℕ) (header : Header) : Type 0 where
  pub form : header.is_big ≡ is_big_object file
  pub machine : header.machine ≡ machine_of file
  pub sections : header.section_count ≡ section_total file
  pub section_headers : header.section_headers ≡ section_headers_offset file
  pub symbols : header.symbols ≡ symbols_offset file
  pub records : header.record_count ≡ record_total file

-- a file whose symbols are walked: its records are there, and the string table is its own
pub record IsWalked (file strings : List ℕ) : Type 0 where
  pub records : HasRecords file
  pub table : strings ≡ string_table file
