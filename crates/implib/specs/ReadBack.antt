-- What is read back of an import library. Own.
use Rattle.std.specs.Prelude.{◌≡◌, ◌≢◌, ℕ, ◌<◌, ◌≤◌, ◌^◌, Bool, List, length, slice_index, position, All, Option, None, option_map}
use Rattle.std.specs.List.{list_any}
use Rattle.link_base.specs.Limits.{FILE_LIMIT}
use Rattle.link_base.specs.NameText.{same_name}
use Rattle.short_import.specs.declared.import.ImportBy.{ImportBy}
use Rattle.short_import.specs.declared.import.ImportBy.TheVariants.{Ordinal, Named}
use Rattle.short_import.specs.ShortImport.{symbol_of, dll_of, import_kind, import_by}
use Rattle.short_import.specs.ImportFaults.{import_fault}
use Rattle.implib.specs.declared.row.LibraryRow.{LibraryRow}
use Rattle.implib.specs.Rows.{DLL_LIMIT, IsText, AreRows}
use Rattle.implib.specs.Listings.{names_of}
use Rattle.implib.specs.ImportLibrary.{header_of, library_of}

-- an ordinal or a hint fits its field
abbrev pub FitsField : ImportBy → Type 0
FitsField (Ordinal ordinal) = ordinal < 2 ^ 16
FitsField (Named hint name) = hint < 2 ^ 16

-- there is an import library of these rows, of this DLL and of this time
pub record CanBeWritten (rows : List LibraryRow) (dll : List ℕ) (time : ℕ) : Type 0 where
  pub rows_are : AreRows rows
  pub numbers : All (λ row. FitsField row.by) rows
  pub dll_is : IsText DLL_LIMIT dll
  pub early : time < 2 ^ 32
  pub fits : length (library_of rows dll time) ≤ FILE_LIMIT

-- these bytes are a short import, and what is read of them is a row and the name of a DLL
pub record ReadsAs (bytes : List ℕ) (row : LibraryRow) (dll : List ℕ) : Type 0 where
  pub well_formed : import_fault bytes ≡ None
  pub symbol : symbol_of bytes ≡ row.symbol
  pub dll_is : dll_of bytes ≡ dll
  pub kind : import_kind bytes ≡ row.kind
  pub by : import_by bytes ≡ row.by

-- the name of a DLL does not begin with a slash, which would make the name of its members a special one
abbrev pub IsPlainName : List ℕ → Type 0
IsPlainName dll = slice_index dll 0 ≢ 47

-- a row lists this name
abbrev pub lists : List ℕ → LibraryRow → Bool
lists name row = list_any (λ listed. same_name listed name) (names_of row)

-- the offset of the header of the first row's member that lists this name, where one does
abbrev pub first_header : List LibraryRow → List ℕ → List ℕ → Option ℕ
first_header rows dll name = option_map (header_of rows dll) (position (lists name) rows)
