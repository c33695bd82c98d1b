-- The bytes of an export directory with its tables, for some exports (PE Format, "The .edata Section (Image Only)"): the
-- directory, the addresses by ordinal, the RVAs of names in the order of names, the indexes of their addresses, and texts.
-- That the texts are those of the DLL, of the names and of the forwarders, and that the ordinal base is the least ordinal, is
-- own.
use Rattle.std.specs.Prelude.{◌≡◌, ◌≢◌, ℕ, ◌+◌, ◌-◌, ◌*◌, ◌<◌, ◌≤◌, nat_eq, min, max, if◌then◌else◌, false, List, [], ◌∷◌, ◌++◌, length, take, map, fold, slice_index, slice_index_or, All, Option, Some, None, option_map, option_and_then}
use Rattle.std.specs.List.{filter_map, flat_map, sum_by, position, range_with_len}
use Rattle.std.specs.Ordering.{nat_cmp, then_cmp, on}
use Rattle.std.specs.Cmp.Lexicographic.{slice_cmp}
use Rattle.std.specs.declared.cmp.Ordering.{Ordering}
use Rattle.link_base.specs.Bytes.{number_bytes}
use Rattle.link_base.specs.Fields.{fields}
use Rattle.link_base.specs.Limits.{NAME_LIMIT}
use Rattle.link_base.specs.declared.numbers.LeNumber.{LeNumber}
use Rattle.link_base.specs.declared.numbers.LeNumber.TheVariants.{U16, U32}
use Rattle.sorted_lists.specs.Order.{in_order}
use Rattle.export_tables.specs.declared.row.ExportRow.{ExportRow}
use Rattle.export_tables.specs.declared.row.ExportTo.{ExportTo}
use Rattle.export_tables.specs.declared.row.ExportTo.TheVariants.{Rva, Forward}
use Rattle.export_tables.specs.declared.names.NameEntry.{NameEntry}
use Rattle.export_tables.specs.declared.directory.Directory.{Directory}
use Rattle.export_tables.specs.ExportDirectory.{SIZEOF_EXPORT_DIRECTORY}

-- in place of a row that is not there
abbrev pub no_row : ExportRow
no_row = record { name = []; ordinal = None; noname = false; what = Rva 0 }

abbrev pub row_at : List ExportRow → ℕ → ExportRow
row_at rows index = slice_index_or rows index no_row

-- ---- by ordinal

-- the least ordinal and the greatest
abbrev pub least : List ℕ → ℕ
least ordinals = fold min 65535 ordinals

abbrev pub greatest_of : List ℕ → ℕ
greatest_of ordinals = fold max 0 ordinals

-- how many addresses there are: one for each number from the least ordinal to the greatest
abbrev pub address_count : List ℕ → ℕ
address_count ordinals = greatest_of ordinals + 1 - least ordinals

-- what is exported by the number that lies so far above a base, where a row of these ordinals has it
unfoldable pub target_in : List ExportRow → ℕ → List ℕ → ℕ → Option ExportTo
target_in rows base ordinals index = option_map (λ row. (row_at rows row).what) (position (nat_eq (base + index)) ordinals)

unfoldable pub targets_in : List ExportRow → ℕ → ℕ → List ℕ → List (Option ExportTo)
targets_in rows base count ordinals = map (target_in rows base ordinals) (range_with_len 0 count)

-- what is exported by each number from the least ordinal to the greatest
abbrev pub targets_of : List ExportRow → List ℕ → List (Option ExportTo)
targets_of rows ordinals = targets_in rows (least ordinals) (address_count ordinals) ordinals

-- ---- by name

-- a name and the index of its address
abbrev pub named : ExportRow → ℕ → NameEntry
named row index = record { name = row.name; index = index }

abbrev pub entry_of : ExportRow → ℕ → Option NameEntry
entry_of row index = if row.noname then None else Some (named row index)

-- the entry of a row, by its index: none where it is exported by its ordinal alone
abbrev pub entry_at : List ExportRow → List ℕ → ℕ → Option NameEntry
entry_at rows ordinals index = entry_of (row_at rows index) (slice_index ordinals index - least ordinals)

unfoldable pub entries_before : List ExportRow → List ℕ → ℕ → List NameEntry
entries_before rows ordinals count = filter_map (entry_at rows ordinals) (range_with_len 0 count)

-- names by their bytes; where they are equal the indexes count
abbrev pub entry_cmp : NameEntry → NameEntry → Ordering
entry_cmp = then_cmp (on (λ entry. entry.name) (slice_cmp nat_cmp)) (on (λ entry. entry.index) nat_cmp)

unfoldable pub names_of : List ExportRow → List ℕ → List NameEntry
names_of rows ordinals = in_order entry_cmp (entries_before rows ordinals (length rows))

-- the entry of the number that lies so far above the least of all ordinals, where a row of these has the number and a name
unfoldable pub place_in : List ExportRow → List ℕ → List ℕ → ℕ → Option NameEntry
place_in rows all ordinals index = option_and_then (entry_at rows all) (position (nat_eq (least all + index)) ordinals)

unfoldable pub places_in : List ExportRow → List ℕ → ℕ → List ℕ → List (Option NameEntry)
places_in rows all count ordinals = map (place_in rows all ordinals) (range_with_len 0 count)

-- those of each number from the least ordinal to the greatest
abbrev pub places_of : List ExportRow → List ℕ → List (Option NameEntry)
places_of rows ordinals = places_in rows ordinals (address_count ordinals) ordinals

-- ---- sizes

-- a text has a NUL behind it
abbrev pub text_size : List ℕ → ℕ
text_size text = length text + 1

abbrev pub forwarder_size : ExportTo → ℕ
forwarder_size (Rva rva) = 0
forwarder_size (Forward text) = text_size text

abbrev pub target_size : Option ExportTo → ℕ
target_size None = 0
target_size (Some what) = forwarder_size what

abbrev pub name_size : NameEntry → ℕ
name_size entry = text_size entry.name

-- a name has the four bytes of its RVA, the two of an index and a text
abbrev pub row_size : ExportRow → ℕ
row_size row = (if row.noname then 0 else 6 + text_size row.name) + forwarder_size row.what

unfoldable pub rows_size : List ExportRow → ℕ
rows_size rows = sum_by row_size rows

-- how many bytes the directory, its tables and the texts have
unfoldable pub table_size : List ExportRow → List ℕ → List ℕ → ℕ
table_size rows ordinals dll = SIZEOF_EXPORT_DIRECTORY + 4 * address_count ordinals + rows_size rows + text_size dll

-- ---- places

-- the RVA of an item's text, where the texts of some items stand one behind the other from an RVA on
unfoldable pub text_rva : {X : Type 0} → (X → ℕ) → ℕ → List X → ℕ → ℕ
text_rva size start items index = start + sum_by size (take index items)

-- the directory that stands at an RVA, with its tables behind it
abbrev pub directory_of : List ℕ → ℕ → ℕ → ℕ → Directory
directory_of ordinals name_count rva size = record {
  rva = rva;
  size = size;
  ordinal_base = least ordinals;
  address_count = address_count ordinals;
  name_count = name_count;
  address_table = rva + SIZEOF_EXPORT_DIRECTORY;
  name_table = rva + SIZEOF_EXPORT_DIRECTORY + 4 * address_count ordinals;
  ordinal_table = rva + SIZEOF_EXPORT_DIRECTORY + 4 * address_count ordinals + 4 * name_count;
}

-- the RVA behind the tables: that of the DLL's name
abbrev pub tables_end : Directory → ℕ
tables_end directory = directory.ordinal_table + 2 * directory.name_count

-- ---- bytes

-- flags of zeros; the time; versions of zeros; the RVA of the DLL's name; the ordinal base; the numbers of addresses and of
-- names; the RVAs of the tables
abbrev pub directory_fields : ℕ → Directory → List LeNumber
directory_fields time directory =
    U32 0 ∷ U32 time ∷ U16 0 ∷ U16 0 ∷ U32 (tables_end directory) ∷ U32 directory.ordinal_base ∷ U32 directory.address_count
    ∷ U32 directory.name_count ∷ U32 directory.address_table ∷ U32 directory.name_table ∷ U32 directory.ordinal_table ∷ []

-- an address: that of a row, that of a forwarder's text, or 0 where no row has the number
abbrev pub target_address : Option ExportTo → ℕ → ℕ
target_address None text = 0
target_address (Some (Rva rva)) text = rva
target_address (Some (Forward name)) text = text

abbrev pub address_at : ℕ → List (Option ExportTo) → ℕ → ℕ
address_at start targets index = target_address (slice_index_or targets index None) (text_rva target_size start targets index)

-- the addresses, where the texts of forwarders begin at an RVA
unfoldable pub addresses : ℕ → List (Option ExportTo) → ℕ → List ℕ
addresses start targets count = flat_map (number_bytes 4) (map (address_at start targets) (range_with_len 0 count))

-- the RVAs of names, where these begin at an RVA
unfoldable pub name_rvas : ℕ → List NameEntry → ℕ → List ℕ
name_rvas start names count = flat_map (number_bytes 4) (map (text_rva name_size start names) (range_with_len 0 count))

-- the index of each name's address
abbrev pub index_bytes : NameEntry → List ℕ
index_bytes entry = number_bytes 2 entry.index

-- texts, each with its NUL
abbrev pub text_bytes : List ℕ → List ℕ
text_bytes text = text ++ 0 ∷ []

abbrev pub name_bytes : NameEntry → List ℕ
name_bytes entry = text_bytes entry.name

abbrev pub target_bytes : Option ExportTo → List ℕ
target_bytes None = []
target_bytes (Some (Rva rva)) = []
target_bytes (Some (Forward text)) = text_bytes text

-- the directory and its tables
unfoldable pub tables_bytes : ℕ → Directory → ℕ → ℕ → List (Option ExportTo) → List NameEntry → List ℕ
tables_bytes time directory names_rva forwarders_rva targets names =
    fields (directory_fields time directory)
    ++ (addresses forwarders_rva targets (length targets) ++ (name_rvas names_rva names (length names) ++ flat_map index_bytes names))

-- the texts: the DLL's name, the names, and the forwarders by ordinal
unfoldable pub texts_bytes : List ℕ → List (Option ExportTo) → List NameEntry → List ℕ
texts_bytes dll targets names = text_bytes dll ++ (flat_map name_bytes names ++ flat_map target_bytes targets)

-- the whole of a directory, where the names begin at an RVA
abbrev pub table_from : List ℕ → ℕ → Directory → ℕ → List (Option ExportTo) → List NameEntry → List ℕ
table_from dll time directory names_rva targets names =
    tables_bytes time directory names_rva (names_rva + sum_by name_size names) targets names ++ texts_bytes dll targets names

abbrev pub table_by : List ℕ → ℕ → Directory → List (Option ExportTo) → List NameEntry → List ℕ
table_by dll time directory targets names = table_from dll time directory (tables_end directory + text_size dll) targets names

-- the export directory of some rows, which have these ordinals, with its tables and texts, of a time, as it stands at an RVA
unfoldable pub export_table : List ExportRow → List ℕ → List ℕ → ℕ → ℕ → List ℕ
export_table rows ordinals dll time rva =
    table_by dll time (directory_of ordinals (length (names_of rows ordinals)) rva (table_size rows ordinals dll))
    (targets_of rows ordinals) (names_of rows ordinals)

-- ---- what rows are to be

abbrev pub forward_len : ExportTo → ℕ
forward_len (Rva rva) = 0
forward_len (Forward text) = length text

-- each row has one ordinal, and no two the same; there are no more of them than ordinals, and no longer names than a link can
-- have
pub record AreNumbered (rows : List ExportRow) (ordinals : List ℕ) : Type 0 where
  pub few : length rows ≤ 65535
  pub names : All (λ row. length row.name ≤ NAME_LIMIT) rows
  pub forwarders : All (λ row. forward_len row.what ≤ NAME_LIMIT) rows
  pub same_many : length ordinals ≡ length rows
  pub differ : (i j : ℕ) → i < j → j < length ordinals → slice_index ordinals i ≢ slice_index ordinals j

-- the name of a DLL: the file name of an image, with an extension behind a name that has none
abbrev pub DLL_LIMIT : ℕ
DLL_LIMIT = NAME_LIMIT + 4
