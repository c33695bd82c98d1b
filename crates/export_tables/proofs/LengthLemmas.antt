-- How many bytes a directory has with its tables and texts.
use Rattle.std.proofs.Common.{◌≡◌, ℕ, ◌+◌, ◌*◌, List, [], ◌∷◌, ◌++◌, length, map, Option, Some, None, refl, length-append, arith}
use Rattle.std.specs.List.{sum_by, flat_map, range_with_len}
use Rattle.std.proofs.lemmas.List.Sums.{sum_by-cons}
use Rattle.std.proofs.lemmas.List.FromFn.{length-map-range_with_len}
use Rattle.link_base.specs.Bytes.{number_bytes}
use Rattle.link_base.specs.Fields.{fields}
use Rattle.link_base.proofs.CallerLemmas.{length-number_bytes}
use Rattle.link_base.proofs.PartLemmas.{numbers_len}
use Rattle.export_tables.specs.declared.row.ExportRow.{ExportRow}
use Rattle.export_tables.specs.declared.row.ExportTo.{ExportTo}
use Rattle.export_tables.specs.declared.row.ExportTo.TheVariants.{Rva, Forward}
use Rattle.export_tables.specs.declared.names.NameEntry.{NameEntry}
use Rattle.export_tables.specs.declared.directory.Directory.{Directory}
use Rattle.export_tables.specs.ExportTable.{least, address_count, targets_of, names_of, text_size, name_size, target_size, table_size, text_rva, address_at, addresses, name_rvas, directory_of, directory_fields, tables_end, index_bytes, name_bytes, text_bytes, target_bytes, tables_bytes, texts_bytes, table_from, export_table, AreNumbered}
use Rattle.export_tables.proofs.TargetLemmas.{length_targets}
use Rattle.export_tables.proofs.FillLemmas.{parts_size}

pub directory_len : (time : ℕ) (directory : Directory) → length (fields (directory_fields time directory)) ≡ 40
unfolding number_bytes
directory_len time directory = refl

pub addresses_len : (start : ℕ) (targets : List (Option ExportTo)) (count : ℕ) → length (addresses start targets count) ≡ 4 * count
unfolding addresses
addresses_len start targets count =
    omega (arith, numbers_len (map (address_at start targets) (range_with_len 0 count)), length-map-range_with_len (address_at start targets) 0 count)

pub rvas_len : (start : ℕ) (names : List NameEntry) (count : ℕ) → length (name_rvas start names count) ≡ 4 * count
unfolding name_rvas
rvas_len start names count =
    omega (arith, numbers_len (map (text_rva name_size start names) (range_with_len 0 count)), length-map-range_with_len (text_rva name_size start names) 0 count)

pub indexes_len : (names : List NameEntry) → length (flat_map index_bytes names) ≡ 2 * length names
indexes_len [] = refl
indexes_len (name ∷ names) =
    omega (arith, length-append (index_bytes name) (flat_map index_bytes names), length-number_bytes 2 name.index, indexes_len names)

pub names_len : (names : List NameEntry) → length (flat_map name_bytes names) ≡ sum_by name_size names
names_len [] = refl
names_len (name ∷ names) =
    omega (arith, length-append (name_bytes name) (flat_map name_bytes names), length-append name.name (0 ∷ []), names_len names, sum_by-cons name_size name names)

target_len : (target : Option ExportTo) → length (target_bytes target) ≡ target_size target
target_len None = refl
target_len (Some (Rva rva)) = refl
target_len (Some (Forward text)) = length-append text (0 ∷ [])

pub targets_len : (targets : List (Option ExportTo)) → length (flat_map target_bytes targets) ≡ sum_by target_size targets
targets_len [] = refl
targets_len (target ∷ targets) =
    omega (arith, length-append (target_bytes target) (flat_map target_bytes targets), target_len target, targets_len targets, sum_by-cons target_size target targets)

pub tables_len : (time : ℕ) (directory : Directory) (names_rva forwarders_rva : ℕ) (targets : List (Option ExportTo)) (names : List NameEntry) → length (tables_bytes time directory names_rva forwarders_rva targets names) ≡ 40 + 4 * length targets + 6 * length names
unfolding tables_bytes
tables_len time directory names_rva forwarders_rva targets names =
    let first = length-append (fields (directory_fields time directory)) (addresses forwarders_rva targets (length targets) ++ (name_rvas names_rva names (length names) ++ flat_map index_bytes names)) in
    let second = length-append (addresses forwarders_rva targets (length targets)) (name_rvas names_rva names (length names) ++ flat_map index_bytes names) in
    let third = length-append (name_rvas names_rva names (length names)) (flat_map index_bytes names) in
    omega (arith, first, second, third, directory_len time directory, addresses_len forwarders_rva targets (length targets), rvas_len names_rva names (length names), indexes_len names)

texts_len : (dll : List ℕ) (targets : List (Option ExportTo)) (names : List NameEntry) → length (texts_bytes dll targets names) ≡ text_size dll + sum_by name_size names + sum_by target_size targets
unfolding texts_bytes
texts_len dll targets names =
    let first = length-append (text_bytes dll) (flat_map name_bytes names ++ flat_map target_bytes targets) in
    let second = length-append (flat_map name_bytes names) (flat_map target_bytes targets) in
    omega (arith, first, second, length-append dll (0 ∷ []), names_len names, targets_len targets)

table_len : (dll : List ℕ) (time : ℕ) (directory : Directory) (names_rva : ℕ) (targets : List (Option ExportTo)) (names : List NameEntry) → length (table_from dll time directory names_rva targets names) ≡ 40 + 4 * length targets + 6 * length names + text_size dll + sum_by name_size names + sum_by target_size targets
table_len dll time directory names_rva targets names =
    let both = length-append (tables_bytes time directory names_rva (names_rva + sum_by name_size names) targets names) (texts_bytes dll targets names) in
    omega (arith, both, tables_len time directory names_rva (names_rva + sum_by name_size names) targets names, texts_len dll targets names)

pub size_of_table : (rows : List ExportRow) (ordinals dll : List ℕ) (time rva : ℕ) → AreNumbered rows ordinals → length (export_table rows ordinals dll time rva) ≡ table_size rows ordinals dll
unfolding export_table
size_of_table rows ordinals dll time rva are =
    let names = names_of rows ordinals in
    let directory = directory_of ordinals (length names) rva (table_size rows ordinals dll) in
    let len = table_len dll time directory (tables_end directory + text_size dll) (targets_of rows ordinals) names in
    omega (arith, len, length_targets rows (least ordinals) (address_count ordinals) ordinals, parts_size rows ordinals dll are)
