-- Where the parts of an export table stand in a mapped image that holds it, and the items of each part.
use Rattle.std.proofs.Common.{◌≡◌, ℕ, ◌+◌, ◌*◌, ◌<◌, List, [], ◌∷◌, ◌++◌, length, take, map, get_or, Option, None, length-append, subst, arith}
use Rattle.std.specs.List.{sum_by, flat_map, range_with_len}
use Rattle.std.proofs.lemmas.List.{length-take-le}
use Rattle.std.proofs.lemmas.List.FromFn.{length-map-range_with_len, get_or-map-range_with_len}
use Rattle.link_base.specs.Bytes.{number_bytes}
use Rattle.link_base.specs.Fields.{fields}
use Rattle.link_base.proofs.PartLemmas.{numbers_len}
use Rattle.export_tables.specs.declared.row.ExportTo.{ExportTo}
use Rattle.export_tables.specs.declared.names.NameEntry.{NameEntry}
use Rattle.export_tables.specs.declared.directory.Directory.{Directory}
use Rattle.export_tables.specs.ExportTable.{address_count, text_size, name_size, target_size, text_rva, address_at, addresses, name_rvas, directory_of, directory_fields, tables_end, index_bytes, name_bytes, text_bytes, target_bytes, tables_bytes, texts_bytes, table_by}
use Rattle.export_tables.specs.ReadBack.{Holds}
use Rattle.export_tables.proofs.HeldLemmas.{held_first, held_rest, held_item}
use Rattle.export_tables.proofs.LengthLemmas.{directory_len, addresses_len, rvas_len, indexes_len, names_len, targets_len, tables_len}

-- ---- the parts

pub record Stands (memory : List ℕ) (time : ℕ) (directory : Directory) (names_rva forwarders_rva : ℕ) (targets : List (Option ExportTo)) (names : List NameEntry) : Type 0 where
  pub directory_there : Holds memory directory.rva (fields (directory_fields time directory))
  pub addresses_there : Holds memory directory.address_table (addresses forwarders_rva targets (length targets))
  pub rvas_there : Holds memory directory.name_table (name_rvas names_rva names (length names))
  pub indexes_there : Holds memory directory.ordinal_table (flat_map index_bytes names)
  pub names_there : Holds memory names_rva (flat_map name_bytes names)
  pub forwarders_there : Holds memory forwarders_rva (flat_map target_bytes targets)

pub parts_stand : (memory ordinals dll : List ℕ) (time rva size : ℕ) (targets : List (Option ExportTo)) (names : List NameEntry) → length targets ≡ address_count ordinals → Holds memory rva (table_by dll time (directory_of ordinals (length names) rva size) targets names)
    → Stands memory time (directory_of ordinals (length names) rva size)
    (tables_end (directory_of ordinals (length names) rva size) + text_size dll)
    (tables_end (directory_of ordinals (length names) rva size) + text_size dll + sum_by name_size names) targets names
unfolding tables_bytes texts_bytes
parts_stand memory ordinals dll time rva size targets names many held =
    let directory = directory_of ordinals (length names) rva size in
    let names_rva = tables_end directory + text_size dll in
    let forwarders_rva = names_rva + sum_by name_size names in
    let tables = tables_bytes time directory names_rva forwarders_rva targets names in
    let front : Holds memory rva tables = held_first memory rva tables (texts_bytes dll targets names) held in
    let numbers = name_rvas names_rva names (length names) ++ flat_map index_bytes names in
    let from_addresses : Holds memory directory.address_table (addresses forwarders_rva targets (length targets) ++ numbers) =
    held_rest memory rva directory.address_table (fields (directory_fields time directory)) (addresses forwarders_rva targets (length targets) ++ numbers) front (omega (arith, directory_len time directory)) in
    let from_rvas : Holds memory directory.name_table numbers =
    held_rest memory directory.address_table directory.name_table (addresses forwarders_rva targets (length targets)) numbers from_addresses (omega (arith, many, addresses_len forwarders_rva targets (length targets))) in
    let texts : Holds memory (tables_end directory) (texts_bytes dll targets names) =
    held_rest memory rva (tables_end directory) tables (texts_bytes dll targets names) held (omega (arith, many, tables_len time directory names_rva forwarders_rva targets names)) in
    let from_names : Holds memory names_rva (flat_map name_bytes names ++ flat_map target_bytes targets) =
    held_rest memory (tables_end directory) names_rva (text_bytes dll) (flat_map name_bytes names ++ flat_map target_bytes targets) texts (omega (arith, length-append dll (0 ∷ []))) in
    record {
      directory_there = held_first memory rva (fields (directory_fields time directory)) (addresses forwarders_rva targets (length targets) ++ numbers) front;
      addresses_there = held_first memory directory.address_table (addresses forwarders_rva targets (length targets)) numbers from_addresses;
      rvas_there = held_first memory directory.name_table (name_rvas names_rva names (length names)) (flat_map index_bytes names) from_rvas;
      indexes_there =
          held_rest memory directory.name_table directory.ordinal_table (name_rvas names_rva names (length names)) (flat_map index_bytes names) from_rvas (omega (arith, rvas_len names_rva names (length names)));
      names_there = held_first memory names_rva (flat_map name_bytes names) (flat_map target_bytes targets) from_names;
      forwarders_there = held_rest memory names_rva forwarders_rva (flat_map name_bytes names) (flat_map target_bytes targets) from_names (omega (arith, names_len names));
    }

-- ---- their items

numbers_there : (memory : List ℕ) (table : ℕ) (f : ℕ → ℕ) (count k : ℕ) → Holds memory table (flat_map (number_bytes 4) (map f (range_with_len 0 count))) → k < count → Holds memory (table + 4 * k) (number_bytes 4 (f k))
numbers_there memory table f count k held lt =
    let numbers = map f (range_with_len 0 count) in
    let long : length numbers ≡ count = length-map-range_with_len f 0 count in
    subst (λ (n : ℕ). Holds memory (table + 4 * k) (number_bytes 4 n)) (get_or-map-range_with_len f 0 count k k 0 lt (omega arith))
    (held_item (number_bytes 4) memory table (table + 4 * k) numbers k 0 held (omega (arith, lt, long))
    (omega (arith, numbers_len (take k numbers), length-take-le k numbers (omega (arith, lt, long)))))

pub address_there : (memory : List ℕ) (table start : ℕ) (targets : List (Option ExportTo)) (k : ℕ) → Holds memory table (addresses start targets (length targets)) → k < length targets → Holds memory (table + 4 * k) (number_bytes 4 (address_at start targets k))
unfolding addresses
address_there memory table start targets k held lt = numbers_there memory table (address_at start targets) (length targets) k held lt

pub name_rva_there : (memory : List ℕ) (table start : ℕ) (names : List NameEntry) (k : ℕ) → Holds memory table (name_rvas start names (length names)) → k < length names → Holds memory (table + 4 * k) (number_bytes 4 (text_rva name_size start names k))
unfolding name_rvas
name_rva_there memory table start names k held lt = numbers_there memory table (text_rva name_size start names) (length names) k held lt

pub index_there : (memory : List ℕ) (table : ℕ) (names : List NameEntry) (k : ℕ) (d : NameEntry) → Holds memory table (flat_map index_bytes names) → k < length names → Holds memory (table + 2 * k) (index_bytes (get_or names k d))
index_there memory table names k d held lt =
    held_item index_bytes memory table (table + 2 * k) names k d held lt (omega (arith, indexes_len (take k names), length-take-le k names (omega (arith, lt))))

pub name_there : (memory : List ℕ) (start : ℕ) (names : List NameEntry) (k : ℕ) (d : NameEntry) → Holds memory start (flat_map name_bytes names) → k < length names → Holds memory (text_rva name_size start names k) (name_bytes (get_or names k d))
unfolding text_rva
name_there memory start names k d held lt =
    held_item name_bytes memory start (start + sum_by name_size (take k names)) names k d held lt (omega (arith, names_len (take k names)))

pub forwarder_there : (memory : List ℕ) (start : ℕ) (targets : List (Option ExportTo)) (k : ℕ) → Holds memory start (flat_map target_bytes targets) → k < length targets → Holds memory (text_rva target_size start targets k) (target_bytes (get_or targets k None))
unfolding text_rva
forwarder_there memory start targets k held lt =
    held_item target_bytes memory start (start + sum_by target_size (take k targets)) targets k None held lt (omega (arith, targets_len (take k targets)))
