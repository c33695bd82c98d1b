-- The fields of a directory are read where they are held.
use Rattle.std.proofs.Common.{◌≡◌, ℕ, ◌+◌, ◌^◌, ◌<◌, ◌≤◌, List, length, Some, lt-ltb, le-leb, refl, arith}
use Rattle.link_base.specs.Bytes.{number_at, number_bytes}
use Rattle.link_base.specs.Fields.{fields, field_bytes}
use Rattle.link_base.specs.declared.numbers.LeNumber.TheVariants.{U32}
use Rattle.link_base.proofs.HeldLemmas.{held_fits, held_number}
use Rattle.export_tables.specs.declared.directory.Directory.{Directory}
use Rattle.export_tables.specs.ExportDirectory.{directory_in, directory_at}
use Rattle.export_tables.specs.ExportTable.{directory_fields}
use Rattle.export_tables.specs.ReadBack.{Holds}
use Rattle.export_tables.proofs.HeldLemmas.{held_item}
use Rattle.export_tables.proofs.LengthLemmas.{directory_len}

-- each field has four bytes
pub record FieldsFit (directory : Directory) : Type 0 where
  pub base_fits : directory.ordinal_base < 2 ^ 32
  pub addresses_fit : directory.address_count < 2 ^ 32
  pub names_fit : directory.name_count < 2 ^ 32
  pub address_table_fits : directory.address_table < 2 ^ 32
  pub name_table_fits : directory.name_table < 2 ^ 32
  pub ordinal_table_fits : directory.ordinal_table < 2 ^ 32

module _ (memory : List ℕ) (time : ℕ) (directory : Directory) (held : Holds memory directory.rva (fields (directory_fields time directory))) (fit : FieldsFit directory) where
  base_read : number_at 4 memory (directory.rva + 16) ≡ directory.ordinal_base
  unfolding number_bytes
  base_read = held_number memory (directory.rva + 16) 4 directory.ordinal_base (held_item field_bytes memory directory.rva (directory.rva + 16) (directory_fields time directory) 5 (U32 0) held (omega arith) refl) fit.base_fits

  addresses_read : number_at 4 memory (directory.rva + 20) ≡ directory.address_count
  unfolding number_bytes
  addresses_read = held_number memory (directory.rva + 20) 4 directory.address_count (held_item field_bytes memory directory.rva (directory.rva + 20) (directory_fields time directory) 6 (U32 0) held (omega arith) refl) fit.addresses_fit

  names_read : number_at 4 memory (directory.rva + 24) ≡ directory.name_count
  unfolding number_bytes
  names_read = held_number memory (directory.rva + 24) 4 directory.name_count (held_item field_bytes memory directory.rva (directory.rva + 24) (directory_fields time directory) 7 (U32 0) held (omega arith) refl) fit.names_fit

  address_table_read : number_at 4 memory (directory.rva + 28) ≡ directory.address_table
  unfolding number_bytes
  address_table_read = held_number memory (directory.rva + 28) 4 directory.address_table (held_item field_bytes memory directory.rva (directory.rva + 28) (directory_fields time directory) 8 (U32 0) held (omega arith) refl) fit.address_table_fits

  name_table_read : number_at 4 memory (directory.rva + 32) ≡ directory.name_table
  unfolding number_bytes
  name_table_read = held_number memory (directory.rva + 32) 4 directory.name_table (held_item field_bytes memory directory.rva (directory.rva + 32) (directory_fields time directory) 9 (U32 0) held (omega arith) refl) fit.name_table_fits

  ordinal_table_read : number_at 4 memory (directory.rva + 36) ≡ directory.ordinal_table
  unfolding number_bytes
  ordinal_table_read = held_number memory (directory.rva + 36) 4 directory.ordinal_table (held_item field_bytes memory directory.rva (directory.rva + 36) (directory_fields time directory) 10 (U32 0) held (omega arith) refl) fit.ordinal_table_fits

  fields_read : directory_at memory directory.rva directory.size ≡ directory
  fields_read =
      λ i. record {
        rva = directory.rva;
        size = directory.size;
        ordinal_base = base_read i;
        address_count = addresses_read i;
        name_count = names_read i;
        address_table = address_table_read i;
        name_table = name_table_read i;
        ordinal_table = ordinal_table_read i;
      }

  pub directory_read : 0 < directory.size → directory_in memory directory.rva directory.size ≡ Some directory
  unfolding directory_in
  directory_read some =
      let size = directory_len time directory in
      let there : directory.rva + 40 ≤ length memory = omega (arith, size, held_fits memory directory.rva (fields (directory_fields time directory)) held (omega (arith, size))) in
      rw (lt-ltb _ _ some, le-leb _ _ there, fields_read) refl
