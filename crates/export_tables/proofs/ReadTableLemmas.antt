-- What is read in a mapped image that holds the table of some rows: its directory, its entries and its names.
use Rattle.std.proofs.Common.{◌≡◌, ℕ, ◌+◌, ◌-◌, ◌*◌, ◌^◌, ◌<◌, cond, List, length, get_or, Option, Some, None, All, sym, ap, ◌∙◌, subst, arith}
use Rattle.std.specs.List.{sum_by}
use Rattle.std.specs.Option.{option_and_then}
use Rattle.link_base.specs.Bytes.{field, text_at}
use Rattle.link_base.specs.NameText.{same_name}
use Rattle.link_base.proofs.HeldLemmas.{held_text}
use Rattle.export_tables.specs.declared.row.ExportRow.{ExportRow}
use Rattle.export_tables.specs.declared.names.NameEntry.{NameEntry}
use Rattle.export_tables.specs.declared.directory.Directory.{Directory}
use Rattle.export_tables.specs.ExportDirectory.{directory_in, entry_address, is_text, is_name_at, is_named, named_address}
use Rattle.export_tables.specs.ExportTable.{no_row, row_at, least, address_count, target_in, targets_of, names_of, text_size, name_size, text_rva, table_size, directory_of, tables_end, export_table, AreNumbered}
use Rattle.export_tables.specs.ReadBack.{Holds, HasNoNul, AreReadable}
use Rattle.export_tables.proofs.AddressLemmas.{IsGood, Says, entry_says}
use Rattle.export_tables.proofs.DirectoryLemmas.{directory_read}
use Rattle.export_tables.proofs.FillLemmas.{parts_size, rva_within}
use Rattle.export_tables.proofs.HeldLemmas.{held_field}
use Rattle.export_tables.proofs.RowLemmas.{target_at, target_passes, entry_is, names_pass}
use Rattle.export_tables.proofs.StandLemmas.{Stands, parts_stand, name_rva_there, index_there, name_there}
use Rattle.export_tables.proofs.TargetLemmas.{falls, length_targets}

abbrev pub table_directory : List ExportRow → List ℕ → List ℕ → ℕ → Directory
table_directory rows ordinals dll rva = directory_of ordinals (length (names_of rows ordinals)) rva (table_size rows ordinals dll)

-- where the texts of names begin, and those of forwarders
abbrev pub names_start : List ExportRow → List ℕ → List ℕ → ℕ → ℕ
names_start rows ordinals dll rva = tables_end (table_directory rows ordinals dll rva) + text_size dll

abbrev pub forwarders_start : List ExportRow → List ℕ → List ℕ → ℕ → ℕ
forwarders_start rows ordinals dll rva = names_start rows ordinals dll rva + sum_by name_size (names_of rows ordinals)

-- a mapped image holds the table of rows that can be read, of some time
pub record HoldsTable (memory : List ℕ) (rows : List ExportRow) (ordinals dll : List ℕ) (rva : ℕ) : Type 0 where
  pub time : ℕ
  pub numbered : AreNumbered rows ordinals
  pub small : All (λ ordinal. ordinal < 2 ^ 16) ordinals
  pub readable : AreReadable rows rva (table_size rows ordinals dll)
  pub below : rva + table_size rows ordinals dll < 2 ^ 32
  pub held : Holds memory rva (export_table rows ordinals dll time rva)

module _ (memory : List ℕ) (rows : List ExportRow) (ordinals dll : List ℕ) (rva : ℕ) (holds : HoldsTable memory rows ordinals dll rva) where
  -- ---- the directory

  stands : Stands memory holds.time (table_directory rows ordinals dll rva) (names_start rows ordinals dll rva) (forwarders_start rows ordinals dll rva) (targets_of rows ordinals) (names_of rows ordinals)
  unfolding export_table
  stands =
      parts_stand memory ordinals dll holds.time rva (table_size rows ordinals dll) (targets_of rows ordinals) (names_of rows ordinals)
      (length_targets rows (least ordinals) (address_count ordinals) ordinals) holds.held

  pub table_directory_read : directory_in memory rva (table_size rows ordinals dll) ≡ Some (table_directory rows ordinals dll rva)
  table_directory_read =
      let sizes = parts_size rows ordinals dll holds.numbered in
      let fits = holds.below in
      directory_read memory holds.time (table_directory rows ordinals dll rva) stands.directory_there
      (record {
        base_fits = omega (arith, falls ordinals 65535);
        addresses_fit = omega (arith, sizes, fits);
        names_fit = omega (arith, sizes, fits);
        address_table_fits = omega (arith, sizes, fits);
        name_table_fits = omega (arith, sizes, fits);
        ordinal_table_fits = omega (arith, sizes, fits);
      })
      (omega (arith, sizes))

  -- ---- entries

  pub number_says : (k : ℕ) → k < address_count ordinals → Says memory (table_directory rows ordinals dll rva) k (target_in rows (least ordinals) ordinals k)
  number_says k lt =
      let directory = table_directory rows ordinals dll rva in
      let sizes = parts_size rows ordinals dll holds.numbered in
      let many = length_targets rows (least ordinals) (address_count ordinals) ordinals in
      let at = target_at rows (least ordinals) (address_count ordinals) ordinals k lt in
      subst (Says memory directory k) at
      (entry_says memory directory (forwarders_start rows ordinals dll rva) (targets_of rows ordinals) k (omega (arith, lt, many)) many
      (record { behind = omega arith; within = omega (arith, sizes); below = holds.below })
      stands.addresses_there stands.forwarders_there
      (λ what is. target_passes (IsGood directory) rows (least ordinals) ordinals k what holds.numbered.same_many
      (λ i d within. (holds.readable.forwarders i d within, holds.readable.apart i d within)) (sym at ∙ is)))

  -- ---- names

  -- a name can be read, and its index has two bytes
  NameFits : NameEntry → Type 0
  NameFits entry = HasNoNul entry.name × (entry.index < 2 ^ 16)

  names_fit : All NameFits (names_of rows ordinals)
  unfolding NameFits
  names_fit =
      names_pass NameFits rows ordinals (λ i entry lt is.
      let row = row_at rows i in
      let one = entry_is row (get_or ordinals i 0 - least ordinals) entry is in
      subst NameFits one.1 (holds.readable.names i no_row lt, omega (arith, holds.small i 0 (omega (arith, lt, holds.numbered.same_many)))))

  pub named_says : (name : List ℕ) (k : ℕ) (d : NameEntry) → k < length (names_of rows ordinals) → named_address memory (table_directory rows ordinals dll rva) name k ≡ cond (same_name (get_or (names_of rows ordinals) k d).name name) (entry_address memory (table_directory rows ordinals dll rva) (get_or (names_of rows ordinals) k d).index) None
  unfolding named_address is_named NameFits
  named_says name k d lt =
      let directory = table_directory rows ordinals dll rva in
      let names = names_of rows ordinals in
      let start = names_start rows ordinals dll rva in
      let entry = get_or names k d in
      let fits = names_fit k d lt in
      let sizes = parts_size rows ordinals dll holds.numbered in
      let last = rva_within name_size start names k in
      let rva_read : field 4 memory (directory.name_table + 4 * k) ≡ Some (text_rva name_size start names k) =
      held_field memory (directory.name_table + 4 * k) 4 (text_rva name_size start names k) (name_rva_there memory directory.name_table start names k stands.rvas_there lt) (omega arith) (omega (arith, last, sizes, holds.below)) in
      let read : text_at memory (text_rva name_size start names k) ≡ Some entry.name =
      held_text memory (text_rva name_size start names k) entry.name (name_there memory start names k d stands.names_there lt) fits.0 in
      let index_read : field 2 memory (directory.ordinal_table + 2 * k) ≡ Some entry.index =
      held_field memory (directory.ordinal_table + 2 * k) 2 entry.index (index_there memory directory.ordinal_table names k d stands.indexes_there lt) (omega arith) (omega (arith, fits.1)) in
      let address = option_and_then (entry_address memory directory) (field 2 memory (directory.ordinal_table + 2 * k)) in
      ap (λ (o : Option ℕ). cond (is_name_at memory name o) address None) rva_read
      ∙ ap (λ (t : Option (List ℕ)). cond (is_text t name) address None) read
      ∙ ap (λ (o : Option ℕ). cond (same_name entry.name name) (option_and_then (entry_address memory directory) o) None) index_read
