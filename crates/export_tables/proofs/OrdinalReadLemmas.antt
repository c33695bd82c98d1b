-- What is found by an ordinal in a mapped image that holds the table of some rows.
use Rattle.std.proofs.Common.{◌≡◌, ◌≢◌, ℕ, ◌+◌, ◌-◌, ◌*◌, ◌^◌, ◌<◌, ◌≤◌, Bool, cond, eqb, leb, List, length, get_or, Option, Some, None, option_map, All, refl, sym, ap, ◌∙◌, inl, inr, le-leb, le-ltb, arith}
use Rattle.std.specs.List.{position}
use Rattle.std.proofs.lemmas.Bool.{cases_Bool, cases_lt, lt-leb, ne_eqb}
use Rattle.std.proofs.lemmas.List.{get_or_default}
use Rattle.link_base.specs.Bytes.{field}
use Rattle.export_tables.specs.declared.row.ExportRow.{ExportRow}
use Rattle.export_tables.specs.declared.directory.Directory.{Directory}
use Rattle.export_tables.specs.declared.exported.Exported.TheVariants as exported
use Rattle.export_tables.specs.ExportDirectory.{if_export, entry_address, ordinal_address, found, found_in, export_of_ordinal}
use Rattle.export_tables.specs.ExportTable.{row_at, least, address_count, target_in, table_size, export_table, AreNumbered}
use Rattle.export_tables.specs.ReadBack.{Holds, AreReadable, exported_row, exported_ordinal}
use Rattle.export_tables.proofs.AddressLemmas.{exported_target}
use Rattle.export_tables.proofs.ReadTableLemmas.{table_directory, HoldsTable, table_directory_read, number_says}
use Rattle.export_tables.proofs.TargetLemmas.{least_below, place_within, place_of_none}

-- ---- a number

by_row : (rows : List ExportRow) (o : Option ℕ) → exported_target (option_map (λ (row : ℕ). (row_at rows row).what) o) ≡ exported_row (option_map (row_at rows) o)
by_row rows None = refl
by_row rows (Some i) = refl

-- one that no row has
no_row_has : (rows : List ExportRow) (ordinals : List ℕ) (ordinal : ℕ) → ((i : ℕ) → i < length ordinals → ordinal ≢ get_or ordinals i 0) → exported_ordinal rows ordinals ordinal ≡ exported.Missing
unfolding exported_ordinal
no_row_has rows ordinals ordinal differs =
    ap (λ (o : Option ℕ). exported_row (option_map (row_at rows) o))
    (place_of_none (eqb ordinal) ordinals (λ k d lt. ne_eqb ordinal (get_or ordinals k d) (λ e. differs k lt (e ∙ get_or_default ordinals k d 0 lt))))

-- one below the ordinal base, and one behind the last
none_below : (memory : List ℕ) (directory : Directory) (ordinal : ℕ) → ordinal < directory.ordinal_base → ordinal_address memory directory ordinal ≡ None
unfolding ordinal_address
none_below memory directory ordinal less =
    ap (λ (b : Bool). cond b (entry_address memory directory (ordinal - directory.ordinal_base)) None) (lt-leb _ _ less)

none_behind : (memory : List ℕ) (directory : Directory) (ordinal : ℕ) → directory.address_count ≤ ordinal - directory.ordinal_base → ordinal_address memory directory ordinal ≡ None
unfolding ordinal_address entry_address
none_behind memory directory ordinal beyond =
    let place = ordinal - directory.ordinal_base in
    elim (cases_Bool (leb directory.ordinal_base ordinal)) [
      | inl from ↦
          ap (λ (b : Bool). cond b (entry_address memory directory place) None) from
          ∙ ap (λ (b : Bool). if_export memory directory (cond b (field 4 memory (directory.address_table + 4 * place)) None)) (le-ltb _ _ beyond)
      | inr low ↦ ap (λ (b : Bool). cond b (entry_address memory directory place) None) low
    ]

module _ (memory : List ℕ) (rows : List ExportRow) (ordinals dll : List ℕ) (rva : ℕ) (holds : HoldsTable memory rows ordinals dll rva) where
  counted_number : (ordinal : ℕ) → least ordinals ≤ ordinal → ordinal - least ordinals < address_count ordinals → found memory (table_directory rows ordinals dll rva) (ordinal_address memory (table_directory rows ordinals dll rva) ordinal) ≡ exported_ordinal rows ordinals ordinal
  unfolding ordinal_address target_in exported_ordinal
  counted_number ordinal from lt =
      let directory = table_directory rows ordinals dll rva in
      let place = ordinal - least ordinals in
      let number : least ordinals + place ≡ ordinal = omega (arith, from) in
      ap (λ (b : Bool). found memory directory (cond b (entry_address memory directory place) None)) (le-leb _ _ from)
      ∙ (number_says memory rows ordinals dll rva holds place lt).found_as
      ∙ by_row rows (position (eqb (least ordinals + place)) ordinals)
      ∙ ap (λ (n : ℕ). exported_row (option_map (row_at rows) (position (eqb n) ordinals))) number

  number_found : (ordinal : ℕ) → found memory (table_directory rows ordinals dll rva) (ordinal_address memory (table_directory rows ordinals dll rva) ordinal) ≡ exported_ordinal rows ordinals ordinal
  number_found ordinal =
      let directory = table_directory rows ordinals dll rva in
      elim (cases_lt ordinal (least ordinals)) [
        | inl less ↦
            ap (found memory directory) (none_below memory directory ordinal less)
            ∙ sym (no_row_has rows ordinals ordinal (λ i lt e. absurd (omega (arith, less, e, least_below ordinals i lt))))
        | inr from ↦
            elim (cases_lt (ordinal - least ordinals) (address_count ordinals)) [
              | inl lt ↦ counted_number ordinal from lt
              | inr beyond ↦
                  ap (found memory directory) (none_behind memory directory ordinal beyond)
                  ∙ sym (no_row_has rows ordinals ordinal (λ i lt e. absurd (omega (arith, from, beyond, e, place_within ordinals i lt))))
            ]
      ]

  pub read_by_ordinal : (ordinal : ℕ) → export_of_ordinal memory rva (table_size rows ordinals dll) ordinal ≡ exported_ordinal rows ordinals ordinal
  unfolding export_of_ordinal
  read_by_ordinal ordinal =
      ap (found_in memory (λ (directory : Directory). ordinal_address memory directory ordinal)) (table_directory_read memory rows ordinals dll rva holds)
      ∙ number_found ordinal

pub ordinal_read_back : (rows : List ExportRow) (ordinals dll : List ℕ) (time rva : ℕ) (memory : List ℕ) (ordinal : ℕ) → AreNumbered rows ordinals → All (λ number. number < 2 ^ 16) ordinals → AreReadable rows rva (table_size rows ordinals dll) → rva + table_size rows ordinals dll < 2 ^ 32 → Holds memory rva (export_table rows ordinals dll time rva)
    → export_of_ordinal memory rva (table_size rows ordinals dll) ordinal ≡ exported_ordinal rows ordinals ordinal
ordinal_read_back rows ordinals dll time rva memory ordinal numbered small readable below held =
    read_by_ordinal memory rows ordinals dll rva (record { time = time; numbered = numbered; small = small; readable = readable; below = below; held = held }) ordinal
