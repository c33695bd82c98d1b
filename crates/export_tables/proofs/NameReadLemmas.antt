-- What is found by a name in a mapped image that holds the table of some rows.
use Rattle.std.proofs.Common.{◌≡◌, ◌≢◌, ℕ, zero, suc, ◌+◌, ◌-◌, ◌^◌, ◌<◌, ◌⊎◌, Bool, true, false, cond, ◌&&◌, not, List, length, get_or, Option, Some, None, is_some, All, refl, sym, ap, ◌∙◌, subst, inl, inr, arith}
use Rattle.std.specs.List.{find}
use Rattle.std.specs.Option.{option_or}
use Rattle.std.proofs.lemmas.Bool.{cases_Bool, cases_lt, and_parts, not-true}
use Rattle.std.proofs.lemmas.Slice.Eq.{bytes_eq-Decides}
use Rattle.link_base.specs.NameText.{same_name}
use Rattle.link_base.specs.Refusals.{first_refusal_below}
use Rattle.link_base.proofs.RefusalLemmas.{none_below}
use Rattle.export_tables.specs.declared.row.ExportRow.{ExportRow}
use Rattle.export_tables.specs.declared.names.NameEntry.{NameEntry}
use Rattle.export_tables.specs.declared.directory.Directory.{Directory}
use Rattle.export_tables.specs.ExportDirectory.{entry_address, named_address, name_address, found, found_in, export_of_name}
use Rattle.export_tables.specs.ExportTable.{row_at, least, named, entry_at, names_of, table_size, export_table, AreNumbered}
use Rattle.export_tables.specs.ReadBack.{Holds, AreReadable, exported_what, exported_row, is_exported_as, exported_name}
use Rattle.export_tables.proofs.AddressLemmas.{exported_target}
use Rattle.export_tables.proofs.NameLemmas.{some_is}
use Rattle.export_tables.proofs.ReadTableLemmas.{table_directory, HoldsTable, table_directory_read, number_says, named_says}
use Rattle.export_tables.proofs.RowLemmas.{target_of_row, entry_is, names_pass, name_among, none_found, one_found}
use Rattle.export_tables.proofs.TargetLemmas.{place_within}

-- ---- the first of several

abbrev IsNoneOr : {A : Type 0} → A → Option A → Type 0
IsNoneOr x o = (o ≡ None) ⊎ (o ≡ Some x)

none_or_that : {A : Type 0} (n : ℕ) (at : ℕ → Option A) (x : A) → ((k : ℕ) → k < n → IsNoneOr x (at k)) → IsNoneOr x (first_refusal_below n at)
unfolding first_refusal_below
none_or_that zero at x each = inl refl
none_or_that (suc n) at x each =
    elim (none_or_that n at x (λ k lt. each k (omega (arith, lt)))) [
      | inl none ↦ rw none (each n (omega arith))
      | inr some ↦ rw some (inr refl)
    ]

-- each is none or one, and there is one
that_of_all : {A : Type 0} (n m : ℕ) (at : ℕ → Option A) (x : A) → m < n → at m ≡ Some x → ((k : ℕ) → k < n → IsNoneOr x (at k)) → first_refusal_below n at ≡ Some x
unfolding first_refusal_below
that_of_all zero m at x lt here each = absurd (omega (arith, lt))
that_of_all (suc n) m at x lt here each =
    elim (none_or_that n at x (λ k less. each k (omega (arith, less)))) [
      | inr some ↦ rw some refl
      | inl none ↦
          elim (cases_lt m n) [
            | inl less ↦ ap (λ (o : Option _). option_or o (at n)) (that_of_all n m at x less here (λ k below. each k (omega (arith, below))))
            | inr le ↦ let same : n ≡ m = omega (arith, lt, le) in rw (none, same, here) refl
          ]
    ]

-- ---- rows of a name

-- a row that has a name and is exported by it
as_name : (name : List ℕ) (row : ExportRow) → is_exported_as name row ≡ true → (row.noname ≡ false) × (row.name ≡ name)
as_name name row is =
    let both = and_parts (not row.noname) (same_name row.name name) is in
    (not-true row.noname both.0, (bytes_eq-Decides row.name name).0 both.1)

not_as_name : (name : List ℕ) (row : ExportRow) → is_exported_as name row ≡ false → row.noname ≡ false → same_name row.name name ≡ false
not_as_name name row is has = ap (λ (b : Bool). not b && same_name row.name name) (sym has) ∙ is

one_row : (rows : List ExportRow) (i j : ℕ) → ((i j : ℕ) → i < j → j < length rows → (row_at rows i).name ≢ (row_at rows j).name) → i < length rows → j < length rows → (row_at rows i).name ≡ (row_at rows j).name → i ≡ j
one_row rows i j differ first second same =
    elim (cases_lt i j) [
      | inl lt ↦ absurd (differ i j lt second same)
      | inr le ↦
          elim (cases_lt j i) [
            | inl lt ↦ absurd (differ j i lt first (sym same))
            | inr le' ↦ omega (arith, le, le')
          ]
    ]

module _ (memory : List ℕ) (rows : List ExportRow) (ordinals dll : List ℕ) (rva : ℕ) (holds : HoldsTable memory rows ordinals dll rva) (name : List ℕ) where
  -- ---- no row has the name

  OtherName : NameEntry → Type 0
  OtherName entry = same_name entry.name name ≡ false

  none_named : find (is_exported_as name) rows ≡ None → name_address memory (table_directory rows ordinals dll rva) name ≡ None
  unfolding name_address OtherName
  none_named none =
      let directory = table_directory rows ordinals dll rva in
      let names = names_of rows ordinals in
      let others : All OtherName names =
      names_pass OtherName rows ordinals (λ i entry lt is.
      let one = entry_is (row_at rows i) (get_or ordinals i 0 - least ordinals) entry is in
      subst OtherName one.1 (not_as_name name (row_at rows i) (none_found (is_exported_as name) rows none i lt) one.0)) in
      none_below (length names) (named_address memory directory name) (λ k lt.
      named_says memory rows ordinals dll rva holds name k (named (row_at rows 0) 0) lt
      ∙ ap (λ (b : Bool). cond b (entry_address memory directory (get_or names k (named (row_at rows 0) 0)).index) None) (others k (named (row_at rows 0) 0) lt))

  -- ---- a row has it

  module _ (i : ℕ) (lt : i < length rows) (has : is_exported_as name (row_at rows i) ≡ true) where
    place : ℕ
    place = get_or ordinals i 0 - least ordinals

    HasPlace : NameEntry → Type 0
    HasPlace entry = same_name entry.name name ≡ true → entry.index ≡ place

    one_place : All HasPlace (names_of rows ordinals)
    unfolding HasPlace place
    one_place =
        names_pass HasPlace rows ordinals (λ j entry within is.
        let one = entry_is (row_at rows j) (get_or ordinals j 0 - least ordinals) entry is in
        subst HasPlace one.1 (λ same.
        let text : (row_at rows i).name ≡ (row_at rows j).name = (as_name name (row_at rows i) has).1 ∙ sym ((bytes_eq-Decides (row_at rows j).name name).0 same) in
        ap (λ (k : ℕ). get_or ordinals k 0 - least ordinals) (sym (one_row rows i j holds.readable.differ lt within text))))

    its_entry : NameEntry
    its_entry = named (row_at rows i) place

    its_entry_is : entry_at rows ordinals i ≡ Some its_entry
    unfolding its_entry place
    its_entry_is = ap (λ (b : Bool). cond b None (Some (named (row_at rows i) (get_or ordinals i 0 - least ordinals)))) (as_name name (row_at rows i) has).0

    one_named : (address : ℕ) → entry_address memory (table_directory rows ordinals dll rva) place ≡ Some address → name_address memory (table_directory rows ordinals dll rva) name ≡ Some address
    unfolding name_address HasPlace its_entry
    one_named address is =
        let directory = table_directory rows ordinals dll rva in
        let names = names_of rows ordinals in
        let there = name_among rows ordinals i its_entry lt its_entry_is in
        let named_here : named_address memory directory name there.0 ≡ Some address =
        named_says memory rows ordinals dll rva holds name there.0 its_entry there.1
        ∙ ap (λ (entry : NameEntry). cond (same_name entry.name name) (entry_address memory directory entry.index) None) there.2
        ∙ ap (λ (b : Bool). cond b (entry_address memory directory place) None) ((bytes_eq-Decides (row_at rows i).name name).1 (as_name name (row_at rows i) has).1)
        ∙ is in
        that_of_all (length names) there.0 (named_address memory directory name) address there.1 named_here (λ k below.
        let says = named_says memory rows ordinals dll rva holds name k its_entry below in
        let entry = get_or names k its_entry in
        elim (cases_Bool (same_name entry.name name)) [
          | inl same ↦
              inr (says
              ∙ ap (λ (b : Bool). cond b (entry_address memory directory entry.index) None) same
              ∙ ap (entry_address memory directory) (one_place k its_entry below same)
              ∙ is)
          | inr other ↦ inl (says ∙ ap (λ (b : Bool). cond b (entry_address memory directory entry.index) None) other)
        ])

    its_export : found memory (table_directory rows ordinals dll rva) (name_address memory (table_directory rows ordinals dll rva) name) ≡ exported_what (row_at rows i).what
    unfolding place
    its_export =
        let directory = table_directory rows ordinals dll rva in
        let within : i < length ordinals = omega (arith, lt, holds.numbered.same_many) in
        let target = target_of_row rows ordinals i holds.numbered.differ within in
        let says = number_says memory rows ordinals dll rva holds (get_or ordinals i 0 - least ordinals) (place_within ordinals i within) in
        let address = some_is (entry_address memory directory (get_or ordinals i 0 - least ordinals)) (says.some_as ∙ ap is_some target) in
        ap (found memory directory) (one_named address.0 address.1 ∙ sym address.1)
        ∙ says.found_as
        ∙ ap exported_target target

  -- ---- both

  pub read_by_name : export_of_name memory rva (table_size rows ordinals dll) name ≡ exported_name rows name
  unfolding export_of_name exported_name
  read_by_name =
      ap (found_in memory (λ (directory : Directory). name_address memory directory name)) (table_directory_read memory rows ordinals dll rva holds)
      ∙ go (find (is_exported_as name) rows) refl
    where
      go : (o : Option ExportRow) → find (is_exported_as name) rows ≡ o → found memory (table_directory rows ordinals dll rva) (name_address memory (table_directory rows ordinals dll rva) name) ≡ exported_row (find (is_exported_as name) rows)
      go None none = ap (found memory (table_directory rows ordinals dll rva)) (none_named none) ∙ ap exported_row (sym none)
      go (Some row) is =
          let there = one_found (is_exported_as name) rows row is in
          its_export there.0 there.1 (ap (is_exported_as name) there.2 ∙ there.3)
          ∙ ap (λ (r : ExportRow). exported_what r.what) there.2
          ∙ ap exported_row (sym is)

pub name_read_back : (rows : List ExportRow) (ordinals dll : List ℕ) (time rva : ℕ) (memory name : List ℕ) → AreNumbered rows ordinals → All (λ ordinal. ordinal < 2 ^ 16) ordinals → AreReadable rows rva (table_size rows ordinals dll) → rva + table_size rows ordinals dll < 2 ^ 32 → Holds memory rva (export_table rows ordinals dll time rva)
    → export_of_name memory rva (table_size rows ordinals dll) name ≡ exported_name rows name
name_read_back rows ordinals dll time rva memory name numbered small readable below held =
    read_by_name memory rows ordinals dll rva (record { time = time; numbered = numbered; small = small; readable = readable; below = below; held = held }) name
