-- What an entry of the address table says, where the table and the forwarders are held.
use Rattle.std.proofs.Common.{◌≡◌, ◌≢◌, ℕ, ◌+◌, ◌*◌, ◌^◌, ◌<◌, ◌≤◌, ◌⊎◌, Bool, true, false, cond, List, length, get_or, Option, Some, None, is_some, refl, ap, ◌∙◌, subst, inl, inr, lt-ltb, le-ltb, le-leb, arith}
use Rattle.std.specs.List.{sum_by, flat_map}
use Rattle.std.proofs.lemmas.Bool.{lt-leb, ne_eqb, and_left, and_right}
use Rattle.link_base.specs.Bytes.{number_bytes, field, text_at}
use Rattle.link_base.proofs.HeldLemmas.{held_text}
use Rattle.export_tables.specs.declared.row.ExportTo.{ExportTo}
use Rattle.export_tables.specs.declared.row.ExportTo.TheVariants.{Rva, Forward}
use Rattle.export_tables.specs.declared.directory.Directory.{Directory}
use Rattle.export_tables.specs.declared.exported.Exported.{Exported}
use Rattle.export_tables.specs.declared.exported.Exported.TheVariants as exported
use Rattle.export_tables.specs.ExportDirectory.{is_forwarder, if_export, is_export, counted_address, entry_address, found}
use Rattle.export_tables.specs.ExportTable.{text_size, target_size, target_address, text_rva, addresses, target_bytes}
use Rattle.export_tables.specs.ReadBack.{Holds, HasNoNul, forward_text, IsApart, exported_what}
use Rattle.export_tables.proofs.FillLemmas.{rva_more, rva_within}
use Rattle.export_tables.proofs.HeldLemmas.{held_field}
use Rattle.export_tables.proofs.StandLemmas.{address_there, forwarder_there}

abbrev pub exported_target : Option ExportTo → Exported
exported_target None = exported.Missing
exported_target (Some what) = exported_what what

-- an entry is found as what its number exports, and there is one where its number exports something
pub record Says (memory : List ℕ) (directory : Directory) (index : ℕ) (target : Option ExportTo) : Type 0 where
  pub found_as : found memory directory (entry_address memory directory index) ≡ exported_target target
  pub some_as : is_some (entry_address memory directory index) ≡ is_some target

-- ---- an address

not_forwarder : (directory : Directory) (address : ℕ) → (address < directory.rva) ⊎ (directory.rva + directory.size ≤ address) → is_forwarder directory address ≡ false
not_forwarder directory address (inl lt) = and_left _ _ (lt-leb _ _ lt)
not_forwarder directory address (inr le) = and_right _ _ (le-ltb _ _ le)

module _ (memory : List ℕ) (directory : Directory) (index address : ℕ) (counted : counted_address memory directory index ≡ Some address) where
  hole_says : address ≡ 0 → Says memory directory index None
  unfolding entry_address is_export
  hole_says zero =
      let none : entry_address memory directory index ≡ None = ap (if_export memory directory) (counted ∙ ap Some zero) in
      record { found_as = ap (found memory directory) none; some_as = ap is_some none }

  plain_says : address ≢ 0 → (address < directory.rva) ⊎ (directory.rva + directory.size ≤ address) → Says memory directory index (Some (Rva address))
  unfolding entry_address is_export
  plain_says some outside =
      let plain = not_forwarder directory address outside in
      let there : is_export memory directory address ≡ true = rw (ne_eqb address 0 some, plain) refl in
      let one : entry_address memory directory index ≡ Some address =
      ap (if_export memory directory) counted ∙ ap (λ (b : Bool). cond b (Some address) None) there in
      record { found_as = ap (found memory directory) one ∙ rw plain refl; some_as = ap is_some one }

  forwarder_says : (text : List ℕ) → 0 < address → directory.rva ≤ address → address < directory.rva + directory.size → text_at memory address ≡ Some text → Says memory directory index (Some (Forward text))
  unfolding entry_address is_export
  forwarder_says text some low high read =
      let inside : is_forwarder directory address ≡ true = rw (le-leb _ _ low, lt-ltb _ _ high) refl in
      let there : is_export memory directory address ≡ true = rw (ne_eqb address 0 (λ zero. omega (arith, some, zero)), inside, read) refl in
      let one : entry_address memory directory index ≡ Some address =
      ap (if_export memory directory) counted ∙ ap (λ (b : Bool). cond b (Some address) None) there in
      record { found_as = ap (found memory directory) one ∙ rw (inside, read) refl; some_as = ap is_some one }

-- ---- an entry

from_start : {X : Type 0} (size : X → ℕ) (start : ℕ) (items : List X) (k : ℕ) → start ≤ text_rva size start items k
unfolding text_rva
from_start size start items k = omega arith

-- the texts of forwarders stand in the table, behind its start, and end below 2^32
pub record TextsWithin (directory : Directory) (start : ℕ) (targets : List (Option ExportTo)) : Type 0 where
  pub behind : directory.rva < start
  pub within : start + sum_by target_size targets ≤ directory.rva + directory.size
  pub below : directory.rva + directory.size < 2 ^ 32

-- what a row exports can be read
abbrev pub IsGood : Directory → ExportTo → Type 0
IsGood directory what = HasNoNul (forward_text what) × IsApart directory.rva directory.size what

module _ (memory : List ℕ) (directory : Directory) (start : ℕ) (targets : List (Option ExportTo)) (k : ℕ) (lt : k < length targets) where
  place : ℕ
  place = text_rva target_size start targets k

  address_read : (target : Option ExportTo) → get_or targets k None ≡ target → length targets ≡ directory.address_count → Holds memory directory.address_table (addresses start targets (length targets)) → target_address target place < 2 ^ 32 → counted_address memory directory k ≡ Some (target_address target place)
  unfolding place
  address_read target is many held fits =
      let here : Holds memory (directory.address_table + 4 * k) (number_bytes 4 (target_address target (text_rva target_size start targets k))) =
      subst (λ (t : Option ExportTo). Holds memory (directory.address_table + 4 * k) (number_bytes 4 (target_address t (text_rva target_size start targets k)))) is (address_there memory directory.address_table start targets k held lt) in
      ap (λ (b : Bool). cond b (field 4 memory (directory.address_table + 4 * k)) None) (lt-ltb k directory.address_count (omega (arith, lt, many)))
      ∙ held_field memory (directory.address_table + 4 * k) 4 (target_address target (text_rva target_size start targets k)) here (omega arith) (omega (arith, fits))

  text_inside : (text : List ℕ) → get_or targets k None ≡ Some (Forward text) → TextsWithin directory start targets → (directory.rva < place) × (place < directory.rva + directory.size)
  unfolding place
  text_inside text is texts =
      let size : target_size (get_or targets k None) ≡ text_size text = ap target_size is in
      let more = rva_more target_size start targets k None lt in
      let last = rva_within target_size start targets (k + 1) in
      (omega (arith, texts.behind, from_start target_size start targets k), omega (arith, size, more, last, texts.within))

  text_read : (text : List ℕ) → get_or targets k None ≡ Some (Forward text) → Holds memory start (flat_map target_bytes targets) → HasNoNul text → text_at memory place ≡ Some text
  unfolding place
  text_read text is held none =
      held_text memory (text_rva target_size start targets k) text
      (subst (λ (t : Option ExportTo). Holds memory (text_rva target_size start targets k) (target_bytes t)) is (forwarder_there memory start targets k held lt)) none

  pub entry_says : length targets ≡ directory.address_count → TextsWithin directory start targets → Holds memory directory.address_table (addresses start targets (length targets)) → Holds memory start (flat_map target_bytes targets) → ((what : ExportTo) → get_or targets k None ≡ Some what → IsGood directory what) → Says memory directory k (get_or targets k None)
  entry_says many texts held_addresses held_texts good = go (get_or targets k None) refl
    where
      go : (target : Option ExportTo) → get_or targets k None ≡ target → Says memory directory k target
      go None is = hole_says memory directory k 0 (address_read None is many held_addresses (omega arith)) refl
      go (Some (Rva address)) is =
          let apart = (good (Rva address) is).1 in
          plain_says memory directory k address (address_read (Some (Rva address)) is many held_addresses apart.1) apart.0 apart.2
      go (Some (Forward text)) is =
          let inside = text_inside text is texts in
          forwarder_says memory directory k place (address_read (Some (Forward text)) is many held_addresses (omega (arith, inside.1, texts.below))) text
          (omega (arith, inside.0)) (omega (arith, inside.0)) inside.1
          (text_read text is held_texts (good (Forward text) is).0)
