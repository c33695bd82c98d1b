-- The bytes of the tables, one item after the other, and that they fit.
use Rattle.std.proofs.Common.{◌≡◌, ℕ, ◌+◌, ◌*◌, ◌<◌, ◌≤◌, List, [], ◌∷◌, ◌++◌, length, map, get_or, Option, None, refl, sym, ap, ◌∙◌, append_assoc, append-nil, arith}
use Rattle.std.specs.List.{sum_by, flat_map, range_with_len}
use Rattle.std.proofs.lemmas.List.{get_or_default}
use Rattle.std.proofs.lemmas.List.Sums.{sum_by_more, sum_by-take-le}
use Rattle.std.proofs.lemmas.List.Concat.{flat_map-append}
use Rattle.std.proofs.lemmas.List.FromFn.{map-range_with_len_more}
use Rattle.link_base.specs.Bytes.{number_bytes}
use Rattle.link_base.specs.Fields.{fields}
use Rattle.export_tables.specs.declared.row.ExportRow.{ExportRow}
use Rattle.export_tables.specs.declared.row.ExportTo.{ExportTo}
use Rattle.export_tables.specs.declared.names.NameEntry.{NameEntry}
use Rattle.export_tables.specs.declared.directory.Directory.{Directory}
use Rattle.export_tables.specs.ExportTable.{least, address_count, targets_in, names_of, text_size, name_size, target_size, table_size, text_rva, target_address, address_at, addresses, name_rvas, directory_fields, tables_bytes, index_bytes, AreNumbered}
use Rattle.export_tables.proofs.EntryLemmas.{rows_parts}

-- ---- where a text stands

module _ {X : Type 0} (size : X → ℕ) (start : ℕ) (items : List X) where
  pub first_rva : start ≡ text_rva size start items 0
  unfolding text_rva
  first_rva = omega arith

  pub rva_more : (k : ℕ) (d : X) → k < length items → text_rva size start items k + size (get_or items k d) ≡ text_rva size start items (k + 1)
  unfolding text_rva
  rva_more k d lt = let more = sum_by_more size items k d lt in omega (arith, more)

  pub rva_within : (k : ℕ) → text_rva size start items k ≤ start + sum_by size items
  unfolding text_rva
  rva_within k = let within = sum_by-take-le size items k in omega (arith, within)

-- ---- numbers, one after the other

numbers_more : (width : ℕ) (f : ℕ → ℕ) (k : ℕ) → flat_map (number_bytes width) (map f (range_with_len 0 (k + 1))) ≡ flat_map (number_bytes width) (map f (range_with_len 0 k)) ++ number_bytes width (f k)
numbers_more width f k =
    ap (flat_map (number_bytes width)) (map-range_with_len_more f 0 k k (omega arith))
    ∙ flat_map-append (number_bytes width) (map f (range_with_len 0 k)) (f k ∷ [])
    ∙ ap (λ (xs : List ℕ). flat_map (number_bytes width) (map f (range_with_len 0 k)) ++ xs) (append-nil (number_bytes width (f k)))

appended : (old part more before after next : List ℕ) → before ≡ old ++ part → after ≡ before ++ more → next ≡ part ++ more → after ≡ old ++ next
appended old part more before after next was is all = is ∙ ap (λ (xs : List ℕ). xs ++ more) was ∙ append_assoc old part more ∙ ap (λ (xs : List ℕ). old ++ xs) (sym all)

pub no_addresses : (old : List ℕ) (start : ℕ) (targets : List (Option ExportTo)) → old ≡ old ++ addresses start targets 0
unfolding addresses
no_addresses old start targets = sym (append-nil old)

pub address_more : (start : ℕ) (targets : List (Option ExportTo)) (k place n : ℕ) (d : Option ExportTo) (old before after : List ℕ) → k < length targets → place ≡ text_rva target_size start targets k → n ≡ target_address (get_or targets k d) place → before ≡ old ++ addresses start targets k → after ≡ before ++ number_bytes 4 n → after ≡ old ++ addresses start targets (k + 1)
unfolding addresses
address_more start targets k place n d old before after lt at is was more =
    let number : n ≡ address_at start targets k =
    is ∙ ap (target_address (get_or targets k d)) at ∙ ap (λ (t : Option ExportTo). target_address t (text_rva target_size start targets k)) (get_or_default targets k d None lt) in
    appended old _ (number_bytes 4 n) before after _ was more
    (numbers_more 4 (address_at start targets) k ∙ ap (λ (m : ℕ). flat_map (number_bytes 4) (map (address_at start targets) (range_with_len 0 k)) ++ number_bytes 4 m) (sym number))

pub no_rvas : (old : List ℕ) (start : ℕ) (names : List NameEntry) → old ≡ old ++ name_rvas start names 0
unfolding name_rvas
no_rvas old start names = sym (append-nil old)

pub rvas_more : (start : ℕ) (names : List NameEntry) (k n : ℕ) (old before after : List ℕ) → n ≡ text_rva name_size start names k → before ≡ old ++ name_rvas start names k → after ≡ before ++ number_bytes 4 n → after ≡ old ++ name_rvas start names (k + 1)
unfolding name_rvas
rvas_more start names k n old before after is was more =
    appended old _ (number_bytes 4 n) before after _ was more
    (numbers_more 4 (text_rva name_size start names) k ∙ ap (λ (m : ℕ). flat_map (number_bytes 4) (map (text_rva name_size start names) (range_with_len 0 k)) ++ number_bytes 4 m) (sym is))

-- ---- the tables together

pub tables_written : (time : ℕ) (directory : Directory) (names_rva forwarders_rva : ℕ) (targets : List (Option ExportTo)) (names : List NameEntry) (old a b c d : List ℕ) → a ≡ old ++ fields (directory_fields time directory) → b ≡ a ++ addresses forwarders_rva targets (length targets) → c ≡ b ++ name_rvas names_rva names (length names) → d ≡ c ++ flat_map index_bytes names → d ≡ old ++ tables_bytes time directory names_rva forwarders_rva targets names
unfolding tables_bytes
tables_written time directory names_rva forwarders_rva targets names old a b c d first second third fourth =
    appended old (fields (directory_fields time directory)) (addresses forwarders_rva targets (length targets) ++ (name_rvas names_rva names (length names) ++ flat_map index_bytes names)) a d _ first
    (appended a (addresses forwarders_rva targets (length targets)) (name_rvas names_rva names (length names) ++ flat_map index_bytes names) b d _ second
    (appended b (name_rvas names_rva names (length names)) (flat_map index_bytes names) c d _ third fourth refl) refl)
    refl

-- ---- all of it fits

-- what the parts of a table have is its size
pub parts_size : (rows : List ExportRow) (ordinals dll : List ℕ) → AreNumbered rows ordinals → 40 + 4 * address_count ordinals + 6 * length (names_of rows ordinals) + text_size dll + sum_by name_size (names_of rows ordinals) + sum_by target_size (targets_in rows (least ordinals) (address_count ordinals) ordinals) ≡ table_size rows ordinals dll
unfolding table_size
parts_size rows ordinals dll are = let parts = rows_parts rows ordinals are in omega (arith, parts)
