-- Rows that ordinals are given to are numbered as a table asks.
use Rattle.std.proofs.Common.{◌≡◌, ℕ, ◌<◌, ◌≤◌, List, length, map, get_or, Option, Some, None, refl, sym, ap, ◌∙◌, arith}
use Rattle.std.specs.List.{All}
use Rattle.std.proofs.lemmas.List.{length-map}
use Rattle.std.proofs.lemmas.List.Elements.{All-map, All-weaker}
use Rattle.link_base.specs.Limits.{NAME_LIMIT}
use Rattle.directives.specs.declared.item.Export.{Export}
use Rattle.symbol_names.specs.Exports.{forwarder}
use Rattle.export_tables.specs.ExportTable.{AreNumbered, forward_len}
use Rattle.export_tables.specs.Ordinals.{ordinal_of, ordinals_of}
use Rattle.link_exports.specs.Exports.{export_to, unplaced_row, text_of, CanBeTold}

text_len : (text : Option (List ℕ)) (rva : ℕ) → forward_len (export_to text rva) ≡ length (text_of text)
text_len None rva = refl
text_len (Some text) rva = refl

pub rows_numbered : (rows : List Export) (ordinals : List ℕ) → All CanBeTold rows → length rows ≤ 65535 → ordinals ≡ ordinals_of rows → ((i j : ℕ) → i < j → j < length rows → get_or (ordinals_of rows) i 0 ≡ get_or (ordinals_of rows) j 0 → ⊥) → AreNumbered (map unplaced_row rows) ordinals
rows_numbered rows ordinals told few are apart = record {
  few = omega (arith, few, length-map rows unplaced_row);
  names = All-map (λ row. length row.name ≤ NAME_LIMIT) unplaced_row rows (All-weaker CanBeTold (λ (row : Export). length row.name ≤ NAME_LIMIT) (λ row is. is.short_name) rows told);
  forwarders = All-map (λ row. forward_len row.what ≤ NAME_LIMIT) unplaced_row rows (All-weaker CanBeTold (λ (row : Export). forward_len (export_to (forwarder row) 0) ≤ NAME_LIMIT) (λ row is. omega (arith, is.short_forwarder, text_len (forwarder row) 0)) rows told);
  same_many = ap length are ∙ length-map rows (ordinal_of rows) ∙ sym (length-map rows unplaced_row);
  differ = λ i j lt within same.
      apart i j lt (omega (arith, within, ap length are, length-map rows (ordinal_of rows)))
      (ap (λ (xs : List ℕ). get_or xs i 0) (sym are) ∙ same ∙ ap (λ (xs : List ℕ). get_or xs j 0) are);
}
