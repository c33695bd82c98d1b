-- The table of a DLL `c.dll` of the time 0x65432100 at RVA 0x2000, which exports what stands at 0x1000 as `api` and by the
-- ordinal 1; and that of `a.dll`, which exports a forwarder by the name `a` and the ordinal 6, and what stands at 0x1000 by the
-- ordinal 5 alone.
use Rattle.std.proofs.Common.{◌≡◌, ◌≢◌, ℕ, zero, suc, ◌<◌, List, [], ◌∷◌, ◌++◌, length, Some, None, true, false, refl, ap, inl, codes, arith}
use Rattle.std.specs.List.{AllZip}
use Rattle.std.proofs.lemmas.List.Elements.{All-from_recursion}
use Rattle.link_base.specs.Bytes.{number_at, number_bytes}
use Rattle.link_base.specs.Refusals.{first_refusal_below}
use Rattle.sorted_lists.specs.Order.{inserted, in_order}
use Rattle.export_tables.specs.declared.row.ExportRow.{ExportRow}
use Rattle.export_tables.specs.declared.row.ExportTo.TheVariants.{Rva, Forward}
use Rattle.export_tables.specs.declared.exported.Exported.TheVariants as exported
use Rattle.export_tables.specs.ExportDirectory.{directory_in, is_export, entry_address, ordinal_address, is_named, named_address, name_address, export_of_ordinal, export_of_name}
use Rattle.export_tables.specs.ExportTable.{row_at, target_in, targets_in, entries_before, names_of, rows_size, table_size, text_rva, addresses, name_rvas, tables_bytes, texts_bytes, export_table}
use Rattle.export_tables.specs.ReadBack.{HasNoNul, forward_text, IsApart, AreReadable, SameSize, exported_name, exported_ordinal}

one : List ExportRow
one = record { name = codes "api"; ordinal = None; noname = false; what = Rva 0x1000 } ∷ []

one_size : table_size one (1 ∷ []) (codes "c.dll") ≡ 0x3C
unfolding one rows_size table_size
one_size = refl

one_table : export_table one (1 ∷ []) (codes "c.dll") 0x65432100 0x2000
    ≡ 0 ∷ 0 ∷ 0 ∷ 0 ∷ 0x00 ∷ 0x21 ∷ 0x43 ∷ 0x65 ∷ 0 ∷ 0 ∷ 0 ∷ 0 ∷ 0x32 ∷ 0x20 ∷ 0 ∷ 0 ∷ 1 ∷ 0 ∷ 0 ∷ 0 ∷
    1 ∷ 0 ∷ 0 ∷ 0 ∷ 1 ∷ 0 ∷ 0 ∷ 0 ∷ 0x28 ∷ 0x20 ∷ 0 ∷ 0 ∷ 0x2C ∷ 0x20 ∷ 0 ∷ 0 ∷ 0x30 ∷ 0x20 ∷ 0 ∷ 0 ∷
    0x00 ∷ 0x10 ∷ 0 ∷ 0 ∷ 0x38 ∷ 0x20 ∷ 0 ∷ 0 ∷ 0 ∷ 0 ∷ codes "c.dll" ++ 0 ∷ codes "api" ++ 0 ∷ []
unfolding one target_in targets_in inserted in_order entries_before names_of rows_size table_size text_rva number_bytes addresses name_rvas tables_bytes texts_bytes export_table
one_table = refl

two : List ExportRow
two =
    record { name = codes "a"; ordinal = None; noname = false; what = Forward (codes "k.f") }
    ∷ record { name = codes "main"; ordinal = Some 5; noname = true; what = Rva 0x1000 } ∷ []

two_size : table_size two (6 ∷ 5 ∷ []) (codes "a.dll") ≡ 0x42
unfolding two rows_size table_size
two_size = refl

two_table : export_table two (6 ∷ 5 ∷ []) (codes "a.dll") 0 0x2000
    ≡ 0 ∷ 0 ∷ 0 ∷ 0 ∷ 0 ∷ 0 ∷ 0 ∷ 0 ∷ 0 ∷ 0 ∷ 0 ∷ 0 ∷ 0x36 ∷ 0x20 ∷ 0 ∷ 0 ∷ 5 ∷ 0 ∷ 0 ∷ 0 ∷
    2 ∷ 0 ∷ 0 ∷ 0 ∷ 1 ∷ 0 ∷ 0 ∷ 0 ∷ 0x28 ∷ 0x20 ∷ 0 ∷ 0 ∷ 0x30 ∷ 0x20 ∷ 0 ∷ 0 ∷ 0x34 ∷ 0x20 ∷ 0 ∷ 0 ∷
    0x00 ∷ 0x10 ∷ 0 ∷ 0 ∷ 0x3E ∷ 0x20 ∷ 0 ∷ 0 ∷ 0x3C ∷ 0x20 ∷ 0 ∷ 0 ∷ 1 ∷ 0 ∷ codes "a.dll" ++ 0 ∷ codes "a" ++ 0 ∷ codes "k.f" ++ 0 ∷ []
unfolding two target_in targets_in inserted in_order entries_before names_of rows_size table_size text_rva number_bytes addresses name_rvas tables_bytes texts_bytes export_table
two_table = refl

-- what is found of the second: a name, none by the name of a row that has its ordinal alone, and both ordinals

name_found : exported_name two (codes "a") ≡ exported.Forward (codes "k.f")
unfolding two exported_name
name_found = refl

noname_missing : exported_name two (codes "main") ≡ exported.Missing
unfolding two exported_name
noname_missing = refl

ordinal_found : exported_ordinal two (6 ∷ 5 ∷ []) 5 ≡ exported.Address 0x1000
unfolding two exported_ordinal
ordinal_found = refl

ordinal_missing : exported_ordinal two (6 ∷ 5 ∷ []) 7 ≡ exported.Missing
unfolding two exported_ordinal
ordinal_missing = refl

-- and in the bytes of its table of a time that is not 0, where they stand at RVA 0

second : List ℕ
second = export_table two (6 ∷ 5 ∷ []) (codes "a.dll") 0x65432100 0

name_read : export_of_name second 0 0x42 (codes "a") ≡ exported_name two (codes "a")
unfolding second two target_in targets_in inserted in_order entries_before names_of rows_size table_size text_rva number_at number_bytes addresses name_rvas tables_bytes texts_bytes export_table first_refusal_below directory_in is_export entry_address is_named named_address name_address export_of_name exported_name
name_read = refl

ordinal_read : export_of_ordinal second 0 0x42 5 ≡ exported_ordinal two (6 ∷ 5 ∷ []) 5
unfolding second two target_in targets_in inserted in_order entries_before names_of rows_size table_size text_rva number_at number_bytes addresses name_rvas tables_bytes texts_bytes export_table directory_in is_export entry_address ordinal_address export_of_ordinal exported_ordinal
ordinal_read = refl

-- its rows can be read where it stands at RVA 0x2000, and rows with RVA 0 take as many bytes

texts_differ : (i j : ℕ) → i < j → j < length two → (row_at two i).name ≢ (row_at two j).name
unfolding two
texts_differ zero zero lt within = absurd (omega (arith, lt))
texts_differ zero (suc zero) lt within = λ same. omega (arith, ap length same)
texts_differ zero (suc (suc j)) lt within = absurd (omega (arith, within))
texts_differ (suc i) zero lt within = absurd (omega (arith, lt))
texts_differ (suc i) (suc zero) lt within = absurd (omega (arith, lt))
texts_differ (suc i) (suc (suc j)) lt within = absurd (omega (arith, within))

readable : AreReadable two 0x2000 0x42
unfolding two
readable = record {
  names = All-from_recursion (λ row. HasNoNul row.name) two (refl, (refl, tt));
  forwarders = All-from_recursion (λ row. HasNoNul (forward_text row.what)) two (refl, (refl, tt));
  differ = texts_differ;
  apart = All-from_recursion (λ row. IsApart 0x2000 0x42 row.what) two (tt, (((λ zero. omega (arith, zero)), omega arith, inl (omega arith)), tt));
}

without_places : List ExportRow
without_places =
    record { name = codes "a"; ordinal = None; noname = false; what = Forward (codes "???") }
    ∷ record { name = codes "main"; ordinal = None; noname = true; what = Rva 0 } ∷ []

one_size_each : AllZip SameSize two without_places
unfolding two without_places
one_size_each = (record { same_names = refl; same_nonames = refl; same_lens = refl; same_sizes = refl }, (record { same_names = refl; same_nonames = refl; same_lens = refl; same_sizes = refl }, tt))
