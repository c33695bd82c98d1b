-- The definitions on a small directory at RVA 8: ordinals from 5 on, three addresses, of which the second is a hole and the
-- third that of a forwarder, and two names.
use Rattle.std.proofs.Common.{◌≡◌, ℕ, List, [], ◌∷◌, refl, codes}
use Rattle.link_base.specs.Bytes.{number_at}
use Rattle.link_base.specs.Refusals.{first_refusal_below}
use Rattle.export_tables.specs.declared.exported.Exported.TheVariants.{Address, Forward, Missing}
use Rattle.export_tables.specs.ExportDirectory.{directory_in, is_export, entry_address, ordinal_address, is_named, named_address, name_address, export_of_ordinal, export_of_name}

table : List ℕ
table =
    0 ∷ 0 ∷ 0 ∷ 0 ∷ 0 ∷ 0 ∷ 0 ∷ 0 ∷
    0 ∷ 0 ∷ 0 ∷ 0 ∷ 0 ∷ 0 ∷ 0 ∷ 0 ∷ 0 ∷ 0 ∷ 0 ∷ 0 ∷ 72 ∷ 0 ∷ 0 ∷ 0 ∷ 5 ∷ 0 ∷ 0 ∷ 0 ∷
    3 ∷ 0 ∷ 0 ∷ 0 ∷ 2 ∷ 0 ∷ 0 ∷ 0 ∷ 48 ∷ 0 ∷ 0 ∷ 0 ∷ 60 ∷ 0 ∷ 0 ∷ 0 ∷ 68 ∷ 0 ∷ 0 ∷ 0 ∷
    0x00 ∷ 0x10 ∷ 0 ∷ 0 ∷ 0 ∷ 0 ∷ 0 ∷ 0 ∷ 78 ∷ 0 ∷ 0 ∷ 0 ∷
    74 ∷ 0 ∷ 0 ∷ 0 ∷ 76 ∷ 0 ∷ 0 ∷ 0 ∷ 2 ∷ 0 ∷ 0 ∷ 0 ∷
    100 ∷ 0 ∷ 97 ∷ 0 ∷ 98 ∷ 0 ∷ 107 ∷ 46 ∷ 102 ∷ 0 ∷ []

fifth : export_of_ordinal table 8 74 5 ≡ Address 0x1000
unfolding table number_at directory_in is_export entry_address ordinal_address export_of_ordinal
fifth = refl

hole : export_of_ordinal table 8 74 6 ≡ Missing
unfolding table number_at directory_in is_export entry_address ordinal_address export_of_ordinal
hole = refl

forwarder : export_of_ordinal table 8 74 7 ≡ Forward (codes "k.f")
unfolding table number_at directory_in is_export entry_address ordinal_address export_of_ordinal
forwarder = refl

by_second_name : export_of_name table 8 74 (codes "b") ≡ Address 0x1000
unfolding table number_at first_refusal_below directory_in is_export entry_address is_named named_address name_address export_of_name
by_second_name = refl

by_first_name : export_of_name table 8 74 (codes "a") ≡ Forward (codes "k.f")
unfolding table number_at first_refusal_below directory_in is_export entry_address is_named named_address name_address export_of_name
by_first_name = refl

by_no_name : export_of_name table 8 74 (codes "c") ≡ Missing
unfolding table number_at first_refusal_below directory_in is_export entry_address is_named named_address name_address export_of_name
by_no_name = refl
