-- The ordinals of a few exports, and what is wrong with others.
use Rattle.std.proofs.Common.{◌≡◌, ℕ, List, [], ◌∷◌, Option, Some, None, false, refl, codes}
use Rattle.directives.specs.declared.item.Export.{Export}
use Rattle.directives.specs.declared.item.ExportForm.TheVariants.{Code}
use Rattle.link_base.specs.Bytes.{first_below}
use Rattle.link_base.specs.declared.kinds.export.ExportFault.TheVariants.{TwoNames, TooMany}
use Rattle.export_tables.specs.Ordinals.{ordinal_above, ordinal_of, ordinals_of, has_earlier_name, has_earlier_ordinal, has_great_ordinal, bad_row, ordinal_fault}

row : List ℕ → Option ℕ → Export
row name ordinal = record { name = name; internal = None; ordinal = ordinal; noname = false; form = Code; private = false }

-- b and a ask for none, x for 7 and y for 2
four : List Export
four = row (codes "b") None ∷ row (codes "x") (Some 7) ∷ row (codes "a") None ∷ row (codes "y") (Some 2) ∷ []

four_ordinals : ordinals_of four ≡ 9 ∷ 7 ∷ 8 ∷ 2 ∷ []
unfolding four row ordinal_above ordinal_of
four_ordinals = refl

nothing_wrong : ordinal_fault four ≡ None
unfolding four row ordinal_above ordinal_of first_below has_earlier_name has_earlier_ordinal has_great_ordinal ordinal_fault
nothing_wrong = refl

names_before_ordinals : ordinal_fault (row (codes "a") (Some 3) ∷ row (codes "b") (Some 3) ∷ row (codes "a") None ∷ []) ≡ Some (bad_row TwoNames 2)
unfolding row ordinal_above ordinal_of first_below has_earlier_name has_earlier_ordinal has_great_ordinal ordinal_fault
names_before_ordinals = refl

too_many : ordinal_fault (row (codes "b") None ∷ row (codes "a") None ∷ row (codes "c") (Some 65534) ∷ []) ≡ Some (bad_row TooMany 0)
unfolding row ordinal_above ordinal_of first_below has_earlier_name has_earlier_ordinal has_great_ordinal ordinal_fault
too_many = refl
