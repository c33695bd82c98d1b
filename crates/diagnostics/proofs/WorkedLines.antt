-- The name `N#‼` of a resource, by its units: those that do not print as themselves print as their numbers.
use Rattle.std.proofs.Common.{◌≡◌, [], ◌∷◌, refl}
use Rattle.std.specs.List.{flat_map}
use Rattle.hex.specs.Hex.{encode_with}
use Rattle.link_base.specs.Bytes.{number_at}
use Rattle.diagnostics.specs.LineText.{escaped_unit, text_units}

-- N\u0023\u203C
name : flat_map escaped_unit (text_units (78 ∷ 0 ∷ 35 ∷ 0 ∷ 0x3C ∷ 0x20 ∷ []))
    ≡ 78 ∷ 92 ∷ 117 ∷ 48 ∷ 48 ∷ 50 ∷ 51 ∷ 92 ∷ 117 ∷ 50 ∷ 48 ∷ 51 ∷ 67 ∷ []
unfolding number_at encode_with
name = refl
