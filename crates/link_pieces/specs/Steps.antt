-- What functions of this crate ask of one another. It decides nothing.
use Rattle.std.specs.Prelude.{ℕ, ◌<◌}
use Rattle.module_view.specs.declared.definition.Place.{Place}
use Rattle.module_view.specs.declared.definition.Place.TheVariants as place

-- the section of a place is below a count
abbrev pub IsWithin : ℕ → Place → Type 0
IsWithin count (place.Section section value) = section < count
IsWithin count (place.Absolute value) = Unit {0}
IsWithin count place.Slot = Unit {0}
IsWithin count place.Thunk = Unit {0}
