-- Two definitions of one name. Own.
use Rattle.std.specs.Prelude.{ℕ, Bool, false, ◌==◌, if◌then◌else◌, List, [], length, take, slice_index_or, Option, Some, None, option_and_then}
use Rattle.std.specs.List.{find}
use Rattle.link_base.specs.Refusals.{first_refusal_below}
use Rattle.module_view.specs.Module.{ModuleView}
use Rattle.module_view.specs.declared.definition.Place.{Place}
use Rattle.module_view.specs.declared.definition.Place.TheVariants as place
use Rattle.symbol_table.specs.declared.meaning.Clash.{Clash}
use Rattle.symbol_names.specs.Lists.{Provided, has_name, live_definitions}

abbrev pub no_definition : Provided
no_definition = record { «module» = 0; definition = record { name = []; symbol = 0; place = place.Slot } }

abbrev pub entry_at : List Provided → ℕ → Provided
entry_at entries k = slice_index_or entries k no_definition

-- two places that are one number
abbrev pub is_number : ℕ → Place → Bool
is_number value (place.Absolute other) = other == value
is_number value (place.Section section offset) = false
is_number value place.Slot = false
is_number value place.Thunk = false

abbrev pub agree : Place → Place → Bool
agree (place.Absolute value) other = is_number value other
agree (place.Section section offset) other = false
agree place.Slot other = false
agree place.Thunk other = false

-- two definitions of a name, by their modules and places, clash unless they are one number
abbrev pub clash_between : List ℕ → ℕ → Place → ℕ → Place → Option Clash
clash_between name first first_place second second_place =
    if agree first_place second_place then None else Some (record { name = name; first = first; second = second })

abbrev pub clash_with : Provided → Provided → Option Clash
clash_with later first =
    clash_between later.definition.name first.«module» first.definition.place later.«module» later.definition.place

-- the clash of a definition with the first one before it that has its name, where there is one. Up to the first clash
-- all of one name agree, so that it does not matter with which of them the next is compared
abbrev pub clash_at : List Provided → ℕ → Option Clash
clash_at entries k =
    option_and_then (clash_with (entry_at entries k)) (find (has_name (entry_at entries k).definition.name) (take k entries))

-- the clash of the first definition that has one
abbrev pub clash_in : List Provided → Option Clash
clash_in entries = first_refusal_below (length entries) (clash_at entries)

-- the first live definition, by its module and then its symbol, whose name has an earlier one, with the modules of both
abbrev pub clash_of : List ModuleView → List (List Bool) → Option Clash
clash_of modules chosen = clash_in (live_definitions modules chosen)
