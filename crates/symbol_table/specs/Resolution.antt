-- What a name means in a list of modules, by their positions, where rows tell which of their sections are chosen (PE Format,
-- "COFF Symbol Table" and "Weak Externals"; alternates, and the order among commons and among defaults, are own).
use Rattle.std.specs.Prelude.{ℕ, suc, zero, ◌+◌, Bool, true, false, nat_le, if◌then◌else◌, List, ◌∷◌, ◌++◌, length, map, drop, filter, filter_map, Option, Some, None, Result, Ok, Err, option_map}
use Rattle.std.specs.List.{find, list_all, flat_map, range_with_len}
use Rattle.std.specs.Option.{option_or}
use Rattle.link_base.specs.NameText.{begins_import, behind_import}
use Rattle.module_view.specs.Module.{ModuleView}
use Rattle.module_view.specs.declared.definition.Place.{Place}
use Rattle.module_view.specs.declared.definition.Place.TheVariants as place
use Rattle.symbol_table.specs.declared.meaning.Meaning.{Meaning}
use Rattle.symbol_table.specs.declared.meaning.Meaning.TheVariants as meaning
use Rattle.symbol_table.specs.declared.meaning.NoMeaning.{NoMeaning}
use Rattle.symbol_table.specs.declared.meaning.NoMeaning.TheVariants.{Undefined, WeakCycle}
use Rattle.symbol_names.specs.declared.weak_default.WeakDefault.{WeakDefault}
use Rattle.symbol_names.specs.declared.weak_default.WeakDefault.TheVariants as default
use Rattle.symbol_table.specs.LinkerNames.{linker_meaning}
use Rattle.symbol_names.specs.LinkView.{LinkView}
use Rattle.symbol_names.specs.Alternates.{all_alternates, alternate_named}
use Rattle.symbol_names.specs.Lists.{Provided, has_name, is_chosen_in, live_definitions, Offered, offers, all_commons, Said, says, all_weaks}

-- ---- what stands behind a name

-- its first live definition
abbrev pub definition_named : List ModuleView → List (List Bool) → List ℕ → Option Provided
definition_named modules chosen name = find (has_name name) (live_definitions modules chosen)

abbrev pub is_at_most : ℕ → Offered → Bool
is_at_most size entry = nat_le entry.common.size size

abbrev pub is_greatest : List Offered → Offered → Bool
is_greatest entries entry = list_all (is_at_most entry.common.size) entries

-- the first whose size none exceeds
abbrev pub greatest_of : List Offered → Option Offered
greatest_of entries = find (is_greatest entries) entries

abbrev pub common_named : List ModuleView → List ℕ → Option Offered
common_named modules name = greatest_of (filter (offers name) (all_commons modules))

-- its first weak external
abbrev pub weak_named : List ModuleView → List ℕ → Option Said
weak_named modules name = find (says name) (all_weaks modules)

-- ---- what they mean

abbrev pub meaning_at : ℕ → Place → Meaning
meaning_at position (place.Section section value) = meaning.Section position section value
meaning_at position (place.Absolute value) = meaning.Absolute value
meaning_at position place.Slot = meaning.Slot position
meaning_at position place.Thunk = meaning.Thunk position

abbrev pub defined_meaning : Provided → Meaning
defined_meaning entry = meaning_at entry.«module» entry.definition.place

abbrev pub common_meaning : Offered → Meaning
common_meaning entry = meaning.Common entry.«module» entry.common.symbol

abbrev pub meaning_if : Option Meaning → Result Meaning NoMeaning
meaning_if None = Err Undefined
meaning_if (Some meaning) = Ok meaning

-- ---- a step of a chain

-- a name ends a chain with a meaning or with nothing, or leads to another name, to which it may be a slot
pub data Step : Type 0 where
  Ends : Result Meaning NoMeaning → Step
  Leads : (slot : Bool) → List ℕ → Step

-- a place in a section that is not chosen is nothing
abbrev pub place_meaning : List (List Bool) → ℕ → ℕ → ℕ → Result Meaning NoMeaning
place_meaning chosen position section value =
    if is_chosen_in chosen position section then Ok (meaning.Section position section value) else Err Undefined

-- the name that a default leads to
abbrev pub name_said : WeakDefault → Option (List ℕ)
name_said (default.Name name) = Some name
name_said (default.Place section value) = None
name_said (default.Absolute value) = None
name_said default.Nothing = None

abbrev pub default_step : List (List Bool) → ℕ → WeakDefault → Step
default_step chosen position (default.Name name) = Leads false name
default_step chosen position (default.Place section value) = Ends (place_meaning chosen position section value)
default_step chosen position (default.Absolute value) = Ends (Ok (meaning.Absolute value))
default_step chosen position default.Nothing = Ends (Err Undefined)

-- a name that begins with the import prefix, and that no import defines, is that of a slot of the name after the prefix (own)
abbrev pub slot_step : List ℕ → Step
slot_step name = if begins_import name then Leads true (behind_import name) else Ends (Err Undefined)

-- a name without a weak external means what its alternate means
abbrev pub alternate_step : List ℕ → Option (List ℕ × List ℕ) → Step
alternate_step name None = slot_step name
alternate_step name (Some pair) = Leads false pair.1

abbrev pub weak_step : List (List Bool) → Option Said → Step → Step
weak_step chosen None step = step
weak_step chosen (Some entry) step = default_step chosen entry.«module» entry.default

abbrev pub own_or : Option Meaning → Step → Step
own_or None step = step
own_or (Some meaning) step = Ends (Ok meaning)

-- what a name means without its default and its alternate: its live definition, its greatest common, or what the linker means by it
abbrev pub own_meaning : List ModuleView → List (List Bool) → List ℕ → Option Meaning
own_meaning modules chosen name =
    option_or (option_map defined_meaning (definition_named modules chosen name))
    (option_or (option_map common_meaning (common_named modules name)) (linker_meaning name))

unfoldable pub step : LinkView → List (List Bool) → List ℕ → Step
step link chosen name =
    own_or (own_meaning link.modules chosen name)
    (weak_step chosen (weak_named link.modules name) (alternate_step name (alternate_named link name)))

-- ---- a chain

abbrev pub is_local_slot : Meaning → Bool
is_local_slot (meaning.LocalSlot name) = true
is_local_slot (meaning.Section position section value) = false
is_local_slot (meaning.Common position symbol) = false
is_local_slot (meaning.Slot position) = false
is_local_slot (meaning.Thunk position) = false
is_local_slot (meaning.Absolute value) = false
is_local_slot meaning.ImageBase = false

-- what a slot of a name means, by what the name means: a pointer to that, but for a pointer there is none
abbrev pub slot_of : List ℕ → Result Meaning NoMeaning → Result Meaning NoMeaning
slot_of name (Err none) = Err none
slot_of name (Ok meant) = if is_local_slot meant then Err Undefined else Ok (meaning.LocalSlot name)

-- what a name means that leads to another, or is a slot of it, by what that one means
abbrev pub passed_on : Bool → List ℕ → Result Meaning NoMeaning → Result Meaning NoMeaning
passed_on false name end = end
passed_on true name end = slot_of name end

abbrev pub at_end : (List ℕ → Result Meaning NoMeaning) → Step → Result Meaning NoMeaning
at_end means (Ends end) = end
at_end means (Leads slot name) = passed_on slot name (means name)

-- the end of a chain within a number of steps
unfoldable pub meaning_within : LinkView → List (List Bool) → ℕ → List ℕ → Result Meaning NoMeaning
meaning_within link chosen zero name = Err WeakCycle
meaning_within link chosen (suc steps) name = at_end (meaning_within link chosen steps) (step link chosen name)

abbrev pub default_name : Said → Option (List ℕ)
default_name entry = name_said entry.default

-- the names that weak externals and alternates lead to
abbrev pub led_to : LinkView → List (List ℕ)
led_to link = filter_map default_name (all_weaks link.modules) ++ map (λ pair. pair.1) (all_alternates link)

-- what is left of a text without its first bytes, however many
abbrev pub tails_of : List ℕ → List (List ℕ)
tails_of text = map (λ k. drop k text) (range_with_len 0 (length text + 1))

-- the names that the chain of a name can come to: what is left of the name, or of one that a weak external or an alternate leads
-- to, without prefixes
abbrev pub names_ahead : LinkView → List ℕ → List (List ℕ)
names_ahead link name = flat_map tails_of (name ∷ led_to link)

-- what a name means is the end of its chain: one that has not ended after one step more than there are names that it can come to
-- has come to a name twice
unfoldable pub meaning_of : LinkView → List (List Bool) → List ℕ → Result Meaning NoMeaning
meaning_of link chosen name = meaning_within link chosen (length (names_ahead link name) + 1) name
