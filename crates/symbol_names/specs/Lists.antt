-- What all modules of a list define, share and say weakly, in the order of the modules and of their symbols. Own.
use Rattle.std.specs.Prelude.{ℕ, Bool, true, false, ◌-◌, List, [], length, map, filter, slice_index_or}
use Rattle.std.specs.List.{range_with_len, flat_map}
use Rattle.link_base.specs.NameText.{same_name}
use Rattle.module_view.specs.Module.{ModuleView, module_at}
use Rattle.module_view.specs.ImportModule.{module_definitions}
use Rattle.module_view.specs.SymbolLists.{commons_of, weaks_of}
use Rattle.module_view.specs.declared.definition.Definition.{Definition}
use Rattle.module_view.specs.declared.definition.Common.{Common}
use Rattle.module_view.specs.declared.reference.Weak.{Weak}
use Rattle.module_view.specs.declared.definition.Place.{Place}
use Rattle.module_view.specs.declared.definition.Place.TheVariants as place
use Rattle.symbol_names.specs.declared.weak_default.WeakDefault.{WeakDefault}
use Rattle.symbol_names.specs.Defaults.{default_of}

-- the lists of all modules, joined in their order
abbrev pub of_each : {A : Type 0} → (ℕ → ModuleView → List A) → List ModuleView → List A
of_each list modules = flat_map (λ k. list k (module_at modules k)) (range_with_len 0 (length modules))

-- those that go by the bytes of their objects
abbrev pub of_all : {A : Type 0} → (ℕ → List ℕ → List A) → List ModuleView → List A
of_all list modules = of_each (λ k view. list k view.bytes) modules

-- ---- definitions

-- a definition and the position of its module
pub record Provided : Type 0 where
  pub «module» : ℕ
  pub definition : Definition

abbrev pub provided : ℕ → Definition → Provided
provided position definition = record { «module» = position; definition = definition }

abbrev pub provided_by : ℕ → ModuleView → List Provided
provided_by position view = map (provided position) (module_definitions view)

abbrev pub all_definitions : List ModuleView → List Provided
all_definitions modules = of_each provided_by modules

abbrev pub has_name : List ℕ → Provided → Bool
has_name name entry = same_name entry.definition.name name

-- rows tell which sections of which modules are chosen
abbrev pub is_chosen_in : List (List Bool) → ℕ → ℕ → Bool
is_chosen_in chosen position section = slice_index_or (slice_index_or chosen position []) (section - 1) false

abbrev pub is_live_at : List (List Bool) → ℕ → Place → Bool
is_live_at chosen position (place.Section section value) = is_chosen_in chosen position section
is_live_at chosen position (place.Absolute value) = true
is_live_at chosen position place.Slot = true
is_live_at chosen position place.Thunk = true

-- a definition is live where its section is chosen, and where it stands in none
abbrev pub is_live : List (List Bool) → Provided → Bool
is_live chosen entry = is_live_at chosen entry.«module» entry.definition.place

abbrev pub live_definitions : List ModuleView → List (List Bool) → List Provided
live_definitions modules chosen = filter (is_live chosen) (all_definitions modules)

-- ---- commons

-- a common and the position of its module
pub record Offered : Type 0 where
  pub «module» : ℕ
  pub common : Common

abbrev pub offered : ℕ → Common → Offered
offered position common = record { «module» = position; common = common }

abbrev pub offered_by : ℕ → List ℕ → List Offered
offered_by position bytes = map (offered position) (commons_of bytes)

abbrev pub all_commons : List ModuleView → List Offered
all_commons modules = of_all offered_by modules

abbrev pub offers : List ℕ → Offered → Bool
offers name entry = same_name entry.common.name name

-- ---- weak externals

-- a weak external, what it means by default, and the position of its module
pub record Said : Type 0 where
  pub «module» : ℕ
  pub name : List ℕ
  pub default : WeakDefault

abbrev pub said : ℕ → List ℕ → Weak → Said
said position bytes weak = record { «module» = position; name = weak.name; default = default_of bytes weak.tag }

abbrev pub said_by : ℕ → List ℕ → List Said
said_by position bytes = map (said position bytes) (weaks_of bytes)

abbrev pub all_weaks : List ModuleView → List Said
all_weaks modules = of_all said_by modules

abbrev pub says : List ℕ → Said → Bool
says name entry = same_name entry.name name
