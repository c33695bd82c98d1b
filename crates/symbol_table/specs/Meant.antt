-- Names that mean something that stands already: no slot has to be made for them. Own.
use Rattle.std.specs.Prelude.{◌≡◌, ℕ, ◌<◌, Bool, true, false, List, length, Result, Ok, Err}
use Rattle.std.specs.List.{All}
use Rattle.module_view.specs.Module.{module_at}
use Rattle.module_view.specs.SymbolLists.{definitions_of}
use Rattle.module_view.specs.declared.definition.Definition.{Definition}
use Rattle.symbol_names.specs.LinkView.{LinkView}
use Rattle.symbol_names.specs.References.{Asked, all_asked}
use Rattle.symbol_table.specs.declared.meaning.Meaning.{Meaning}
use Rattle.symbol_table.specs.declared.meaning.Meaning.TheVariants as meaning
use Rattle.symbol_table.specs.declared.meaning.NoMeaning.{NoMeaning}
use Rattle.symbol_table.specs.Resolution.{meaning_of}

-- a meaning, which is no slot that has to be made
abbrev pub is_standing : Result Meaning NoMeaning → Bool
is_standing (Ok (meaning.LocalSlot name)) = false
is_standing (Ok (meaning.Section position section value)) = true
is_standing (Ok (meaning.Common position symbol)) = true
is_standing (Ok (meaning.Slot position)) = true
is_standing (Ok (meaning.Thunk position)) = true
is_standing (Ok (meaning.Absolute value)) = true
is_standing (Ok meaning.ImageBase) = true
is_standing (Err none) = false

abbrev pub Stands : LinkView → List (List Bool) → List ℕ → Type 0
Stands link chosen name = is_standing (meaning_of link chosen name) ≡ true

abbrev pub StandsAsked : LinkView → List (List Bool) → Asked → Type 0
StandsAsked link chosen asked = Stands link chosen asked.name

abbrev pub StandsDefined : LinkView → List (List Bool) → Definition → Type 0
StandsDefined link chosen definition = Stands link chosen definition.name

-- so do all names that the command line or a module asks for, and those that symbols define
pub record AllStand (link : LinkView) (chosen : List (List Bool)) : Type 0 where
  pub asked : All (StandsAsked link chosen) (all_asked link)
  pub defined : (k : ℕ) → k < length link.modules → All (StandsDefined link chosen) (definitions_of (module_at link.modules k).bytes)
