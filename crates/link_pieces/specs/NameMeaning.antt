-- What a name means in a link, of each group of whose COMDAT sections one is chosen. Own.
use Rattle.std.specs.Prelude.{◌≡◌, ℕ, Bool, true, List, Option, Result}
use Rattle.std.specs.Borrow.{Bor}
use Rattle.module_view.specs.Module.{module_at}
use Rattle.link_pieces.specs.LinkParts.{LinkParts, names_in}
use Rattle.symbol_table.specs.declared.meaning.Meaning.{Meaning}
use Rattle.symbol_table.specs.declared.meaning.NoMeaning.{NoMeaning}
use Rattle.symbol_names.specs.Lists.{is_chosen_in}
use Rattle.symbol_table.specs.Resolution.{meaning_of}
use Rattle.symbol_table.specs.Meant.{is_standing}
use Rattle.symbol_table.specs.SymbolMeaning.{MeansSymbol}
use Rattle.comdat.specs.Selection.{chosen_sections}

abbrev pub name_meaning : LinkParts → List ℕ → Result Meaning NoMeaning
name_meaning link name = meaning_of (names_in link) (chosen_sections link.modules) name

-- a symbol starts at a record of the module at a position, and this is what its name means, none where it means nothing
abbrev pub MeansNoted : LinkParts → ℕ → ℕ → Option (Bor Meaning) → Type 0
MeansNoted link position symbol meant =
    MeansSymbol (record { link = names_in link; chosen = chosen_sections link.modules }) (module_at link.modules position).bytes symbol meant

-- a section of the module at a position takes part in the link
abbrev pub takes_part : LinkParts → ℕ → ℕ → Bool
takes_part link position section = is_chosen_in (chosen_sections link.modules) position section

-- a name means something that is no slot that has to be made
abbrev pub StandsIn : LinkParts → List ℕ → Type 0
StandsIn link name = is_standing (name_meaning link name) ≡ true
