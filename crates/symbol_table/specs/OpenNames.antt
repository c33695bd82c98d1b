-- The names that libraries are searched for: they are asked for with a search, and nothing that has joined provides them (PE
-- Format, "COFF Symbol Table" and "Weak Externals").
use Rattle.std.specs.Prelude.{ℕ, Bool, false, ◌&&◌, ◌||◌, not, ◌-◌, List, [], length, slice_index_or, Option, is_some, option_map}
use Rattle.std.specs.List.{find, list_any, range_with_len}
use Rattle.link_base.specs.NameText.{same_name}
use Rattle.module_view.specs.Module.{ModuleView}
use Rattle.symbol_names.specs.LinkView.{LinkView}
use Rattle.symbol_names.specs.Lists.{has_name, all_definitions, offers, all_commons}
use Rattle.symbol_names.specs.References.{Asked, all_asked}
use Rattle.symbol_table.specs.LinkerNames.{linker_meaning}

-- ---- what is open

-- a module defines or shares the name, or the linker gives it a meaning
unfoldable pub is_provided : List ModuleView → List ℕ → Bool
is_provided modules name =
    list_any (has_name name) (all_definitions modules)
    || (list_any (offers name) (all_commons modules) || is_some (linker_meaning name))

-- libraries are searched for what is asked for with a search and not provided
abbrev pub is_open : List ModuleView → Asked → Bool
is_open modules asked = asked.search && not (is_provided modules asked.name)

abbrev pub asks_for : List ℕ → Asked → Bool
asks_for name asked = asked.search && same_name asked.name name

-- a name is open where something asks for it so
abbrev pub is_open_name : LinkView → List ℕ → Bool
is_open_name link name = list_any (asks_for name) (all_asked link) && not (is_provided link.modules name)

-- ---- by number

abbrev pub nothing_asked : Asked
nothing_asked = record { name = []; search = false }

abbrev pub asked_at : LinkView → ℕ → Asked
asked_at link k = slice_index_or (all_asked link) k nothing_asked

abbrev pub is_open_at : LinkView → ℕ → Bool
is_open_at link k = is_open link.modules (asked_at link k)

abbrev pub named_at : LinkView → ℕ → ℕ × List ℕ
named_at link k = (k, (asked_at link k).name)

-- the first that is open, of those from a number on: its number and its name
unfoldable pub open_from : LinkView → ℕ → Option (ℕ × List ℕ)
open_from link number =
    option_map (named_at link) (find (is_open_at link) (range_with_len number (length (all_asked link) - number)))
