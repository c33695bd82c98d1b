-- What a table of names keeps of the names that a link asks for, and of those that its modules provide. Own.
use Rattle.std.specs.Prelude.{◌≡◌, ◌<◌, ◌++◌, ◌||◌, ℕ, List}
use Rattle.std.specs.List.{All, AllZip, list_any, flat_map}
use Rattle.symbol_table.specs.declared.asked.AskedNames.{AskedNames}
use Rattle.symbol_names.specs.declared.noted.ModuleNames.{ModuleNames}
use Rattle.symbol_names.specs.declared.noted.NotedCommon.{NotedCommon}
use Rattle.symbol_names.specs.declared.noted.NotedDefinition.{NotedDefinition}
use Rattle.symbol_names.specs.declared.noted.NotedLists.{NotedLists}
use Rattle.symbol_names.specs.LinkView.{LinkView}
use Rattle.symbol_names.specs.References.{all_asked}
use Rattle.symbol_names.specs.Flags.{names_definition, names_common, seeks, flag_of, SameFlags}
use Rattle.symbol_names.specs.Interning.{NotesAsked}

-- what all modules define, and what they share
abbrev pub kept_definitions : ModuleNames → List NotedDefinition
kept_definitions kept = kept.definitions.items

abbrev pub kept_commons : ModuleNames → List NotedCommon
kept_commons kept = kept.commons.items

-- ---- the parts

-- the list is what is asked for, and flags tell of each number whether it is provided and whether it is asked for with a search
pub record KeepsAsked (names : List (List ℕ)) (link : LinkView) (kept : List ModuleNames) (asked : AskedNames) : Type 0 where
  pub list : AllZip (NotesAsked names) (all_asked link) asked.list.items
  pub provided :
      (number : ℕ) → flag_of asked.provided.items number ≡ (list_any (names_definition number) (flat_map kept_definitions kept) || list_any (names_common number) (flat_map kept_commons kept))
  pub sought : (number : ℕ) → flag_of asked.sought.items number ≡ list_any (seeks number) asked.list.items

-- ---- steps

pub record KeepsParts (before after : AskedNames) : Type 0 where
  pub list : after.list.items ≡ before.list.items
  pub provided : SameFlags before.provided.items after.provided.items
  pub sought : SameFlags before.sought.items after.sought.items

-- the numbers of the names of some lists
pub record AreWithin (count : ℕ) (lists : NotedLists) : Type 0 where
  pub definitions : All (λ definition. definition.name < count) lists.definitions.items
  pub commons : All (λ common. common.name < count) lists.commons.items
  pub asked : All (λ asked. asked.name < count) lists.asked.items

pub record AddsLists (lists : NotedLists) (before after : AskedNames) : Type 0 where
  pub list : after.list.items ≡ before.list.items ++ lists.asked.items
  pub provided :
      (number : ℕ) → flag_of after.provided.items number ≡ ((flag_of before.provided.items number || list_any (names_definition number) lists.definitions.items) || list_any (names_common number) lists.commons.items)
  pub sought :
      (number : ℕ) → flag_of after.sought.items number ≡ (flag_of before.sought.items number || list_any (seeks number) lists.asked.items)
