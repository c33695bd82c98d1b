-- What a table of names keeps of the modules that were added, and of what their names mean. Own.
use Rattle.std.specs.Prelude.{◌≡◌, ◌≤◌, ℕ, Bool, List, [], length, map, Option}
use Rattle.std.specs.Option.{IfSome}
use Rattle.std.specs.List.{All, AllZip, IsDistinct}
use Rattle.link_base.specs.Limits.{MODULE_LIMIT}
use Rattle.link_base.specs.NameText.{same_name}
use Rattle.module_view.specs.Module.{ModuleView}
use Rattle.module_view.specs.Opening.{IsOpened}
use Rattle.module_view.specs.SymbolLists.{definitions_of}
use Rattle.symbol_table.specs.declared.link.Link.{Link}
use Rattle.symbol_table.specs.declared.meaning.Clash.{Clash}
use Rattle.symbol_table.specs.declared.asked.AskedNames.{AskedNames}
use Rattle.symbol_names.specs.declared.given.GivenNames.{GivenNames}
use Rattle.symbol_names.specs.declared.noted.ModuleNames.{ModuleNames}
use Rattle.symbol_names.specs.LinkView.{LinkView}
use Rattle.symbol_table.specs.Clash.{clash_of}
use Rattle.symbol_names.specs.Interning.{Numbers, NotesAlternate, NotesModule}
use Rattle.symbol_names.specs.References.{Asked, all_asked}
use Rattle.symbol_names.specs.Kept.{noted_view}
use Rattle.symbol_table.specs.Links.{AreMeanings}
use Rattle.symbol_table.specs.AskedParts.{KeepsAsked}

-- the object of a short import defines nothing
abbrev pub IsOfOneKind : ModuleView → Type 0
IsOfOneKind view = IfSome view.imported (λ import. definitions_of view.bytes ≡ [])

pub record KeepsModules (names : List (List ℕ)) (kept : List ModuleNames) : Type 0 where
  pub noted : All (NotesModule names) kept
  pub opened : All IsOpened (map noted_view kept)
  pub alone : All IsOfOneKind (map noted_view kept)
  pub few : length kept ≤ MODULE_LIMIT

-- what takes part in a link, by what is kept of it
abbrev pub link_view : GivenNames → List ModuleNames → LinkView
link_view given kept = record { words = given.words.items; alternates = given.pairs.items; modules = map noted_view kept }

pub record KeepsLink (names : List (List ℕ)) (given : GivenNames) (kept : List ModuleNames) : Type 0 where
  pub alternates : AllZip (NotesAlternate names) given.pairs.items given.noted.items
  pub modules : KeepsModules names kept

pub record KeepsTable (names : List (List ℕ)) (given : GivenNames) (kept : List ModuleNames) (asked : AskedNames) : Type 0 where
  pub distinct : IsDistinct same_name names
  pub whole : KeepsLink names given kept
  pub asked_for : KeepsAsked names (link_view given kept) kept asked

-- a name that is asked for has a number
abbrev pub IsNumbered : List (List ℕ) → Asked → Type 0
IsNumbered names asked = (number : ℕ) × Numbers names number asked.name

-- what names mean in modules of which some sections are chosen
pub record ResolvedView : Type 0 where
  pub link : LinkView
  pub chosen : List (List Bool)

pub record KeepsMeanings (names : List (List ℕ)) (given : GivenNames) (kept : List ModuleNames) (chosen : List (List Bool)) (links : List Link) (clash : Option Clash) : Type 0 where
  pub whole : KeepsLink names given kept
  pub asked : All (IsNumbered names) (all_asked (link_view given kept))
  pub meant : AreMeanings (link_view given kept) chosen names links
  pub clash_is : clash ≡ clash_of (map noted_view kept) chosen
