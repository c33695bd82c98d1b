-- Names by numbers. Own.
use Rattle.std.specs.Prelude.{◌≡◌, ◌<◌, ℕ, nat_lt, true, if◌then◌else◌, List, slice_get, slice_index_or, Option, Some, None}
use Rattle.std.specs.List.{AllZip}
use Rattle.coff_records.specs.ObjectFile.{starts_symbol, symbol_name_of}
use Rattle.module_view.specs.Module.{ModuleView}
use Rattle.module_view.specs.ImportModule.{definitions_with, module_definitions}
use Rattle.module_view.specs.SymbolLists.{commons_of, weaks_of}
use Rattle.module_view.specs.declared.definition.Definition.{Definition}
use Rattle.module_view.specs.declared.definition.Common.{Common}
use Rattle.module_view.specs.declared.reference.Weak.{Weak}
use Rattle.symbol_names.specs.declared.noted.ModuleNames.{ModuleNames}
use Rattle.symbol_names.specs.declared.noted.NotedDefinition.{NotedDefinition}
use Rattle.symbol_names.specs.declared.noted.NotedCommon.{NotedCommon}
use Rattle.symbol_names.specs.declared.noted.NotedWeak.{NotedWeak}
use Rattle.symbol_names.specs.declared.noted.NotedAlternate.{NotedAlternate}
use Rattle.symbol_names.specs.declared.noted.NotedAsked.{NotedAsked}
use Rattle.symbol_names.specs.declared.noted.NotedLists.{NotedLists}
use Rattle.symbol_names.specs.declared.noted.NotedDefault.{NotedDefault}
use Rattle.symbol_names.specs.declared.noted.NotedDefault.TheVariants as noted
use Rattle.symbol_names.specs.declared.weak_default.WeakDefault.{WeakDefault}
use Rattle.symbol_names.specs.declared.weak_default.WeakDefault.TheVariants as default
use Rattle.symbol_names.specs.Alternates.{alternates_by}
use Rattle.symbol_names.specs.Defaults.{default_of}
use Rattle.symbol_names.specs.References.{Asked, asked_by}

-- a name has a number
abbrev pub Numbers : List (List ℕ) → ℕ → List ℕ → Type 0
Numbers names number name = slice_get names number ≡ Some name

-- each name keeps its number
abbrev pub KeepsNumbers : List (List ℕ) → List (List ℕ) → Type 0
KeepsNumbers before after = (number : ℕ) (name : List ℕ) → Numbers before number name → Numbers after number name

-- ---- one of a list

pub record NotesDefinition (names : List (List ℕ)) (definition : Definition) (noted : NotedDefinition) : Type 0 where
  pub named : Numbers names noted.name definition.name
  pub place_is : noted.place ≡ definition.place

pub record NotesCommon (names : List (List ℕ)) (common : Common) (noted : NotedCommon) : Type 0 where
  pub named : Numbers names noted.name common.name
  pub symbol_is : noted.symbol ≡ common.symbol
  pub size_is : noted.size ≡ common.size

-- a default by the number of its name
abbrev pub NotesDefault : List (List ℕ) → WeakDefault → NotedDefault → Type 0
NotesDefault names (default.Name name) (noted.Name number) = Numbers names number name
NotesDefault names (default.Place section value) said = said ≡ noted.Place section value
NotesDefault names (default.Absolute value) said = said ≡ noted.Absolute value
NotesDefault names default.Nothing said = said ≡ noted.Nothing
NotesDefault names (default.Name name) (noted.Place section value) = ⊥
NotesDefault names (default.Name name) (noted.Absolute value) = ⊥
NotesDefault names (default.Name name) noted.Nothing = ⊥

pub record NotesAlternate (names : List (List ℕ)) (pair : List ℕ × List ℕ) (noted : NotedAlternate) : Type 0 where
  pub left : Numbers names noted.left pair.0
  pub right : Numbers names noted.right pair.1

pub record NotesWeak (names : List (List ℕ)) (bytes : List ℕ) (weak : Weak) (noted : NotedWeak) : Type 0 where
  pub named : Numbers names noted.name weak.name
  pub default_is : NotesDefault names (default_of bytes weak.tag) noted.default

pub record NotesAsked (names : List (List ℕ)) (asked : Asked) (noted : NotedAsked) : Type 0 where
  pub named : Numbers names noted.name asked.name
  pub search_is : noted.search ≡ asked.search

-- ---- by record

-- the number of no name
abbrev pub NO_NUMBER : ℕ
NO_NUMBER = 4294967295

abbrev pub known_number : ℕ → Option ℕ
known_number number = if nat_lt number NO_NUMBER then Some number else None

-- a symbol starts at a record, and has this name
pub record IsNamedSo (bytes : List ℕ) (symbol : ℕ) (name : List ℕ) : Type 0 where
  pub starts : starts_symbol bytes symbol ≡ true
  pub name_is : name ≡ symbol_name_of bytes symbol

-- a symbol starts at a record, and its name has the number
pub record NumbersSymbol (names : List (List ℕ)) (bytes : List ℕ) (symbol number : ℕ) : Type 0 where
  pub starts : starts_symbol bytes symbol ≡ true
  pub named : Numbers names number (symbol_name_of bytes symbol)

-- a number that is noted at a record is that of its symbol's name
abbrev pub AreRecords : List (List ℕ) → List ℕ → List ℕ → Type 0
AreRecords names bytes records =
    (symbol : ℕ) → slice_index_or records symbol NO_NUMBER < NO_NUMBER → NumbersSymbol names bytes symbol (slice_index_or records symbol NO_NUMBER)

-- ---- a module

-- the lists of a module
pub record NotesLists (names : List (List ℕ)) (view : ModuleView) (noted : NotedLists) : Type 0 where
  pub definitions : AllZip (NotesDefinition names) (module_definitions view) noted.definitions.items
  pub commons : AllZip (NotesCommon names) (commons_of view.bytes) noted.commons.items
  pub weaks : AllZip (NotesWeak names view.bytes) (weaks_of view.bytes) noted.weaks.items
  pub alternates : AllZip (NotesAlternate names) (alternates_by 0 view.bytes) noted.alternates.items
  pub records : AreRecords names view.bytes noted.records.items
  pub asked : AllZip (NotesAsked names) (asked_by 0 view.bytes) noted.asked.items

-- what is kept of a module is its lists, with names by their numbers
pub record NotesModule (names : List (List ℕ)) (noted : ModuleNames) : Type 0 where
  pub definitions : AllZip (NotesDefinition names) (definitions_with noted.bytes.now noted.imported) noted.definitions.items
  pub commons : AllZip (NotesCommon names) (commons_of noted.bytes.now) noted.commons.items
  pub weaks : AllZip (NotesWeak names noted.bytes.now) (weaks_of noted.bytes.now) noted.weaks.items
  pub alternates : AllZip (NotesAlternate names) (alternates_by 0 noted.bytes.now) noted.alternates.items
  pub records : AreRecords names noted.bytes.now noted.records.items
