-- What a COMDAT section says of itself, with its leader by its place among definitions, and what is kept of it (PE Format, "COMDAT Sections (Object
-- Only)"; that the place stands for the name is own).
use Rattle.std.specs.Prelude.{◌≡◌, ℕ, ◌<◌, ◌≤◌, ◌+◌, ◌-◌, ◌==◌, true, not, List, [], length, slice_index_or, Option, None, option_map}
use Rattle.std.specs.Option.{IfSome, MatchOption}
use Rattle.std.specs.List.{All, AllPairs}
use Rattle.coff_records.specs.ObjectFile.{section_total}
use Rattle.coff_aux.specs.declared.comdat.Comdat.{Comdat}
use Rattle.coff_aux.specs.declared.comdat.ComdatRecord.{ComdatRecord}
use Rattle.coff_aux.specs.Comdats.{section_symbols_of, has_comdat, comdat_record_of, parent_said, comdat_of}
use Rattle.module_view.specs.declared.comdat_choice.ComdatChoice.{ComdatChoice}
use Rattle.module_view.specs.declared.definition.Definition.{Definition}
use Rattle.module_view.specs.declared.definition.Place.TheVariants as place

-- ---- definitions by their places in a list

abbrev pub no_definition : Definition
no_definition = record { name = []; symbol = 0; place = place.Absolute 0 }

abbrev pub definition_at : List Definition → ℕ → Definition
definition_at definitions k = slice_index_or definitions k no_definition

abbrev pub name_defined : List Definition → ℕ → List ℕ
name_defined definitions k = (definition_at definitions k).name

-- ---- what a section says

-- the same as a COMDAT, whose leader goes by its name
abbrev pub comdat_named : List Definition → ComdatChoice → Comdat
comdat_named definitions choice =
    record { selection = choice.selection; leader = option_map (name_defined definitions) choice.leader; parent = choice.parent }

-- its leader, where it has one, is among the definitions
abbrev pub HasLeaderAmong : List Definition → ComdatChoice → Type 0
HasLeaderAmong definitions choice = IfSome choice.leader (λ k. k < length definitions)

-- ---- the definition of a symbol

-- each symbol is before those of later definitions
abbrev pub AscendBySymbol : List Definition → Type 0
AscendBySymbol definitions = AllPairs (λ definition later. definition.symbol < later.symbol) definitions

pub record Defines (definitions : List Definition) (symbol k : ℕ) : Type 0 where
  pub within : k < length definitions
  pub symbol_is : (definition_at definitions k).symbol ≡ symbol

-- the place of the definition of a symbol, or none where none is that of the symbol
abbrev pub IsPlaceOf : List Definition → ℕ → Option ℕ → Type 0
IsPlaceOf definitions symbol place =
    MatchOption place (All (λ definition. definition.symbol ≡ symbol → ⊥) definitions) (Defines definitions symbol)

-- ---- what is kept of the COMDAT sections of an object

-- the leader of a section with this second symbol
abbrev pub IsLeaderOf : List Definition → Option ℕ → Option ℕ → Type 0
IsLeaderOf definitions second leader = MatchOption second (leader ≡ None) (λ symbol. IsPlaceOf definitions symbol leader)

-- what a section says that has a record and this second symbol
pub record IsChoice (definitions : List Definition) (said : ComdatRecord) (second : Option ℕ) (choice : ComdatChoice) : Type 0 where
  pub selection_is : choice.selection ≡ said.selection
  pub leads : IsLeaderOf definitions second choice.leader
  pub parent_is : choice.parent ≡ parent_said said

-- of one without a record there is nothing
abbrev pub IsChoiceBy : List Definition → Option ComdatRecord → Option ℕ → Option ComdatChoice → Type 0
IsChoiceBy definitions said second choice =
    MatchOption said (choice ≡ None) (λ one. MatchOption choice ⊥ (IsChoice definitions one second))

-- those of the sections of an object, each at its place
pub record AreChoicesBy (bytes : List ℕ) (definitions : List Definition) (choices : List (Option ComdatChoice)) : Type 0 where
  pub count : length choices ≡ section_total bytes
  pub each : (k : ℕ) → k < section_total bytes
      → IsChoiceBy definitions (comdat_record_of bytes (k + 1)) (section_symbols_of bytes (k + 1)).second (slice_index_or choices k None)

-- what a section says as a COMDAT, none where it is none
pub record SaysChoice (bytes : List ℕ) (definitions : List Definition) (section : ℕ) (choice : Option ComdatChoice) : Type 0 where
  pub says : option_map (comdat_named definitions) choice ≡ comdat_of bytes section
  pub leads : IfSome choice (HasLeaderAmong definitions)

-- what all sections say, by their numbers less 1; nothing where none is a COMDAT
pub record AreChoices (bytes : List ℕ) (definitions : List Definition) (choices : List (Option ComdatChoice)) : Type 0 where
  pub some : has_comdat bytes ≡ not (length choices == 0)
  pub count : has_comdat bytes ≡ true → length choices ≡ section_total bytes
  pub each : (section : ℕ) → 1 ≤ section → section ≤ section_total bytes → SaysChoice bytes definitions section (slice_index_or choices (section - 1) None)
