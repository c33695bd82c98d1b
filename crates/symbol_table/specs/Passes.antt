-- What the passes over a table say of each name, by its number. Own.
use Rattle.std.specs.Prelude.{◌≡◌, ℕ, Bool, true, not, ◌==◌, nat_lt, List, length, filter, slice_index_or, Option, Some, None, option_map}
use Rattle.std.specs.List.{find}
use Rattle.symbol_names.specs.declared.noted.ModuleNames.{ModuleNames}
use Rattle.symbol_table.specs.declared.lives.FirstLive.{FirstLive}
use Rattle.symbol_table.specs.declared.greatest.GreatestCommon.{GreatestCommon}
use Rattle.symbol_table.specs.declared.first_weak.FirstWeak.{FirstWeak}
use Rattle.symbol_table.specs.declared.meaning.Clash.{Clash}
use Rattle.symbol_table.specs.declared.meaning.Meaning.{Meaning}
use Rattle.symbol_table.specs.declared.meaning.Meaning.TheVariants as meaning
use Rattle.symbol_names.specs.Alternates.{is_left}
use Rattle.symbol_names.specs.Lists.{Provided, has_name, Offered, offers, Said, says}
use Rattle.symbol_table.specs.Clash.{clash_between, clash_in}
use Rattle.symbol_table.specs.Resolution.{greatest_of, meaning_at}
use Rattle.symbol_names.specs.Interning.{Numbers, NotesDefault}

-- ---- definitions

abbrev pub live_of : Provided → FirstLive
live_of entry = record { «module» = entry.«module»; place = entry.definition.place }

abbrev pub first_meaning : FirstLive → Meaning
first_meaning first = meaning_at first.«module» first.place

-- the first of these definitions that has a name
abbrev pub AreFirst : List (List ℕ) → List Provided → List (Option FirstLive) → Type 0
AreFirst names entries firsts =
    (number : ℕ) (name : List ℕ) → Numbers names number name → slice_index_or firsts number None ≡ option_map live_of (find (has_name name) entries)

-- the first of each name, and the clash of two
pub record AreLives (names : List (List ℕ)) (entries : List Provided) (firsts : List (Option FirstLive)) (clash : Option Clash) : Type 0 where
  pub long : length firsts ≡ length names
  pub first : AreFirst names entries firsts
  pub clash_is : clash ≡ clash_in entries

-- the clash of a definition with the first of its name
abbrev pub clash_with_first : Provided → FirstLive → Option Clash
clash_with_first later first =
    clash_between later.definition.name first.«module» first.place later.«module» later.definition.place

-- ---- commons

abbrev pub common_kept : Offered → GreatestCommon
common_kept entry = record { «module» = entry.«module»; symbol = entry.common.symbol; size = entry.common.size }

abbrev pub kept_meaning : GreatestCommon → Meaning
kept_meaning common = meaning.Common common.«module» common.symbol

abbrev pub is_greater : ℕ → Option GreatestCommon → Bool
is_greater size None = true
is_greater size (Some common) = nat_lt common.size size

-- the greatest of these commons that has a name; a number behind the end of the list has none
abbrev pub TellsGreatest : List (List ℕ) → List Offered → List (Option GreatestCommon) → Type 0
TellsGreatest names entries commons =
    (number : ℕ) (name : List ℕ) → Numbers names number name → slice_index_or commons number None ≡ option_map common_kept (greatest_of (filter (offers name) entries))

pub record AreGreatest (names : List (List ℕ)) (entries : List Offered) (commons : List (Option GreatestCommon)) : Type 0 where
  pub long : length commons ≡ length names
  pub greatest : TellsGreatest names entries commons

-- a module shares names
abbrev pub has_commons : ModuleNames → Bool
has_commons kept = not (length kept.commons.items == 0)

-- ---- weak externals

pub record KeepsSaid (names : List (List ℕ)) (entry : Said) (weak : FirstWeak) : Type 0 where
  pub module_is : weak.«module» ≡ entry.«module»
  pub default_is : NotesDefault names entry.default weak.default

abbrev pub KeepsWeak : List (List ℕ) → Option Said → Option FirstWeak → Type 0
KeepsWeak names None weak = weak ≡ None
KeepsWeak names (Some entry) (Some weak) = KeepsSaid names entry weak
KeepsWeak names (Some entry) None = ⊥

-- the first of these weak externals that has a name; a number behind the end of the list has none
abbrev pub TellsWeaks : List (List ℕ) → List Said → List (Option FirstWeak) → Type 0
TellsWeaks names entries weaks =
    (number : ℕ) (name : List ℕ) → Numbers names number name → KeepsWeak names (find (says name) entries) (slice_index_or weaks number None)

pub record AreWeaks (names : List (List ℕ)) (entries : List Said) (weaks : List (Option FirstWeak)) : Type 0 where
  pub long : length weaks ≡ length names
  pub first : TellsWeaks names entries weaks

-- a module says names weakly
abbrev pub has_weaks : ModuleNames → Bool
has_weaks kept = not (length kept.weaks.items == 0)

-- ---- alternates

abbrev pub KeepsAlternate : List (List ℕ) → Option (List ℕ × List ℕ) → Option ℕ → Type 0
KeepsAlternate names None number = number ≡ None
KeepsAlternate names (Some pair) (Some number) = Numbers names number pair.1
KeepsAlternate names (Some pair) None = ⊥

-- the first of these alternates that has a name on its left; a number behind the end of the list has none
abbrev pub TellsAlternates : List (List ℕ) → List (List ℕ × List ℕ) → List (Option ℕ) → Type 0
TellsAlternates names entries alternates =
    (number : ℕ) (name : List ℕ) → Numbers names number name → KeepsAlternate names (find (is_left name) entries) (slice_index_or alternates number None)

pub record AreAlternates (names : List (List ℕ)) (entries : List (List ℕ × List ℕ)) (alternates : List (Option ℕ)) : Type 0 where
  pub long : length alternates ≡ length names
  pub first : TellsAlternates names entries alternates

-- a module gives alternates
abbrev pub has_alternates : ModuleNames → Bool
has_alternates kept = not (length kept.alternates.items == 0)
