-- What is kept of the alternates that may lead to a member, beside the other parts of a search. Own.
use Rattle.std.specs.Prelude.{◌≡◌, ◌<◌, ℕ, Bool, true, false, ◌||◌, if◌then◌else◌, List, [], length, slice_index_or, None, Vec}
use Rattle.std.specs.List.{list_any}
use Rattle.std.specs.Option.{option_map_or}
use Rattle.std.specs.Ordering.{nat_cmp, is_eq}
use Rattle.std.specs.BTreeSet.{BTreeSet, contains}
use Rattle.indexmap.specs.IndexMap.{IndexMap, get}
use Rattle.link_base.specs.NameText.{same_name}
use Rattle.module_view.specs.Module.{ModuleView}
use Rattle.symbol_names.specs.LinkView.{LinkView}
use Rattle.symbol_names.specs.Alternates.{all_alternates}
use Rattle.symbol_names.specs.References.{all_asked}
use Rattle.symbol_table.specs.OpenNames.{asked_at, asks_for, is_open_at}
use Rattle.lib_search.specs.SearchSteps.{Searched, alternate_member}
use Rattle.lib_search.specs.SearchParts.{IsPassed}
use Rattle.lib_search.specs.declared.alternates.Alternates.{Alternates}
use Rattle.lib_search.specs.declared.search.Search.{Search}

-- ---- numbers of alternates

abbrev pub is_waiting : BTreeSet ℕ → ℕ → Bool
is_waiting waiting number = contains nat_cmp waiting number

-- the first of some numbers
pub record IsLeast (waiting : BTreeSet ℕ) (number : ℕ) : Type 0 where
  pub here : is_waiting waiting number ≡ true
  pub below : (other : ℕ) → other < number → is_waiting waiting other ≡ false

abbrev pub is_among : List ℕ → ℕ → Bool
is_among numbers number = list_any (λ other. is_eq (nat_cmp other number)) numbers

-- the numbers that are noted under a name
abbrev pub noted_under : {Y S : Type 0} → IndexMap (List ℕ) (Vec ℕ Y) S → List ℕ → List ℕ
noted_under noted name = option_map_or (λ numbers. numbers.items) (get same_name noted name) []

-- ---- what waits, and what is asleep

abbrev pub pair_at : List (List ℕ × List ℕ) → ℕ → List ℕ × List ℕ
pair_at pairs number = slice_index_or pairs number ([], [])

-- a name is asked for with a search
abbrev pub is_asked_name : LinkView → List ℕ → Bool
is_asked_name link name = list_any (asks_for name) (all_asked link)

-- of what is asked for below a number, nothing that is open has this name
abbrev pub IsQuiet : LinkView → ℕ → List ℕ → Type 0
IsQuiet link seen name = (k : ℕ) → k < seen → is_open_at link k ≡ true → same_name (asked_at link k).name name ≡ false

-- what is asked for below a number was looked at
pub record KeepsAlternates (searched : Searched) (seen : ℕ) (alternates : Alternates) : Type 0 where
  -- the left names of those that wait are asked for
  pub waits : (number : ℕ) → is_waiting alternates.waiting number ≡ true → (number < length alternates.pairs.items) × (is_asked_name searched.link (pair_at alternates.pairs.items number).0 ≡ true)
  -- those of others are not open, under which these are noted
  pub sleeps : (name : List ℕ) (number : ℕ) → is_among (noted_under alternates.asleep name) number ≡ true → (number < length alternates.pairs.items) × ((pair_at alternates.pairs.items number).0 ≡ name) × IsQuiet searched.link seen name
  -- the rest leads to no member although the left name is asked for
  pub gone : (number : ℕ) → number < length alternates.pairs.items → is_waiting alternates.waiting number ≡ false → is_among (noted_under alternates.asleep (pair_at alternates.pairs.items number).0) number ≡ false → (is_asked_name searched.link (pair_at alternates.pairs.items number).0 ≡ true) × (alternate_member searched (pair_at alternates.pairs.items number) ≡ None)

-- those that are asleep under a name wait from then on
pub record Wakes (name : List ℕ) (before after : Alternates) : Type 0 where
  pub pairs_stay : after.pairs.items ≡ before.pairs.items
  pub waiting_is : (number : ℕ) → is_waiting after.waiting number ≡ (is_waiting before.waiting number || is_among (noted_under before.asleep name) number)
  pub asleep_is : (other : List ℕ) → noted_under after.asleep other ≡ (if same_name name other then [] else noted_under before.asleep other)

-- ---- the parts of a search

-- the names are those of the modules, and the alternates all that are said
pub record AreTogether (searched : Searched) (modules : List ModuleView) (alternates : Alternates) (passed : ℕ) : Type 0 where
  pub modules_are : searched.link.modules ≡ modules
  pub over : IsPassed searched passed
  pub pairs_are : alternates.pairs.items ≡ all_alternates searched.link
  pub kept : KeepsAlternates searched (length (all_asked searched.link)) alternates

-- those of a search are
abbrev pub KeepsSearch : Search → Type 0
KeepsSearch search = AreTogether search.searched search.modules.items search.alternates search.passed
