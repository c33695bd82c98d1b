-- Steps of chains by the numbers of names, and how a chain ends. Own.
use Rattle.std.specs.Prelude.{◌≡◌, ℕ, ◌<◌, nat_eq, Bool, true, false, List, [], ◌∷◌, length, slice_index_or, Option, Some, None, Result, Err}
use Rattle.std.specs.List.{list_any, All}
use Rattle.symbol_table.specs.declared.meaning.Meaning.{Meaning}
use Rattle.symbol_table.specs.declared.meaning.NoMeaning.{NoMeaning}
use Rattle.symbol_table.specs.declared.meaning.NoMeaning.TheVariants.{Undefined, WeakCycle}
use Rattle.symbol_table.specs.declared.link.Link.{Link}
use Rattle.symbol_table.specs.declared.link.Link.TheVariants as link
use Rattle.symbol_table.specs.declared.chains.Passed.{Passed}
use Rattle.symbol_names.specs.LinkView.{LinkView}
use Rattle.symbol_table.specs.Resolution.{Step, Ends, Leads, step, meaning_within}
use Rattle.symbol_names.specs.Interning.{Numbers}

-- ---- a step

-- a step by the number of the name that it leads to
abbrev pub IsStep : List (List ℕ) → Step → Link → Type 0
IsStep names (Ends end) (link.Ends other) = other ≡ end
IsStep names (Leads slot name) (link.Leads number slotted) = (slotted ≡ slot) × Numbers names number name
IsStep names (Ends end) (link.Leads number slotted) = ⊥
IsStep names (Leads slot name) (link.Ends other) = ⊥

abbrev pub no_link : Link
no_link = link.Ends (Err Undefined)

abbrev pub link_at : List Link → ℕ → Link
link_at links number = slice_index_or links number no_link

-- the number of the name that a link leads to, and whether it is a slot of that
abbrev pub next_of : Link → Option (ℕ × Bool)
next_of (link.Ends end) = None
next_of (link.Leads number slot) = Some (number, slot)

abbrev pub end_of : Link → Result Meaning NoMeaning
end_of (link.Ends end) = end
end_of (link.Leads number slot) = Err WeakCycle

-- the name that a link leads to has a number below the count
abbrev pub LeadsBelow : ℕ → Link → Type 0
LeadsBelow count (link.Ends end) = Unit {0}
LeadsBelow count (link.Leads number slot) = number < count

-- the steps of all names
pub record AreSteps (view : LinkView) (chosen : List (List Bool)) (names : List (List ℕ)) (links : List Link) : Type 0 where
  pub long : length links ≡ length names
  pub each : (number : ℕ) (name : List ℕ) → Numbers names number name → IsStep names (step view chosen name) (link_at links number)

-- ---- ends

-- a chain has this end however many steps are made, from some number on
pub record Settles (view : LinkView) (chosen : List (List Bool)) (name : List ℕ) (end : Result Meaning NoMeaning) : Type 0 where
  pub steps : ℕ
  pub stays : (more : ℕ) → steps < more → meaning_within view chosen more name ≡ end

-- a name still leads to another, or the end of its chain is known
pub record LeadsOn (view : LinkView) (chosen : List (List Bool)) (names : List (List ℕ)) (name : List ℕ) (number : ℕ) (slot : Bool) : Type 0 where
  pub other : List ℕ
  pub numbered : Numbers names number other
  pub leads : step view chosen name ≡ Leads slot other

abbrev pub IsKnown : LinkView → List (List Bool) → List (List ℕ) → List ℕ → Link → Type 0
IsKnown view chosen names name (link.Ends end) = Settles view chosen name end
IsKnown view chosen names name (link.Leads number slot) = LeadsOn view chosen names name number slot

pub record AreKnown (view : LinkView) (chosen : List (List Bool)) (names : List (List ℕ)) (links : List Link) : Type 0 where
  pub long : length links ≡ length names
  pub each : (number : ℕ) (name : List ℕ) → Numbers names number name → IsKnown view chosen names name (link_at links number)

-- ---- a path

abbrev pub is_from : ℕ → Passed → Bool
is_from number one = nat_eq number one.number

-- a number is that of a name that the path has passed
abbrev pub is_on : List Passed → ℕ → Bool
is_on path number = list_any (is_from number) path

-- a path leads from one number to another
abbrev pub LeadAlong : ℕ → List Passed → ℕ → Type 0
LeadAlong number [] at = number ≡ at
LeadAlong number (first ∷ rest) at = (number ≡ first.number) × LeadAlong first.next rest at

-- a name that was passed leads to the next
abbrev pub WasPassed : LinkView → List (List Bool) → List (List ℕ) → Passed → Type 0
WasPassed view chosen names one = (name : List ℕ) → Numbers names one.number name → LeadsOn view chosen names name one.next one.slot

-- the name of a number has this end
abbrev pub SettlesAt : LinkView → List (List Bool) → List (List ℕ) → Result Meaning NoMeaning → ℕ → Type 0
SettlesAt view chosen names end number = (name : List ℕ) → Numbers names number name → Settles view chosen name end

-- of the names that are not on a path, and of none else, it is known where they lead
pub record AreKnownBut (view : LinkView) (chosen : List (List Bool)) (names : List (List ℕ)) (path : List Passed) (links : List Link) : Type 0 where
  pub long : length links ≡ length names
  pub off : (number : ℕ) (name : List ℕ) → is_on path number ≡ false → Numbers names number name → IsKnown view chosen names name (link_at links number)
  pub on : (number : ℕ) → is_on path number ≡ true → next_of (link_at links number) ≡ None

-- a path is walked back: this is the end of the name that it leads to
pub record IsWalked (view : LinkView) (chosen : List (List Bool)) (names : List (List ℕ)) (number : ℕ) (path : List Passed) (end : Result Meaning NoMeaning) (links : List Link) : Type 0 where
  pub at : ℕ
  pub along : LeadAlong number path at
  pub passed : All (WasPassed view chosen names) path
  pub settles : SettlesAt view chosen names end at
  pub known : AreKnownBut view chosen names path links

-- the links say the ends of the chains of all names
pub record AreMeanings (view : LinkView) (chosen : List (List Bool)) (names : List (List ℕ)) (links : List Link) : Type 0 where
  pub long : length links ≡ length names
  pub each : (number : ℕ) (name : List ℕ) → Numbers names number name → Settles view chosen name (end_of (link_at links number))
