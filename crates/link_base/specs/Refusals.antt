-- The first refusal of several, and what a stage that ends a link says of it. Own.
use Rattle.std.specs.Prelude.{◌≡◌, ℕ, zero, suc, Bool, List, [], ◌∷◌, Option, Some, None, if◌then◌else◌}
use Rattle.std.specs.Option.{option_or}
use Rattle.link_base.specs.declared.fault.Fault.{Fault}
use Rattle.link_base.specs.declared.stop.Refusal.{Refusal}
use Rattle.link_base.specs.declared.stop.Refusal.TheVariants as refusal
use Rattle.link_base.specs.declared.stop.Stop.{Stop}
use Rattle.link_base.specs.declared.stop.Stop.TheVariants as stop

-- a refusal that stands where its condition does
abbrev pub shown : {A : Type 0} → Bool → A → Option A
shown stands refusal = if stands then Some refusal else None

-- the first of a table of refusals, each of which stands or does not
abbrev pub first_standing : {A : Type 0} → List (Option A) → Option A
first_standing [] = None
first_standing (refusal ∷ rest) = option_or refusal (first_standing rest)

-- the refusal of the least index below n that has one
unfoldable pub first_refusal_below : {A : Type 0} → ℕ → (ℕ → Option A) → Option A
first_refusal_below zero refusal_at = None
first_refusal_below (suc n) refusal_at = option_or (first_refusal_below n refusal_at) (refusal_at n)

-- the fault of a refusal is the one that stands; of want of memory nothing is said
abbrev pub RefusesFor : Option Fault → Refusal → Type 0
RefusesFor standing (refusal.Fault fault) = standing ≡ Some fault
RefusesFor standing refusal.Memory = Unit {0}

-- what a refusal stops
abbrev pub stop_of : Refusal → Stop
stop_of (refusal.Fault fault) = stop.Fault fault
stop_of refusal.Memory = stop.Memory
