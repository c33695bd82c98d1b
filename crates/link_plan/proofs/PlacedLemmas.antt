-- A place that is put where its piece stands.
use Rattle.std.proofs.Common.{◌≡◌, ℕ, List, Option, Some, None, option_map, refl}
use Rattle.std.proofs.lemmas.Option.{same_Some}
use Rattle.link_fields.specs.declared.entry.EntryPlace.{EntryPlace}
use Rattle.link_plan.specs.Planned.{placed_entry}

pub record IsPlaced (places : List ℕ) (entry : Option EntryPlace) (place : EntryPlace) : Type 0 where
  pub own : EntryPlace
  pub is : entry ≡ Some own
  pub placed : placed_entry places own ≡ place

pub placed_some : (places : List ℕ) (entry : Option EntryPlace) (place : EntryPlace) → option_map (placed_entry places) entry ≡ Some place → IsPlaced places entry place
placed_some places None place e = absurd cc
placed_some places (Some own) place e = record { own = own; is = refl; placed = same_Some (placed_entry places own) place e }
