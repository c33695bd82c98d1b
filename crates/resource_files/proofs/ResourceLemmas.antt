-- The entries of a resource file, one after another.
use Rattle.std.proofs.Common.{◌≡◌, ℕ, ◌+◌, Bool, true, false, cond, List, [], ◌∷◌, ◌++◌, length, map, Option, Some, None, Result, Ok, refl, sym, ap, ◌∙◌, append_assoc}
use Rattle.std.proofs.lemmas.Option.{none-some}
use Rattle.std.specs.Prelude.{filter_map, option_map}
use Rattle.std.proofs.lemmas.List.{append-nil}
use Rattle.link_base.specs.Refusals.{first_standing}
use Rattle.link_base.specs.declared.stop.Refusal.{Refusal}
use Rattle.link_base.specs.declared.stop.Refusal.TheVariants as refusal
use Rattle.res_merge.specs.declared.resource.ResError.{ResError}
use Rattle.res_merge.specs.Entries.{Entry}
use Rattle.resource_files.specs.Held.{item_entry, item_error, is_again, first_again, duplicate}
use Rattle.resource_files.specs.SaidFaults.{fault_said, RefusesSaid}

abbrev pub Items : Type 0
Items = List (Result Entry ResError)

abbrev pub entries_of : Items → List Entry
entries_of items = filter_map item_entry items

abbrev pub error_of : Items → Option ResError
error_of items = first_standing (map item_error items)

-- ---- they are counted

-- of all items, so many entries were counted, and these are left
pub record CountsOn (all left : Items) (count : ℕ) : Type 0 where
  pub counted : count + length (entries_of left) ≡ length (entries_of all)
  pub errors : error_of left ≡ error_of all

-- ---- they are added

-- of the entries of a file, behind those before it, so many were added, and these items are left
pub record AddsOn (before all now : List Entry) (left : Items) : Type 0 where
  pub together : now ++ entries_of left ≡ before ++ all
  pub again : first_again now (entries_of left) ≡ first_again before all
  pub well : error_of left ≡ None

pub adds_one : (before all now later : List Entry) (left rest : Items) (entry : Entry) → left ≡ Ok entry ∷ rest → later ≡ now ++ entry ∷ [] → is_again now entry ≡ false → AddsOn before all now left → AddsOn before all later rest
unfolding first_again
adds_one before all now later left rest entry is later_is fresh adds = record {
  together =
      ap (λ (es : List Entry). es ++ entries_of rest) later_is
      ∙ append_assoc now (entry ∷ []) (entries_of rest)
      ∙ sym (ap (λ (items : Items). now ++ entries_of items) is)
      ∙ adds.together;
  again =
      ap (λ (es : List Entry). first_again es (entries_of rest)) later_is
      ∙ sym (ap (λ (b : Bool). cond b (Some entry) (first_again (now ++ entry ∷ []) (entries_of rest))) fresh)
      ∙ sym (ap (λ (items : Items). first_again now (entries_of items)) is)
      ∙ adds.again;
  well = sym (ap error_of is) ∙ adds.well;
}

pub adds_again : (before all now : List Entry) (left rest : Items) (entry : Entry) → left ≡ Ok entry ∷ rest → is_again now entry ≡ true → AddsOn before all now left → first_again before all ≡ Some entry
unfolding first_again
adds_again before all now left rest entry is again adds =
    sym adds.again
    ∙ ap (λ (items : Items). first_again now (entries_of items)) is
    ∙ ap (λ (b : Bool). cond b (Some entry) (first_again (now ++ entry ∷ []) (entries_of rest))) again

-- which is the fault
pub refuses_again : (before all now : List Entry) (left rest : Items) (entry : Entry) (file : List ℕ) (r : Refusal) → left ≡ Ok entry ∷ rest → AddsOn before all now left → RefusesSaid (cond (is_again now entry) (Some (duplicate file entry)) None) r → RefusesSaid (option_map (duplicate file) (first_again before all)) r
refuses_again before all now left rest entry file (refusal.Fault fault) is adds bad = go (is_again now entry) refl bad
  where
    go : (b : Bool) → is_again now entry ≡ b → cond b (Some (duplicate file entry)) None ≡ Some (fault_said fault) → option_map (duplicate file) (first_again before all) ≡ Some (fault_said fault)
    go true e said = ap (option_map (duplicate file)) (adds_again before all now left rest entry is e adds) ∙ said
    go false e said = absurd (none-some (fault_said fault) said)
refuses_again before all now left rest entry file refusal.Memory is adds bad = tt

pub adds_all : (before all now : List Entry) (left : Items) → left ≡ [] → AddsOn before all now left → (now ≡ before ++ all) × (first_again before all ≡ None)
unfolding first_again
adds_all before all now left none adds = (
  sym (append-nil now) ∙ sym (ap (λ (items : Items). now ++ entries_of items) none) ∙ adds.together,
  sym adds.again ∙ ap (λ (items : Items). first_again now (entries_of items)) none,
)
