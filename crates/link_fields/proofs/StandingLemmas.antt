-- The first refusal of a list that is walked.
use Rattle.std.proofs.Common.{◌≡◌, ℕ, zero, suc, ◌+◌, ◌<◌, List, [], ◌∷◌, ◌++◌, length, get_or, map, take, Option, Some, None, refl, sym, ap, ◌∙◌, arith}
use Rattle.std.specs.Option.{option_or}
use Rattle.std.proofs.lemmas.List.{take_more}
use Rattle.link_base.proofs.RefusalLemmas.{first_refusal_below-found}
use Rattle.link_base.specs.Refusals.{RefusesFor, first_standing, first_refusal_below}
use Rattle.link_base.specs.declared.stop.Refusal.{Refusal}
use Rattle.link_base.specs.declared.stop.Refusal.TheVariants as refusal
use Rattle.link_base.specs.declared.fault.Fault.{Fault}

-- none of the first ones is refused, and the next is not either
pub standing_more : {A B : Type 0} (f : A → Option B) (xs : List A) (k : ℕ) (x : A) → k < length xs → x ≡ get_or xs k x → first_standing (map f (take k xs)) ≡ None → f x ≡ None → first_standing (map f (take (k + 1) xs)) ≡ None
standing_more {A} {B} f xs k x lt read none here =
    ap (λ ys. first_standing (map f ys)) (take_more xs k x lt) ∙ none_after (take k xs) none (ap f (sym read) ∙ here)
  where
    by : (o rest later : Option B) → option_or o rest ≡ None → (rest ≡ None → later ≡ None) → option_or o later ≡ None
    by None rest later none after = after none
    by (Some b) rest later none after = absurd cc

    none_after : (ys : List A) → first_standing (map f ys) ≡ None → f (get_or xs k x) ≡ None → first_standing (map f (ys ++ get_or xs k x ∷ [])) ≡ None
    none_after [] none here = rw here refl
    none_after (y ∷ ys) none here = by (f y) (first_standing (map f ys)) (first_standing (map f (ys ++ get_or xs k x ∷ []))) none (λ rest. none_after ys rest here)

-- and the next is: its refusal is the first of all
pub standing_found : {A B : Type 0} (f : A → Option B) (xs : List A) (k : ℕ) (x : A) (b : B) → k < length xs → x ≡ get_or xs k x → first_standing (map f (take k xs)) ≡ None → f x ≡ Some b → first_standing (map f xs) ≡ Some b
standing_found f [] k x b lt read none here = absurd (omega arith)
standing_found f (y ∷ xs) zero x b lt read none here = rw (ap f (sym read) ∙ here) refl
standing_found {A} {B} f (y ∷ xs) (suc k) x b lt read none here =
    by (f y) none (λ rest. standing_found f xs k x b (omega arith) read rest here)
  where
    by : (o : Option B) → option_or o (first_standing (map f (take k xs))) ≡ None → (first_standing (map f (take k xs)) ≡ None → first_standing (map f xs) ≡ Some b) → option_or o (first_standing (map f xs)) ≡ Some b
    by None none found = found none
    by (Some c) none found = absurd cc

-- what is said of the next one holds of all
pub refuses_standing : {A : Type 0} (f : A → Option Fault) (xs : List A) (k : ℕ) (x : A) (r : Refusal) → k < length xs → x ≡ get_or xs k x → first_standing (map f (take k xs)) ≡ None → RefusesFor (f x) r → RefusesFor (first_standing (map f xs)) r
refuses_standing f xs k x (refusal.Fault fault) lt read none refused = standing_found f xs k x fault lt read none refused
refuses_standing f xs k x refusal.Memory lt read none refused = tt

-- the same by positions
pub refuses_at : (count k : ℕ) (fault_at : ℕ → Option Fault) (r : Refusal) → k < count → first_refusal_below k fault_at ≡ None → RefusesFor (fault_at k) r → RefusesFor (first_refusal_below count fault_at) r
refuses_at count k fault_at (refusal.Fault fault) lt none refused =
    first_refusal_below-found k count fault_at fault lt none refused
refuses_at count k fault_at refusal.Memory lt none refused = tt
