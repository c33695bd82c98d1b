-- The first alternate that leads to a member.
use Rattle.std.proofs.Common.{◌≡◌, ℕ, ◌+◌, ◌<◌, List, [], ◌∷◌, ◌++◌, length, map, take, drop, get_or, Option, Some, None, sym, ap, ◌∙◌}
use Rattle.std.specs.Option.{option_or}
use Rattle.std.proofs.lemmas.List.{map-append, take_more, take-append-drop}
use Rattle.link_base.specs.Refusals.{first_standing}
use Rattle.link_base.proofs.RefusalLemmas.{or_none, standing_append}

-- of some things that each give something or nothing
abbrev pub first_of : {X A : Type 0} → (X → Option A) → List X → Option A
first_of f xs = first_standing (map f xs)

pub first_of-append : {X A : Type 0} (f : X → Option A) (xs ys : List X) → first_of f (xs ++ ys) ≡ option_or (first_of f xs) (first_of f ys)
first_of-append f xs ys = ap first_standing (map-append f xs ys) ∙ standing_append (map f xs) (map f ys)

one_more : {X A : Type 0} (f : X → Option A) (xs : List X) (i : ℕ) (x : X) → i < length xs → x ≡ get_or xs i x → first_of f (take i xs) ≡ None → first_of f (take (i + 1) xs) ≡ f x
one_more {X} f xs i x lt is none =
    ap (first_of f) (take_more xs i x lt ∙ ap (λ (y : X). take i xs ++ y ∷ []) (sym is))
    ∙ first_of-append f (take i xs) (x ∷ [])
    ∙ ap (λ (o : Option _). option_or o (first_of f (x ∷ []))) none
    ∙ or_none (f x)

-- the next gives nothing either
pub none_more : {X A : Type 0} (f : X → Option A) (xs : List X) (i : ℕ) (x : X) → i < length xs → x ≡ get_or xs i x → first_of f (take i xs) ≡ None → f x ≡ None → first_of f (take (i + 1) xs) ≡ None
none_more f xs i x lt is none here = one_more f xs i x lt is none ∙ here

-- the next gives something
pub some_found : {X A : Type 0} (f : X → Option A) (xs : List X) (i : ℕ) (x : X) (y : A) → i < length xs → x ≡ get_or xs i x → first_of f (take i xs) ≡ None → f x ≡ Some y → first_of f xs ≡ Some y
some_found {X} {A} f xs i x y lt is none here =
    ap (first_of f) (sym (take-append-drop (i + 1) xs))
    ∙ first_of-append f (take (i + 1) xs) (drop (i + 1) xs)
    ∙ ap (λ (o : Option A). option_or o (first_of f (drop (i + 1) xs))) (one_more f xs i x lt is none ∙ here)
