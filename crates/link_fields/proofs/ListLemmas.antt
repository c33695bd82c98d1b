-- Lists that grow by what is made of one item after another.
use Rattle.std.proofs.Common.{◌≡◌, ℕ, ◌+◌, ◌<◌, List, [], ◌∷◌, ◌++◌, length, get_or, take, Option, sym, ap, ◌∙◌, append_assoc, arith}
use Rattle.std.specs.Prelude.{filter_map}
use Rattle.std.specs.List.{cons_option, flat_map, range_with_len}
use Rattle.std.proofs.lemmas.List.{take_more, append-nil}
use Rattle.std.proofs.lemmas.List.Concat.{flat_map-append}
use Rattle.std.proofs.lemmas.List.Elements.{filter_map-append}
use Rattle.link_base.proofs.RangeLemmas.{range_more}

-- one more item, of which something is made or nothing
pub kept_next : {X Y : Type 0} (f : X → Option Y) (xs : List X) (i : ℕ) (x : X) (old now after : List Y) → i < length xs → x ≡ get_or xs i x → now ≡ old ++ filter_map f (take i xs) → after ≡ now ++ cons_option (f x) [] → after ≡ old ++ filter_map f (take (i + 1) xs)
kept_next {X} {Y} f xs i x old now after lt read is grown =
    grown
    ∙ ap (λ (ys : List Y). ys ++ cons_option (f x) []) is
    ∙ append_assoc old (filter_map f (take i xs)) (cons_option (f x) [])
    ∙ ap (λ (ys : List Y). old ++ ys) (sym (ap (filter_map f) (take_more xs i x lt ∙ ap (λ (y : X). take i xs ++ y ∷ []) (sym read)) ∙ filter_map-append f (take i xs) (x ∷ [])))

-- the same for a number
pub kept_range : {Y : Type 0} (f : ℕ → Option Y) (k : ℕ) (old now after : List Y) → now ≡ old ++ filter_map f (range_with_len 0 k) → after ≡ now ++ cons_option (f k) [] → after ≡ old ++ filter_map f (range_with_len 0 (k + 1))
kept_range {Y} f k old now after is grown =
    grown
    ∙ ap (λ (ys : List Y). ys ++ cons_option (f k) []) is
    ∙ append_assoc old (filter_map f (range_with_len 0 k)) (cons_option (f k) [])
    ∙ ap (λ (ys : List Y). old ++ ys) (sym (ap (filter_map f) (range_more 0 k k (omega arith)) ∙ filter_map-append f (range_with_len 0 k) (k ∷ [])))

-- one more item, of which a list is made, of whose items something is made or nothing
pub joined_next : {X Y Z : Type 0} (f : Y → Option Z) (g : X → List Y) (xs : List X) (i : ℕ) (x : X) (old now after : List Z) → i < length xs → x ≡ get_or xs i x → now ≡ old ++ filter_map f (flat_map g (take i xs)) → after ≡ now ++ filter_map f (g x) → after ≡ old ++ filter_map f (flat_map g (take (i + 1) xs))
joined_next {X} {Y} {Z} f g xs i x old now after lt read is grown =
    grown
    ∙ ap (λ (zs : List Z). zs ++ filter_map f (g x)) is
    ∙ append_assoc old (filter_map f (flat_map g (take i xs))) (filter_map f (g x))
    ∙ ap (λ (zs : List Z). old ++ zs) (sym (ap (λ (ys : List X). filter_map f (flat_map g ys)) (take_more xs i x lt ∙ ap (λ (y : X). take i xs ++ y ∷ []) (sym read))
    ∙ ap (filter_map f) (flat_map-append g (take i xs) (x ∷ []) ∙ ap (λ (ys : List Y). flat_map g (take i xs) ++ ys) (append-nil (g x)))
    ∙ filter_map-append f (flat_map g (take i xs)) (g x)))
