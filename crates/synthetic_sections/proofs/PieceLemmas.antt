-- Pieces that are appended one after another.
use Rattle.std.proofs.Common.{◌≡◌, List, ◌++◌, map, sym, ap, ◌∙◌, append_assoc}
use Rattle.std.proofs.lemmas.List.{map-append}

-- after five of them
pub five_more : {X : Type 0} (old first second third fourth a b c d e : List X) → first ≡ old ++ a → second ≡ first ++ b → third ≡ second ++ c → fourth ≡ third ++ d → fourth ++ e ≡ old ++ (a ++ (b ++ (c ++ (d ++ e))))
five_more {X} old first second third fourth a b c d e is_first is_second is_third is_fourth =
    ap (λ (xs : List X). xs ++ e)
    (is_fourth
    ∙ ap (λ (xs : List X). xs ++ d)
    (is_third ∙ ap (λ (xs : List X). xs ++ c) (is_second ∙ ap (λ (xs : List X). xs ++ b) is_first)))
    ∙ append_assoc (((old ++ a) ++ b) ++ c) d e
    ∙ append_assoc ((old ++ a) ++ b) c (d ++ e)
    ∙ append_assoc (old ++ a) b (c ++ (d ++ e))
    ∙ append_assoc old a (b ++ (c ++ (d ++ e)))

-- what each of them is to a function
pub five_mapped : {X Y : Type 0} (f : X → Y) (a b c d e : List X) → map f a ++ (map f b ++ (map f c ++ (map f d ++ map f e))) ≡ map f (a ++ (b ++ (c ++ (d ++ e))))
five_mapped {X} {Y} f a b c d e =
    ap (λ (ys : List Y). map f a ++ (map f b ++ (map f c ++ ys))) (sym (map-append f d e))
    ∙ ap (λ (ys : List Y). map f a ++ (map f b ++ ys)) (sym (map-append f c (d ++ e)))
    ∙ ap (λ (ys : List Y). map f a ++ ys) (sym (map-append f b (c ++ (d ++ e))))
    ∙ sym (map-append f a (b ++ (c ++ (d ++ e))))
