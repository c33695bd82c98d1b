-- Lists: their ends, what all of them are, their lengths, and marks.
use Rattle.std.proofs.Common.{◌≡◌, ℕ, ◌+◌, ◌*◌, ◌<◌, Bool, true, false, ◌||◌, eqb, List, [], ◌∷◌, ◌++◌, length, take, map, get_or, set, length-append, refl, sym, ap, ◌∙◌, subst, inl, inr, arith}
use Rattle.std.specs.List.{All, Contains, flat_map, sum}
use Rattle.std.proofs.Math.Seq.{take-append_seam}
use Rattle.std.proofs.Math.Bool.{or-true, or-false}
use Rattle.std.proofs.lemmas.Bool.Decides.{eqb_tells}
use Rattle.std.proofs.lemmas.List.{get_or_append_left, get_or-append-add, get_or-set_same, get_or-set_other, get_or-map, length-map}
use Rattle.std.proofs.lemmas.List.Sums.{sum_by-cons}

-- ---- ends

-- what is put behind a list stands at its end
pub at_end : {X : Type 0} (xs : List X) (x d : X) → get_or (xs ++ x ∷ []) (length xs) d ≡ x
at_end [] x d = refl
at_end (y ∷ xs) x d = at_end xs x d

-- as many as a list has are the list
pub front_is : {X : Type 0} (xs ys : List X) (n : ℕ) → n ≡ length xs → take n (xs ++ ys) ≡ xs
front_is xs ys n is = ap (λ (k : ℕ). take k (xs ++ ys)) is ∙ take-append_seam xs ys

-- without its first a list is shorter
pub fewer : {A : Type 0} (left rest : List A) (x : A) → left ≡ x ∷ rest → length rest < length left
fewer left rest x e = omega (arith, ap length e)

-- ---- what all are

-- what all of a list are, those of its front are
pub all_front : {X : Type 0} (P : X → Type 0) (xs ys : List X) → All P (xs ++ ys) → All P xs
all_front P xs ys all k d lt =
    subst P (get_or_append_left xs ys d k lt) (all k d (omega (arith, length-append xs ys)))

-- and those of its back
pub all_back : {X : Type 0} (P : X → Type 0) (xs ys : List X) → All P (xs ++ ys) → All P ys
all_back P xs ys all k d lt =
    subst P (get_or-append-add xs ys k d) (all (length xs + k) d (omega (arith, length-append xs ys)))

-- what stands in a list stands, mapped, in the list that is mapped
pub contains_map : {X Y : Type 0} (f : X → Y) (xs : List X) (x : X) → Contains xs x → Contains (map f xs) (f x)
contains_map f xs x there =
    let lt = there.1 in (
      there.0,
      omega (arith, length-map xs f),
      get_or-map f xs there.0 x (f x) lt ∙ ap f there.2,
    )

-- ---- lengths

-- parts of one length
pub length_each : {X : Type 0} (f : X → List ℕ) (n : ℕ) (xs : List X) → ((x : X) → length (f x) ≡ n) → length (flat_map f xs) ≡ n * length xs
length_each f n [] each = omega arith
length_each f n (x ∷ xs) each =
    let both = length-append (f x) (flat_map f xs) in
    let first = each x in
    let rest = length_each f n xs each in
    grind (arith, both, first, rest)

-- one length more
pub more_bytes : (len : ℕ) (lengths : List ℕ) → sum (len ∷ lengths) ≡ len + sum lengths
more_bytes len lengths = sum_by-cons (λ n. n) len lengths

-- ---- marks

-- a mark more
pub marked : (marks : List Bool) (at j : ℕ) → at < length marks → get_or (set marks at true) j false ≡ (get_or marks j false || eqb at j)
marked marks at j lt =
    elim (eqb_tells at j) [
      | inl here ↦
          let same : j ≡ at = omega arith in
          rw here.0 (ap (λ (k : ℕ). get_or (set marks at true) k false) same ∙ get_or-set_same marks at true false lt ∙ sym (or-true (get_or marks j false)))
      | inr other ↦
          rw other.0 (get_or-set_other marks at j true false (λ same. other.1 (sym same)) ∙ sym (or-false (get_or marks j false)))
    ]
