-- What is chosen does not depend on the places of what sections borrow.
use Rattle.std.proofs.Common.{◌≡◌, ℕ, zero, suc, ◌+◌, Bool, cond, eqb, ◌&&◌, ◌||◌, List, [], ◌∷◌, length, take, map, Option, None, Some, unwrap_or, Bor, refl, ap, ◌∙◌}
use Rattle.std.specs.Prelude.{option_map, option_copied, is_none}
use Rattle.std.specs.Option.{option_or}
use Rattle.std.specs.List.{list_all, list_any}
use Rattle.std.proofs.lemmas.List.{length-map, take-map}
use Rattle.std.proofs.lemmas.List.Folds.{list_all-map}
use Rattle.link_base.specs.Bytes.{first_below}
use Rattle.link_base.specs.NameText.{same_name}
use Rattle.link_base.specs.Refusals.{shown, first_standing}
use Rattle.comdat.specs.declared.candidate.Candidate.{Candidate}
use Rattle.comdat.specs.Choice.{is_any, is_same_size, is_exact_match, is_largest, is_any_or_largest, has_size, has_contents, contents_of, have_equal_sizes, have_equal_contents, size_at, is_at_most, greatest_place, chosen_place, conflicts, conflict_place}
use Rattle.comdat.specs.Groups.{module_in}
use Rattle.comdat.specs.Selection.{lent}
use Rattle.comdat.specs.Plain.{plain}

-- ---- lists

all_alike : {X : Type 0} (test other : X → Bool) → ((x : X) → test x ≡ other x) → (xs : List X) → list_all test xs ≡ list_all other xs
all_alike test other same [] = refl
all_alike test other same (x ∷ xs) = λ i. same x i && all_alike test other same xs i

any_mapped : {X Y : Type 0} (test : X → Bool) (f : Y → X) (ys : List Y) → list_any test (map f ys) ≡ list_any (λ y. test (f y)) ys
any_mapped test f [] = refl
any_mapped test f (y ∷ ys) = ap (λ (b : Bool). test (f y) || b) (any_mapped test f ys)

first_alike : (n : ℕ) (test other : ℕ → Bool) → ((k : ℕ) → test k ≡ other k) → first_below n test ≡ first_below n other
unfolding first_below
first_alike zero test other same = refl
first_alike (suc n) test other same = λ i. option_or (first_alike n test other same i) (cond (same n i) (Some n) None)

-- ---- a group

contents_plain : (candidate : Candidate) → contents_of (plain candidate) ≡ contents_of candidate
contents_plain candidate = go candidate.body
  where
    go : (body : Option (Bor (List ℕ))) → unwrap_or (option_copied (option_map lent (option_copied body))) [] ≡ unwrap_or (option_copied body) []
    go None = refl
    go (Some bytes) = refl

size_plain : (list : List Candidate) (k : ℕ) → size_at (map plain list) k ≡ size_at list k
size_plain [] k = refl
size_plain (c ∷ cs) zero = refl
size_plain (c ∷ cs) (suc k) = size_plain cs k

sizes_plain : (list : List Candidate) → have_equal_sizes (map plain list) ≡ have_equal_sizes list
sizes_plain [] = refl
sizes_plain (c ∷ cs) = list_all-map (has_size c.size) plain cs

all_contents_plain : (list : List Candidate) → have_equal_contents (map plain list) ≡ have_equal_contents list
all_contents_plain [] = refl
all_contents_plain (c ∷ cs) =
    list_all-map (has_contents (contents_of (plain c))) plain cs
    ∙ all_alike (λ other. has_contents (contents_of (plain c)) (plain other)) (has_contents (contents_of c)) (λ other i. same_name (contents_plain other i) (contents_plain c i)) cs

greatest_plain : (list : List Candidate) → greatest_place (map plain list) ≡ greatest_place list
greatest_plain list =
    let mapped = map plain list in
    ap (λ (n : ℕ). first_below n (λ k. list_all (is_at_most (size_at mapped k)) mapped)) (length-map list plain)
    ∙ first_alike (length list) (λ k. list_all (is_at_most (size_at mapped k)) mapped) (λ k. list_all (is_at_most (size_at list k)) list) (λ k.
    list_all-map (is_at_most (size_at mapped k)) plain list ∙ ap (λ (size : ℕ). list_all (is_at_most size) list) (size_plain list k))

pub chosen_plain : (list : List Candidate) → chosen_place (map plain list) ≡ chosen_place list
chosen_plain list =
    let alone = ap (λ (n : ℕ). eqb n 1) (length-map list plain) in
    let any = list_all-map is_any plain list in
    let same_size = list_all-map is_same_size plain list in
    let exact = list_all-map is_exact_match plain list in
    let either = list_all-map is_any_or_largest plain list in
    let some = any_mapped is_largest plain list in
    λ i. first_standing
    (shown (alone i) 0
    ∷ shown (any i) 0
    ∷ shown (same_size i && sizes_plain list i) 0
    ∷ shown (exact i && all_contents_plain list i) 0
    ∷ cond (either i && some i) (greatest_plain list i) None
    ∷ [])

pub conflict_plain : (list : List Candidate) → conflict_place (map plain list) ≡ conflict_place list
conflict_plain list =
    ap (λ (n : ℕ). first_below n (λ k. conflicts (take (k + 1) (map plain list)))) (length-map list plain)
    ∙ first_alike (length list) (λ k. conflicts (take (k + 1) (map plain list))) (λ k. conflicts (take (k + 1) list)) (λ k.
    ap conflicts (take-map plain (k + 1) list) ∙ ap is_none (chosen_plain (take (k + 1) list)))

pub module_plain : (list : List Candidate) (k : ℕ) → module_in (map plain list) k ≡ module_in list k
module_plain [] k = refl
module_plain (c ∷ cs) zero = refl
module_plain (c ∷ cs) (suc k) = module_plain cs k
