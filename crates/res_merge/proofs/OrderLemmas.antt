-- The order of resources: how texts compare unit by unit, and that it is a total order.
use Rattle.std.proofs.Common.{◌≡◌, ◌⊎◌, ℕ, suc, ◌+◌, ◌-◌, ◌*◌, ◌/◌, ◌<◌, ◌≤◌, min, List, [], ◌∷◌, length, drop, get_or, refl, sym, ap, ◌∙◌, inl, inr, drop-cons, arith, rules}
use Rattle.std.specs.Ordering.{nat_cmp, ordering_then, MatchOrdering}
use Rattle.std.specs.Cmp.{IsTotalOrder, ranks}
use Rattle.std.specs.Cmp.Rules.{comparing}
use Rattle.std.specs.Cmp.Lexicographic.{slice_cmp}
use Rattle.std.specs.declared.cmp.Ordering.{Ordering}
use Rattle.std.specs.declared.cmp.Ordering.TheVariants.{Less, Equal, Greater}
use Rattle.std.proofs.lemmas.Bool.{cases_lt}
use Rattle.std.proofs.lemmas.List.{length-drop}
use Rattle.link_base.proofs.OrderingLemmas.{less_number, equal_number}
use Rattle.res_merge.specs.Order.{high_first, key_cmp, entry_cmp}

pub key_total : IsTotalOrder key_cmp
key_total = search (comparing, rules) depth 12

pub entry_total : IsTotalOrder entry_cmp
entry_total = search (comparing, rules) depth 12

-- ---- texts

abbrev texts_cmp : List ℕ → List ℕ → Ordering
texts_cmp left right = slice_cmp nat_cmp (high_first left) (high_first right)

unit_at : (text : List ℕ) (k : ℕ) → 2 * k + 2 ≤ length text → drop (2 * k) text ≡ get_or text (2 * k) 0 ∷ get_or text (2 * k + 1) 0 ∷ drop (2 * (k + 1)) text
unit_at text k fits =
    let next : suc (suc (2 * k)) ≡ 2 * (k + 1) = omega arith in
    let odd : suc (2 * k) ≡ 2 * k + 1 = omega arith in
    drop-cons text (2 * k) 0 (omega arith)
    ∙ ap (λ (rest : List ℕ). get_or text (2 * k) 0 ∷ rest) (drop-cons text (suc (2 * k)) 0 (omega arith) ∙ ap (λ (i : ℕ). get_or text i 0 ∷ drop (suc (suc (2 * k))) text) odd ∙ ap (λ (i : ℕ). get_or text (2 * k + 1) 0 ∷ drop i text) next)

then_assoc : (a b c : Ordering) → ordering_then a (ordering_then b c) ≡ ordering_then (ordering_then a b) c
then_assoc Less b c = refl
then_assoc Equal b c = refl
then_assoc Greater b c = refl

abbrev unit_order : List ℕ → List ℕ → ℕ → Ordering
unit_order left right k =
    ordering_then (nat_cmp (get_or left (2 * k + 1) 0) (get_or right (2 * k + 1) 0)) (nat_cmp (get_or left (2 * k) 0) (get_or right (2 * k) 0))

-- a unit decides, or what is behind it does
pub unit_step : (left right : List ℕ) (k : ℕ) → 2 * k + 2 ≤ length left → 2 * k + 2 ≤ length right → texts_cmp (drop (2 * k) left) (drop (2 * k) right) ≡ ordering_then (unit_order left right k) (texts_cmp (drop (2 * (k + 1)) left) (drop (2 * (k + 1)) right))
unit_step left right k there also =
    ap (λ (t : List ℕ). texts_cmp t (drop (2 * k) right)) (unit_at left k there)
    ∙ ap (texts_cmp (get_or left (2 * k) 0 ∷ get_or left (2 * k + 1) 0 ∷ drop (2 * (k + 1)) left)) (unit_at right k also)
    ∙ then_assoc (nat_cmp (get_or left (2 * k + 1) 0) (get_or right (2 * k + 1) 0)) (nat_cmp (get_or left (2 * k) 0) (get_or right (2 * k) 0)) _

-- units that are equal
pub unit_level : (left right : List ℕ) (k : ℕ) (order : Ordering) → 2 * k + 2 ≤ length left → 2 * k + 2 ≤ length right → order ≡ unit_order left right k → order ≡ Equal → texts_cmp (drop (2 * k) left) (drop (2 * k) right) ≡ texts_cmp (drop (2 * (k + 1)) left) (drop (2 * (k + 1)) right)
unit_level left right k order there also is equal_number =
    unit_step left right k there also ∙ ap (λ (o : Ordering). ordering_then o (texts_cmp (drop (2 * (k + 1)) left) (drop (2 * (k + 1)) right))) (sym is ∙ equal_number)

differs : (order rest : Ordering) → (order ≡ Equal → ⊥) → ordering_then order rest ≡ order
differs Less rest n = refl
differs Equal rest n = absurd (n refl)
differs Greater rest n = refl

more : (m n : ℕ) → n < m → nat_cmp m n ≡ Greater
more m n lt = go (nat_cmp m n) (ranks m n)
  where
    go : (r : Ordering) → MatchOrdering r (m < n) (m ≡ n) (n < m) → r ≡ Greater
    go Less h = absurd (omega arith)
    go Equal h = absurd (omega arith)
    go Greater h = refl

ends : (left right : List ℕ) (k m n : ℕ) → m ≡ k + length left / 2 → n ≡ k + length right / 2 → (length left < 2) ⊎ (length right < 2) → nat_cmp m n ≡ texts_cmp left right
ends [] [] k m n is also short = equal_number m n (omega arith)
ends [] (y ∷ []) k m n is also short = equal_number m n (omega arith)
ends [] (y ∷ z ∷ right) k m n is also short = less_number m n (omega arith)
ends (x ∷ []) [] k m n is also short = equal_number m n (omega arith)
ends (x ∷ []) (y ∷ []) k m n is also short = equal_number m n (omega arith)
ends (x ∷ []) (y ∷ z ∷ right) k m n is also short = less_number m n (omega arith)
ends (x ∷ w ∷ left) [] k m n is also short = more m n (omega arith)
ends (x ∷ w ∷ left) (y ∷ []) k m n is also short = more m n (omega arith)
ends (x ∷ w ∷ left) (y ∷ z ∷ right) k m n is also (inl short) = absurd (omega arith)
ends (x ∷ w ∷ left) (y ∷ z ∷ right) k m n is also (inr short) = absurd (omega arith)

pub units_end : (left right : List ℕ) (k : ℕ) → k ≤ length left / 2 → k ≤ length right / 2 → min (length left / 2) (length right / 2) ≤ k → nat_cmp (length left / 2) (length right / 2) ≡ texts_cmp (drop (2 * k) left) (drop (2 * k) right)
units_end left right k there also all =
    let left_size = length-drop (2 * k) left in
    let right_size = length-drop (2 * k) right in
    ends (drop (2 * k) left) (drop (2 * k) right) k (length left / 2) (length right / 2) (omega arith) (omega arith) (short (cases_lt (length left / 2) (length right / 2)) left_size right_size)
  where
    short : (length left / 2 < length right / 2) ⊎ (length right / 2 ≤ length left / 2) → length (drop (2 * k) left) ≡ length left - 2 * k → length (drop (2 * k) right) ≡ length right - 2 * k → (length (drop (2 * k) left) < 2) ⊎ (length (drop (2 * k) right) < 2)
    short (inl lt) left_size right_size = inl (omega arith)
    short (inr le) left_size right_size = inr (omega arith)
