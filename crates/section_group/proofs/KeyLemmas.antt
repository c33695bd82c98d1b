-- The keys of pieces order the pieces.
use Rattle.std.proofs.Common.{◌≡◌, ◌≢◌, ℕ, ◌+◌, ◌-◌, ◌<◌, ◌≤◌, Bool, true, false, not, if◌then◌else◌, inl, inr, eqb, eq-eqb, IsTrue, List, [], ◌∷◌, length, get_or, map, refl, sym, ap, ◌∙◌, subst, arith, rules}
use Rattle.std.specs.List.{All, AllPairs, IsDistinct}
use Rattle.std.specs.List.Sorted.{IsSorted, IsPermutation}
use Rattle.std.specs.Ordering.{is_lt, nat_cmp, bool_cmp, ordering_then}
use Rattle.std.specs.Cmp.{IsTotalOrder, tied_itself}
use Rattle.std.specs.Cmp.Lexicographic.{slice_cmp}
use Rattle.std.specs.Cmp.Rules.{comparing}
use Rattle.std.specs.declared.cmp.Ordering.{Ordering}
use Rattle.std.specs.declared.cmp.Ordering.TheVariants.{Equal}
use Rattle.std.proofs.lemmas.Bool.{false≢true, cases_lt}
use Rattle.std.proofs.lemmas.Cmp.{nat_list_cmp_total}
use Rattle.std.proofs.lemmas.List.{length-map, get_or_default}
use Rattle.std.proofs.lemmas.List.Elements.{All-map}
use Rattle.std.proofs.lemmas.List.Sorted.{All-permutation, IsPermutation-map}
use Rattle.std.proofs.lemmas.Map.Keys.{apart_from_distinct, IsDistinct-IsPermutation}
use Rattle.std.proofs.Math.ListN.{get_or-map}
use Rattle.link_base.proofs.OrderingLemmas.{one_number}
use Rattle.link_base.proofs.NumberLemmas.{eqb_flip}
use Rattle.section_group.specs.declared.key.PieceKey.{PieceKey}
use Rattle.section_group.specs.SectionOrder.{Input, piece_at, place_cmp, inside_cmp}
use Rattle.section_group.specs.Keys.{piece_key, key_cmp, AscendUpTo}
use Rattle.section_group.specs.declared.cut.Cut.{Cut}
use Rattle.section_group.specs.Steps.{piece_cut}
use Rattle.section_group.proofs.OrderLemmas.{ascends, before_trans, then_level}

pub key_total : IsTotalOrder key_cmp
key_total = search (comparing, rules) depth 12

index_of : PieceKey → ℕ
index_of key = key.index

level_keys : (a b : PieceKey) → key_cmp a b ≡ Equal → a.index ≡ b.index
level_keys a b e =
    one_number a.index b.index
    (then_level (nat_cmp a.number b.number) (nat_cmp a.index b.index)
    (then_level (nat_cmp a.module b.module) _
    (then_level (slice_cmp nat_cmp a.suffix b.suffix) _
    (then_level (slice_cmp nat_cmp a.merged_name b.merged_name) _
    (then_level (bool_cmp a.merged b.merged) _
    (then_level (bool_cmp a.uninitialised b.uninitialised) _ e))))))

indexes_back : (input : Input) (members : List ℕ) → map (λ key. key.index) (map (piece_key input) members) ≡ members
indexes_back input [] = refl
indexes_back input (k ∷ ks) = ap (λ (xs : List ℕ). k ∷ xs) (indexes_back input ks)

pub ordered_permutation : (input : Input) (members ordered : List ℕ) (keys sorted : List PieceKey) → keys ≡ map (piece_key input) members → IsPermutation keys sorted → ordered ≡ map (λ key. key.index) sorted → IsPermutation members ordered
ordered_permutation input members ordered keys sorted is_keys moved is_ordered =
    let p = IsPermutation-map (λ (key : PieceKey). key.index) keys sorted moved in
    let from : map (λ (key : PieceKey). key.index) keys ≡ members = ap (map (λ (key : PieceKey). key.index)) is_keys ∙ indexes_back input members in
    subst (λ (xs : List ℕ). IsPermutation xs ordered) from (subst (IsPermutation (map (λ (key : PieceKey). key.index) keys)) (sym is_ordered) p)

-- a key that is sorted is that of its index
keys_kept : (input : Input) (members : List ℕ) (keys sorted : List PieceKey) → keys ≡ map (piece_key input) members → IsPermutation keys sorted → All (λ key. key ≡ piece_key input key.index) sorted
keys_kept input members keys sorted is_keys moved =
    All-permutation (λ key. key ≡ piece_key input key.index) keys sorted moved
    (subst (All (λ key. key ≡ piece_key input key.index)) (sym is_keys) (All-map (λ key. key ≡ piece_key input key.index) (piece_key input) members (λ k d lt. refl)))

pub ordered_ascends : (input : Input) (members ordered : List ℕ) (keys sorted : List PieceKey) → keys ≡ map (piece_key input) members → IsPermutation keys sorted → IsSorted key_cmp sorted → ordered ≡ map (λ key. key.index) sorted → IsDistinct eqb members → AllPairs (λ j k. IsTrue (is_lt (inside_cmp input j k))) ordered
ordered_ascends input members ordered keys sorted is_keys moved rises is_ordered distinct = λ i j d lt within.
    let e : PieceKey = piece_key input d in
    let in_j : j < length sorted = omega (arith, ap length is_ordered, length-map sorted index) in
    let in_i : i < length sorted = omega arith in
    let read_i = at i d in
    let read_j = at j d in
    let pair = ascends key_total sorted rises apart i j e lt in_j in
    let key_i = kept i e in_i in
    let key_j = kept j e in_j in
    subst (λ (k : ℕ). IsTrue (is_lt (inside_cmp input k (get_or ordered j d)))) (sym read_i)
    (subst (λ (k : ℕ). IsTrue (is_lt (inside_cmp input (get_or sorted i e).index k))) (sym read_j)
    (subst (λ (key : PieceKey). IsTrue (is_lt (key_cmp (piece_key input (get_or sorted i e).index) key))) key_j
    (subst (λ (key : PieceKey). IsTrue (is_lt (key_cmp key (get_or sorted j e)))) key_i pair)))
  where
    index : PieceKey → ℕ
    index key = key.index

    kept : All (λ key. key ≡ piece_key input key.index) sorted
    kept = keys_kept input members keys sorted is_keys moved

    at : (i d : ℕ) → get_or ordered i d ≡ (get_or sorted i (piece_key input d)).index
    at i d = ap (λ (xs : List ℕ). get_or xs i d) is_ordered ∙ get_or-map index sorted i (piece_key input d)

    distinct_after : IsDistinct eqb ordered
    distinct_after = IsDistinct-IsPermutation eqb eqb_flip members ordered (ordered_permutation input members ordered keys sorted is_keys moved is_ordered) distinct

    apart : (i j : ℕ) (d : PieceKey) → i < j → j < length sorted → key_cmp (get_or sorted i d) (get_or sorted j d) ≢ Equal
    apart i j d lt within level =
        let in' : j < length ordered = omega (arith, ap length is_ordered, length-map sorted index) in
        let differ = apart_from_distinct eqb ordered i j d.index distinct_after lt in' in
        let read = λ (n : ℕ). ap (λ (xs : List ℕ). get_or xs n d.index) is_ordered ∙ get_or-map index sorted n d in
        false≢true (sym differ ∙ eq-eqb _ _ (read i ∙ level_keys (get_or sorted i d) (get_or sorted j d) level ∙ sym (read j)))

-- ---- pieces that stand in order

pub inside_total : (input : Input) → IsTotalOrder (inside_cmp input)
inside_total input = search (comparing, rules) depth 12

then_tied : (r s : Ordering) → r ≡ Equal → is_lt s ≡ true → is_lt (ordering_then r s) ≡ true
then_tied r s tied less = ap (λ (t : Ordering). is_lt (ordering_then t s)) tied ∙ less

tied_bools : (a b : Bool) → a ≡ b → bool_cmp a b ≡ Equal
tied_bools true b e = ap (bool_cmp true) (sym e)
tied_bools false b e = ap (bool_cmp false) (sym e)

tied_names : (m n : List ℕ) → m ≡ n → slice_cmp nat_cmp m n ≡ Equal
tied_names m n e = ap (slice_cmp nat_cmp m) (sym e) ∙ tied_itself nat_list_cmp_total m

-- pieces of one cut, both initialised or neither, stand in the order of their places
pub behind : (input : Input) (j k : ℕ) → piece_cut input j ≡ piece_cut input k → (piece_at input j).init ≡ (piece_at input k).init → is_lt (place_cmp input j k) ≡ true → IsTrue (is_lt (inside_cmp input j k))
behind input j k cut init before =
    then_tied _ _ (tied_bools _ _ (ap not init))
    (then_tied _ _ (tied_bools _ _ (ap (λ (c : Cut). c.merged) cut))
    (then_tied _ _ (tied_names _ _ (ap (λ (c : Cut). if c.merged then c.base else []) cut))
    (then_tied _ _ (tied_names _ _ (ap (λ (c : Cut). c.suffix) cut)) before)))

-- one more piece that comes behind the last so far comes behind them all
pub ascend_more : (input : Input) (members : List ℕ) (n : ℕ) → AscendUpTo input members n → 0 < n → n < length members → IsTrue (is_lt (inside_cmp input (get_or members (n - 1) 0) (get_or members n 0))) → AscendUpTo input members (n + 1)
ascend_more input members n so_far above within next = λ i j lt last. elim (cases_lt j n) [
  | inl below ↦ so_far i j lt below
  | inr late ↦
      let here : n ≡ j = omega arith in
      subst (λ (m : ℕ). IsTrue (is_lt (inside_cmp input (get_or members i 0) (get_or members m 0)))) here (elim (cases_lt i (n - 1)) [
        | inl early ↦ before_trans (inside_total input) _ _ _ (so_far i (n - 1) early (omega (arith, above))) next
        | inr close ↦
            let last : n - 1 ≡ i = omega arith in
            subst (λ (m : ℕ). IsTrue (is_lt (inside_cmp input (get_or members m 0) (get_or members n 0)))) last next
      ])
]

pub ascend_all : (input : Input) (members : List ℕ) (n : ℕ) → AscendUpTo input members n → length members ≤ n → AllPairs (λ j k. IsTrue (is_lt (inside_cmp input j k))) members
ascend_all input members n so_far all = λ i j d lt within.
    subst (λ (m : ℕ). IsTrue (is_lt (inside_cmp input m (get_or members j d)))) (get_or_default members i 0 d (omega arith))
    (subst (λ (m : ℕ). IsTrue (is_lt (inside_cmp input (get_or members i 0) m))) (get_or_default members j 0 d within) (so_far i j lt (omega arith)))
