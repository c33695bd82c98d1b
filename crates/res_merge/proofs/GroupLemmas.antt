-- What the runs of resources in order say is what the resources say.
use Rattle.std.proofs.Common.{◌≡◌, ℕ, ◌+◌, ◌%◌, Bool, true, false, cond, List, [], ◌∷◌, length, refl, sym, ap, ◌∙◌, arith}
use Rattle.std.specs.Prelude.{◌&&◌}
use Rattle.std.specs.List.{AllByRecursion}
use Rattle.std.specs.Ordering.{ordering_then, ordering_reverse, then_cmp, on, is_eq, is_gt}
use Rattle.std.specs.Cmp.{IsTotalOrder, tied_itself}
use Rattle.std.specs.Cmp.Rules.{comparing}
use Rattle.std.specs.declared.cmp.Ordering.{Ordering}
use Rattle.std.specs.declared.cmp.Ordering.TheVariants.{Less, Equal, Greater}
use Rattle.std.proofs.Common.{rules}
use Rattle.std.proofs.lemmas.Bool.{false≢true, true≢false, eqb-true}
use Rattle.std.proofs.lemmas.Slice.Eq.{bytes_eq-Decides}
use Rattle.std.proofs.lemmas.Map.Text.{is_eq-slice_cmp}
use Rattle.res_merge.specs.Entries.{Key, Number, Text, Entry}
use Rattle.res_merge.specs.Order.{high_first, sort_key, key_cmp, same_key, IsShort}
use Rattle.res_merge.specs.Runs.{Run, run_before, runs, heads, same_name}
use Rattle.res_merge.specs.Found.{equal_key}
use Rattle.res_merge.proofs.OrderLemmas.{key_total}
use Rattle.res_merge.proofs.PlaceLemmas.{runs_each, heads_each}

-- ---- keys

-- texts of whole units are those of their units
units_one : (xs ys : List ℕ) → length xs % 2 ≡ 0 → length ys % 2 ≡ 0 → high_first xs ≡ high_first ys → xs ≡ ys
units_one [] [] even also e = refl
units_one [] (y ∷ []) even also e = absurd (omega arith)
units_one [] (y ∷ w ∷ ys) even also e = absurd cc
units_one (x ∷ []) ys even also e = absurd (omega arith)
units_one (x ∷ z ∷ xs) [] even also e = absurd cc
units_one (x ∷ z ∷ xs) (y ∷ []) even also e = absurd (omega arith)
units_one (x ∷ z ∷ xs) (y ∷ w ∷ ys) even also e =
    let first : x ≡ y = cc in
    let second : z ≡ w = cc in
    let left : high_first xs ≡ high_first ys = cc in
    let rest : xs ≡ ys = units_one xs ys (omega arith) (omega arith) left in
    cc

-- keys that compare equal are one
pub keys_one : (a b : Key) → IsShort a → IsShort b → same_key a b ≡ true → a ≡ b
keys_one a b short also e = go a b short also ((bytes_eq-Decides (sort_key a) (sort_key b)).0 (sym (is_eq-slice_cmp (sort_key a) (sort_key b)) ∙ e))
  where
    go : (a b : Key) → IsShort a → IsShort b → sort_key a ≡ sort_key b → a ≡ b
    go (Number m) (Number n) short also e = let same : m ≡ n = cc in ap Number same
    go (Number m) (Text ys) short also e = absurd cc
    go (Text xs) (Number n) short also e = absurd cc
    go (Text xs) (Text ys) short also e = let left : high_first xs ≡ high_first ys = cc in ap Text (units_one xs ys short.0 also.0 left)

-- a key that is wanted is the key
pub wanted_is : (wanted key : Key) → equal_key wanted key ≡ true → wanted ≡ key
wanted_is (Number m) (Number n) e = ap Number (sym (eqb-true n m e))
wanted_is (Number m) (Text ys) e = absurd (false≢true e)
wanted_is (Text xs) (Number n) e = absurd (false≢true e)
wanted_is (Text xs) (Text ys) e = ap Text (sym ((bytes_eq-Decides ys xs).0 e))

pub same_itself : (key : Key) → same_key key key ≡ true
same_itself key = ap is_eq (tied_itself key_total key)

-- of keys that differ one at most is wanted
pub one_wanted : (wanted a b : Key) → same_key a b ≡ false → equal_key wanted a ≡ true → equal_key wanted b ≡ false
one_wanted wanted a b differ is = go (equal_key wanted b) refl
  where
    go : (c : Bool) → equal_key wanted b ≡ c → c ≡ false
    go false e = refl
    go true e =
        let same : a ≡ b = sym (wanted_is wanted a is) ∙ wanted_is wanted b e in
        absurd (false≢true (sym differ ∙ ap (same_key a) (sym same) ∙ same_itself a))

-- ---- lists that rise

abbrev pub Rises : {K : Type 0} → (K → K → Ordering) → List K → Type 0
Rises R [] = Unit {0}
Rises R (x ∷ xs) = AllByRecursion (λ y. is_gt (R x y) ≡ false) xs × Rises R xs

module _ {K : Type 0} {R : K → K → Ordering} (o : IsTotalOrder R) where
  chain : (x y z : K) → R x y ≡ Less → is_gt (R y z) ≡ false → R x z ≡ Less
  chain x y z lt le = go (R y z) refl
    where
      go : (r : Ordering) → R y z ≡ r → R x z ≡ Less
      go Less e = o.trans x y z lt e
      go Equal e = o.antisymm x z ∙ ap ordering_reverse (sym (o.congr y z x e) ∙ o.antisymm y x ∙ ap ordering_reverse lt)
      go Greater e = absurd (true≢false (sym (ap is_gt e) ∙ le))

  lower : (r : Ordering) → is_gt r ≡ false → is_eq r ≡ false → r ≡ Less
  lower Less p q = refl
  lower Equal p q = absurd (true≢false q)
  lower Greater p q = absurd (true≢false p)

  -- what differs from the next one differs from all that follow
  pub separated : (x y : K) (ys : List K) → Rises R (x ∷ y ∷ ys) → is_eq (R x y) ≡ false → AllByRecursion (λ z. is_eq (R x z) ≡ false) (y ∷ ys)
  separated x y ys rises differ = (differ, each ys rises.1.0)
    where
      each : (zs : List K) → AllByRecursion (λ z. is_gt (R y z) ≡ false) zs → AllByRecursion (λ z. is_eq (R x z) ≡ false) zs
      each [] all = tt
      each (z ∷ zs) all = (ap is_eq (chain x y z (lower (R x y) rises.0.0 differ) all.0), each zs all.1)

-- the first of each run rise too
pub heads_rise : (R : Entry → Entry → Ordering) (same : Entry → Entry → Bool) (list : List Entry) → Rises R list → Rises R (heads (runs same list))
unfolding runs
heads_rise R same [] rises = tt
heads_rise R same (entry ∷ rest) rises =
    before (runs same rest) (heads_each (λ y. is_gt (R entry y) ≡ false) (runs same rest) (runs_each (λ y. is_gt (R entry y) ≡ false) same rest rises.0)) (heads_rise R same rest rises.1)
  where
    before : (list : List Run) → AllByRecursion (λ y. is_gt (R entry y) ≡ false) (heads list) → Rises R (heads list) → Rises R (heads (run_before same entry 1 list))
    before [] all rise = (tt, tt)
    before (run ∷ list) all rise = by_test (same entry run.head)
      where
        by_test : (b : Bool) → Rises R (heads (cond b (record { head = entry; count = 1 + run.count } ∷ list) (record { head = entry; count = 1 } ∷ run ∷ list)))
        by_test true = (all.1, rise.1)
        by_test false = (all, rise)

-- ---- the orders of types and of names

abbrev pub kind_cmp : Entry → Entry → Ordering
kind_cmp = on (λ entry. entry.kind) key_cmp

abbrev pub name_cmp : Entry → Entry → Ordering
name_cmp = then_cmp (on (λ entry. entry.kind) key_cmp) (on (λ entry. entry.name) key_cmp)

pub kind_total : IsTotalOrder kind_cmp
kind_total = search (comparing, rules) depth 12

pub name_total : IsTotalOrder name_cmp
name_total = search (comparing, rules) depth 12

then_eq : (a b : Ordering) → is_eq (ordering_then a b) ≡ (is_eq a && is_eq b)
then_eq Less b = refl
then_eq Equal b = refl
then_eq Greater b = refl

pub same_is : (x y : Entry) → same_name x y ≡ is_eq (name_cmp x y)
same_is x y = sym (then_eq (key_cmp x.kind y.kind) (key_cmp x.name y.name))
