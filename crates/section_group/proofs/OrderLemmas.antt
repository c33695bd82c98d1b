-- What follows from a total order, in the form of the test that one comes before another.
use Rattle.std.proofs.Common.{◌≡◌, ◌≢◌, ℕ, ◌<◌, Bool, true, false, refl, sym, ap, ◌∙◌, List, length, get_or, IsTrue, arith}
use Rattle.std.specs.List.{AllPairs}
use Rattle.std.specs.List.Sorted.{IsSorted}
use Rattle.std.proofs.lemmas.List.Sorted.{sorted_far, ranks_by}
use Rattle.std.specs.Ordering.{is_lt, is_gt, ordering_then, ordering_reverse}
use Rattle.std.specs.Cmp.{IsTotalOrder, tied_itself}
use Rattle.std.specs.declared.cmp.Ordering.{Ordering}
use Rattle.std.specs.declared.cmp.Ordering.TheVariants.{Less, Equal, Greater}
use Rattle.std.proofs.lemmas.Bool.{false≢true, true≢false}
use Rattle.link_base.proofs.OrderingLemmas.{is_less}

module _ {K : Type 0} {R : K → K → Ordering} (o : IsTotalOrder R) where
  pub not_before_itself : (x : K) → is_lt (R x x) ≡ false
  not_before_itself x = ap is_lt (tied_itself o x)

  pub before_trans : (x y z : K) → is_lt (R x y) ≡ true → is_lt (R y z) ≡ true → is_lt (R x z) ≡ true
  before_trans x y z p q = ap is_lt (o.trans x y z (is_less (R x y) p) (is_less (R y z) q))

  -- what comes before the best comes after nothing that the best comes before
  pub not_before_better : (k i f : K) → is_lt (R i f) ≡ true → is_lt (R k f) ≡ false → is_lt (R k i) ≡ false
  not_before_better k i f p q = go (is_lt (R k i)) refl
    where
      go : (b : Bool) → is_lt (R k i) ≡ b → b ≡ false
      go false e = refl
      go true e = absurd (false≢true (sym q ∙ before_trans k i f e p))

  turned : (r s : Ordering) → r ≡ ordering_reverse s → is_lt r ≡ false → is_lt s ≡ false → s ≡ Equal
  turned r Less e p q = absurd (true≢false q)
  turned r Equal e p q = refl
  turned r Greater e p q = absurd (true≢false (sym (ap is_lt e) ∙ p))

  -- neither comes before the other: they are level
  pub level : (x y : K) → is_lt (R x y) ≡ false → is_lt (R y x) ≡ false → R y x ≡ Equal
  level x y p q = turned (R x y) (R y x) (o.antisymm x y) p q

  flipped : (r s : Ordering) → r ≡ ordering_reverse s → is_lt s ≡ true → is_lt r ≡ false
  flipped r Less e p = ap is_lt e
  flipped r Equal e p = absurd (false≢true p)
  flipped r Greater e p = absurd (false≢true p)

  pub not_after : (x y : K) → is_lt (R y x) ≡ true → is_lt (R x y) ≡ false
  not_after x y p = flipped (R x y) (R y x) (o.antisymm x y) p

-- ---- the last key

pub then_level : (r s : Ordering) → ordering_then r s ≡ Equal → s ≡ Equal
then_level Less s e = absurd (true≢false (ap is_lt e))
then_level Equal s e = e
then_level Greater s e = absurd (true≢false (ap is_gt e))

-- ---- a sort of elements that differ

-- elements in order, of which no two are level, ascend
pub ascends : {X : Type 0} {R : X → X → Ordering} (o : IsTotalOrder R) (xs : List X) → IsSorted R xs → ((i j : ℕ) (d : X) → i < j → j < length xs → R (get_or xs i d) (get_or xs j d) ≢ Equal) → AllPairs (λ x y. IsTrue (is_lt (R x y))) xs
ascends {X} {R} o xs sorted apart = λ i j d lt within. go i j d lt within (is_lt (R (get_or xs i d) (get_or xs j d))) refl
  where
    go : (i j : ℕ) (d : X) → i < j → j < length xs → (b : Bool) → is_lt (R (get_or xs i d) (get_or xs j d)) ≡ b → is_lt (R (get_or xs i d) (get_or xs j d)) ≡ true
    go i j d lt within true e = e
    go i j d lt within false e =
        let later = sorted_far (λ x y. is_lt (R x y)) (ranks_by o (λ (x : X). x)) xs sorted i j d (omega arith) within in
        absurd (apart i j d lt within (level o (get_or xs j d) (get_or xs i d) later e))
