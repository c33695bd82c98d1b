-- How two numbers or texts stand to one another.
use Rattle.std.proofs.Common.{◌≡◌, ℕ, ◌<◌, true, List, refl, sym, ap, ◌∙◌, subst}
use Rattle.std.specs.Ordering.{nat_cmp, ordering_then, is_lt, is_gt, is_eq, MatchOrdering}
use Rattle.std.specs.Cmp.{ranks, nat_cmp_is}
use Rattle.std.specs.Cmp.Lexicographic.{slice_cmp, texts_ties}
use Rattle.std.specs.declared.cmp.Ordering.{Ordering}
use Rattle.std.specs.declared.cmp.Ordering.TheVariants.{Less, Equal, Greater}
use Rattle.std.proofs.lemmas.Bool.{false≢true, true≢false}
use Rattle.std.proofs.lemmas.Slice.Eq.{bytes_eq-Decides}

-- what tells of less is less
pub is_less : (r : Ordering) → is_lt r ≡ true → r ≡ Less
is_less Less e = refl
is_less Equal e = absurd (false≢true e)
is_less Greater e = absurd (false≢true e)

-- two keys, one behind the other, are level where each is
pub then_both : (r s : Ordering) → ordering_then r s ≡ Equal → (r ≡ Equal) × (s ≡ Equal)
then_both Less s e = absurd (true≢false (ap is_lt e))
then_both Equal s e = (refl, e)
then_both Greater s e = absurd (true≢false (ap is_gt e))

-- numbers that are level are one
pub one_number : (x y : ℕ) → nat_cmp x y ≡ Equal → x ≡ y
one_number x y e = subst (λ (r : Ordering). MatchOrdering r (x < y) (x ≡ y) (y < x)) e (ranks x y)

-- a number below another is less
pub less_number : (x y : ℕ) → x < y → nat_cmp x y ≡ Less
less_number x y lt = sym (nat_cmp_is x y Less lt)

-- a number is level with itself
pub equal_number : (x y : ℕ) → x ≡ y → nat_cmp x y ≡ Equal
equal_number x y e = sym (nat_cmp_is x y Equal e)

-- texts that are level are one
pub one_text : (x y : List ℕ) → slice_cmp nat_cmp x y ≡ Equal → x ≡ y
one_text x y e = (bytes_eq-Decides x y).0 (texts_ties x y ∙ ap is_eq e)
