-- Names that are one text.
use Rattle.std.proofs.Common.{◌≡◌, ℕ, true, List, refl, sym}
use Rattle.std.proofs.lemmas.Bool.Decides.{same_from_decides}
use Rattle.std.proofs.lemmas.Slice.Eq.{bytes_eq-Decides}
use Rattle.link_base.specs.NameText.{same_name}

-- names that the test finds the same are one
pub same_is : (a b : List ℕ) → same_name a b ≡ true → a ≡ b
same_is a b e = (bytes_eq-Decides a b).0 e

-- a name is the same as itself
pub same_refl : (a : List ℕ) → same_name a a ≡ true
same_refl a = (bytes_eq-Decides a a).1 refl

-- the test has no side
pub same_flip : (a b : List ℕ) → same_name a b ≡ same_name b a
same_flip a b =
    same_from_decides (same_name a b) (same_name b a) (bytes_eq-Decides a b) (λ e. sym (same_is b a e), λ e. (bytes_eq-Decides b a).1 (sym e))
