-- The listings that are left, one after the other.
use Rattle.std.proofs.Common.{◌≡◌, ℕ, zero, suc, ◌+◌, ◌-◌, ◌<◌, ◌≤◌, true, false, List, [], ◌∷◌, length, drop, Option, Some, None, refl, sym, ap, ◌∙◌, add-one, lit≤, arith}
use Rattle.std.specs.List.{slice_get}
use Rattle.std.specs.Prelude.{nat_eq}
use Rattle.std.specs.Iterator.{YieldsFirst}
use lib.Pointwise.{pointwise}
use Rattle.lib_reader.specs.Texts.{first_text, behind_text}
use Rattle.lib_reader.specs.Listing.{Entry, listings_from, first_of_name}

-- as many as are counted
pub listings_from_length : (offset : ℕ → ℕ) (index n : ℕ) (text : List ℕ) → length (listings_from offset index n text) ≡ n
unfolding listings_from
listings_from_length offset index zero text = refl
listings_from_length offset index (suc n) text = ap suc (listings_from_length offset (suc index) n (behind_text text))

-- the first of them, and the others
pub listings_from-more : (offset : ℕ → ℕ) (index n : ℕ) (text : List ℕ) → 0 < n → listings_from offset index n text ≡ (first_text text, offset index) ∷ listings_from offset (index + 1) (n - 1) (behind_text text)
unfolding listings_from
listings_from-more offset index zero text some = absurd (omega arith)
listings_from-more offset index (suc n) text some =
    let before : suc n - 1 ≡ n = omega arith in
    let next : index + 1 ≡ suc index = omega arith in
    rw (before, next) refl

-- none are left
pub listings_from-none : (offset : ℕ → ℕ) (index n : ℕ) (text : List ℕ) → n ≡ 0 → listings_from offset index n text ≡ []
unfolding listings_from
listings_from-none offset index n text none = rw none refl

-- a step: the name and the offset that were read are those of the first listing
pub listings_step : (offset : ℕ → ℕ) (index left at : ℕ) (text name rest : List ℕ) (listings : List Entry) → listings ≡ listings_from offset index left text → 0 < left → name ≡ first_text text → rest ≡ behind_text text → at ≡ offset index → listings ≡ (name, at) ∷ listings_from offset (index + 1) (left - 1) rest
listings_step offset index left at text name rest listings is some first behind place =
    rw (first, behind, place) (is ∙ listings_from-more offset index left text some)

-- and one less is left
pub listings_less : (entry : Entry) (listings rest : List Entry) → listings ≡ entry ∷ rest → length rest < length listings
listings_less entry listings rest is = rw is (omega arith)

-- ---- a list from an index on

-- one more that is passed over
pub drop_next : (index : ℕ) (all : List Entry) (entry : Entry) (rest : List Entry) → drop index all ≡ entry ∷ rest → rest ≡ drop (index + 1) all
drop_next zero [] entry rest is = absurd cc
drop_next zero (x ∷ all) entry rest is = let same : rest ≡ all = cc in same
drop_next (suc index) [] entry rest is = absurd cc
drop_next (suc index) (x ∷ all) entry rest is = rw add-one (drop_next index all entry rest is ∙ rw add-one refl)

drop_none_next : (index : ℕ) (all : List Entry) → drop index all ≡ [] → drop (index + 1) all ≡ []
drop_none_next zero [] is = refl
drop_none_next zero (x ∷ all) is = absurd cc
drop_none_next (suc index) [] is = rw add-one refl
drop_none_next (suc index) (x ∷ all) is = rw add-one (rw add-one at (drop_none_next index all is))

-- what a call of `next` that started at an index leaves
pub drop_passed : (index : ℕ) (all before after : List Entry) (r : Option Entry) → before ≡ drop index all → YieldsFirst (λ (listings : List Entry). listings) before r after → after ≡ drop (index + 1) all
drop_passed index all before after None is gave = gave.1 ∙ sym (drop_none_next index all (sym is ∙ gave.0))
drop_passed index all before after (Some entry) is gave = drop_next index all entry after (sym is ∙ gave)

pub drop_first : (index : ℕ) (all : List Entry) (entry : Entry) (rest : List Entry) → drop index all ≡ entry ∷ rest → slice_get all index ≡ Some entry
drop_first zero [] entry rest is = absurd cc
drop_first zero (x ∷ all) entry rest is = let same : x ≡ entry = cc in ap Some same
drop_first (suc index) [] entry rest is = absurd cc
drop_first (suc index) (x ∷ all) entry rest is = drop_first index all entry rest is

-- none is left only behind them all
pub drop_none : (index : ℕ) (all : List Entry) → drop index all ≡ [] → length all ≤ index
drop_none zero [] is = lit≤ tt
drop_none zero (x ∷ all) is = absurd cc
drop_none (suc index) [] is = omega arith
drop_none (suc index) (x ∷ all) is = omega (arith, drop_none index all is)

-- ---- the first listing of a name

pub name_found : (name listed : List ℕ) (at : ℕ) (before after : List Entry) → before ≡ (listed, at) ∷ after → pointwise nat_eq listed name ≡ true → first_of_name name before ≡ Some at
unfolding first_of_name
name_found name listed at before after is same = rw (is, same) refl

pub name_passed : (name listed : List ℕ) (at : ℕ) (before after : List Entry) → before ≡ (listed, at) ∷ after → pointwise nat_eq listed name ≡ false → first_of_name name before ≡ first_of_name name after
unfolding first_of_name
name_passed name listed at before after is other = rw (is, other) refl

pub name_missing : (name : List ℕ) (before : List Entry) → before ≡ [] → first_of_name name before ≡ None
unfolding first_of_name
name_missing name before is = rw is refl
