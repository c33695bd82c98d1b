-- What callers may cite: what `first_of_name` says of the listings, and what is whole in a member that is not refused.
use Rattle.std.proofs.Common.{◌≡◌, ℕ, zero, suc, ◌+◌, ◌<◌, ◌≤◌, Bool, true, false, cond, List, [], ◌∷◌, length, drop, Option, Some, None, refl, sym, ap, ◌∙◌, arith}
use Rattle.std.proofs.lemmas.Bool.{ltb-false}
use Rattle.std.specs.Prelude.{nat_eq, is_none}
use Rattle.std.specs.List.{slice_get}
use Rattle.std.proofs.lemmas.List.{length-take-le, length-drop}
use lib.Pointwise.{pointwise}
use Rattle.std.specs.Option.{option_or}
use Rattle.link_base.specs.Refusals.{shown}
use Rattle.link_base.proofs.TestLemmas.{or_right}
use Rattle.lib_reader.specs.ArchiveMember.{size_number, size_of, data_place, data_of, header_is_bad, size_is_bad}
use Rattle.lib_reader.specs.MemberFault.{member_fault}
use Rattle.lib_reader.specs.Listing.{Entry, first_of_name}

-- ---- the first listing of a name

-- a listing at an index, of this name, and none before it is
pub record IsFirstListing (name : List ℕ) (listings : List Entry) (at index : ℕ) : Type 0 where
  pub listed : List ℕ
  pub here : slice_get listings index ≡ Some (listed, at)
  pub same : pointwise nat_eq listed name ≡ true
  pub before : (k : ℕ) (entry : Entry) → k < index → slice_get listings k ≡ Some entry → pointwise nat_eq entry.0 name ≡ false

-- none has the name: each listing has another
pub first_of_name-none : (name : List ℕ) (listings : List Entry) → first_of_name name listings ≡ None → (k : ℕ) (entry : Entry) → slice_get listings k ≡ Some entry → pointwise nat_eq entry.0 name ≡ false
unfolding first_of_name
first_of_name-none name [] none k entry is = absurd cc
first_of_name-none name (first ∷ rest) none zero entry is =
    let same : first ≡ entry = cc in
    ap (λ (e : Entry). pointwise nat_eq e.0 name) (sym same) ∙ other (pointwise nat_eq first.0 name) first.1 (first_of_name name rest) none
  where
    other : (b : Bool) (at : ℕ) (later : Option ℕ) → cond b (Some at) later ≡ None → b ≡ false
    other true at later none = absurd cc
    other false at later none = refl
first_of_name-none name (first ∷ rest) none (suc k) entry is =
    first_of_name-none name rest (later (pointwise nat_eq first.0 name) first.1 (first_of_name name rest) none) k entry is
  where
    later : (b : Bool) (at : ℕ) (later : Option ℕ) → cond b (Some at) later ≡ None → later ≡ None
    later true at others none = absurd cc
    later false at others none = none

-- one more listing, with another name, before them all
before_next : (name : List ℕ) (first : Entry) (rest : List Entry) (index : ℕ) → pointwise nat_eq first.0 name ≡ false → ((k : ℕ) (entry : Entry) → k < index → slice_get rest k ≡ Some entry → pointwise nat_eq entry.0 name ≡ false) → (k : ℕ) (entry : Entry) → k < suc index → slice_get (first ∷ rest) k ≡ Some entry → pointwise nat_eq entry.0 name ≡ false
before_next name first rest index other others zero entry lt is =
    let same : first ≡ entry = cc in ap (λ (e : Entry). pointwise nat_eq e.0 name) (sym same) ∙ other
before_next name first rest index other others (suc k) entry lt is = others k entry (omega arith) is

first_or_later : (name : List ℕ) (first : Entry) (rest : List Entry) (at : ℕ) (b : Bool) → pointwise nat_eq first.0 name ≡ b → cond b (Some first.1) (first_of_name name rest) ≡ Some at → (first_of_name name rest ≡ Some at → (index : ℕ) × IsFirstListing name rest at index) → (index : ℕ) × IsFirstListing name (first ∷ rest) at index
first_or_later name first rest at true same some later =
    let place : first.1 ≡ at = cc in
    (0, record { listed = first.0; here = ap (λ (k : ℕ). Some (first.0, k)) place; same = same; before = λ k entry lt is. absurd (omega arith) })
first_or_later name first rest at false other some later =
    let found = later some in
    (suc found.0, record { listed = found.1.listed; here = found.1.here; same = found.1.same; before = before_next name first rest found.0 other found.1.before })

-- some has it: the first that does
pub first_of_name-some : (name : List ℕ) (listings : List Entry) (at : ℕ) → first_of_name name listings ≡ Some at → (index : ℕ) × IsFirstListing name listings at index
unfolding first_of_name
first_of_name-some name [] at some = absurd cc
first_of_name-some name (first ∷ rest) at some =
    first_or_later name first rest at (pointwise nat_eq first.0 name) refl some (λ some. first_of_name-some name rest at some)

-- ---- a member that is not refused

passed : {A : Type 0} (b : Bool) (error : A) (later : Option A) → option_or (shown b error) later ≡ None → (b ≡ false) × (later ≡ None)
passed true error later none = absurd cc
passed false error later none = (refl, none)

-- its data are in the file
pub member_whole : (long_names bytes : List ℕ) (at : ℕ) → member_fault long_names bytes at ≡ None → data_place at + size_of bytes at ≤ length bytes
unfolding member_fault size_is_bad
member_whole long_names bytes at none =
    let header = passed (header_is_bad bytes at) _ _ none in
    let size = passed (size_is_bad bytes at) _ _ header.1 in
    ltb-false (length bytes) (data_place at + size_of bytes at) (or_right (is_none (size_number bytes at)) _ size.0)

-- and there are as many as the header says
pub member_length : (long_names bytes : List ℕ) (at : ℕ) → member_fault long_names bytes at ≡ None → length (data_of bytes at) ≡ size_of bytes at
member_length long_names bytes at none =
    length-take-le (size_of bytes at) (drop (data_place at) bytes) (omega (arith, length-drop (data_place at) bytes, member_whole long_names bytes at none))
