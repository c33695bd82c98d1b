-- What was numbered and distributed is what goes to each section.
use Rattle.std.proofs.Common.{◌≡◌, ℕ, ◌<◌, Bool, true, ◌&&◌, eqb, eq-eqb, List, [], length, get_or, filter, Vec, Option, Some, None, refl, sym, ap, ◌∙◌, subst, inl, inr, arith}
use Rattle.std.specs.List.{Contains, IsDistinct, range_with_len, slice_get}
use Rattle.std.specs.declared.alloc.Global.{Global}
use Rattle.std.proofs.lemmas.Bool.{false≢true, cases_lt, eqb-true, and_parts}
use Rattle.std.proofs.lemmas.List.{get_or_past}
use Rattle.std.proofs.lemmas.List.Elements.{All-contains}
use Rattle.std.proofs.lemmas.Option.{get_or_from_slice_get, slice_get_cases, same_Some, slice_get_within}
use Rattle.std.proofs.lemmas.Map.Keys.{apart_from_distinct}
use Rattle.section_group.specs.declared.homes.Home.{Home}
use Rattle.section_group.specs.Merging.{same_name}
use Rattle.section_group.specs.SectionOrder.{Input, is_used, section_name}
use Rattle.section_group.specs.Placement.{goes_to, section_attributes}
use Rattle.section_group.specs.Gathering.{home_of, has_number, IsNumberOf, AreNumbers, members_of, AreMembers}
use Rattle.section_group.specs.Sections.{Gathers, home_at, pieces_at, same_home}
use Rattle.section_group.proofs.PartLemmas.{used_within}
use Rattle.section_group.proofs.SectionLemmas.{pieces_read}
use Rattle.link_base.proofs.RangeLemmas.{Passes, range_passes, range_has, range_distinct}
use Rattle.link_base.proofs.NameTextLemmas.{same_is, same_refl}

-- the number of a piece is that of a section
pub numbers_within : (input : Input) (homes : List Home) (count : ℕ) (numbers : List (Option ℕ)) → AreNumbers input homes count numbers → (k number : ℕ) → get_or numbers k None ≡ Some number → number < length homes
numbers_within input homes count numbers are k number e =
    elim (cases_lt k count) [
      | inl lt ↦ slice_get_within homes number (home_of input k) (subst (IsNumberOf input homes k) e (are.each k lt)).1
      | inr past ↦ absurd (not_some (sym (get_or_past numbers k None (omega (arith, are.same_length))) ∙ e))
    ]
  where
    not_some : None ≡ Some number → ⊥
    not_some h = cc

-- sections that are equal are one
homes_apart : (homes : List Home) (a b : ℕ) → IsDistinct same_home homes → a < length homes → b < length homes → home_at homes a ≡ home_at homes b → a ≡ b
homes_apart homes a b distinct in_a in_b same =
    elim (cases_lt a b) [
      | inl lt ↦ absurd (differ a b lt in_b same)
      | inr le ↦ elim (cases_lt b a) [
        | inl lt ↦ absurd (differ b a lt in_a (sym same))
        | inr ge ↦ omega arith
      ]
    ]
  where
    itself : (home : Home) → same_home home home ≡ true
    itself home = ap (λ (b : Bool). b && eqb home.attributes home.attributes) (same_refl home.name) ∙ eq-eqb home.attributes home.attributes refl

    differ : (i j : ℕ) → i < j → j < length homes → home_at homes i ≡ home_at homes j → ⊥
    differ i j lt in' e =
        let apart = apart_from_distinct same_home homes i j (record { name = []; attributes = 0 }) distinct lt in' in
        false≢true (sym apart ∙ ap (λ (h : Home). same_home h (home_at homes j)) e ∙ itself (home_at homes j))

number_is : (number : ℕ) (o : Option ℕ) → has_number number o ≡ true → o ≡ Some number
number_is number None e = absurd (false≢true e)
number_is number (Some other) e = ap Some (eqb-true other number e)

same_homes : (a b : Home) → a.name ≡ b.name → a.attributes ≡ b.attributes → a ≡ b
same_homes a b e f = λ i. record { name = e i; attributes = f i }

pub gathers : (input : Input) (homes : List Home) (numbers : List (Option ℕ)) (members : List (Vec ℕ Global)) → AreNumbers input homes (length input.pieces) numbers → AreMembers numbers (length numbers) (length homes) members → IsDistinct same_home homes → Gathers input homes members
gathers input homes numbers members numbered given distinct = record {
  same_length = given.same_length;
  exact = λ section k lt. (goes section k lt, back section k lt);
  apart = λ section other k lt lt' here there. same_Some _ _ (sym (numbered_as section k lt here) ∙ numbered_as other k lt' there);
  distinct = λ section lt. subst (IsDistinct eqb) (sym (is section lt)) (range_distinct (λ k. has_number section (get_or numbers k None)) 0 (length numbers));
  complete = λ k used. complete k used (get_or numbers k None) refl (numbered.each k (used_within input k used));
}
  where
    is : (section : ℕ) → section < length homes → pieces_at members section ≡ members_of numbers (length numbers) section
    is section lt =
        elim (slice_get_cases members section).1 [
          | inl there ↦ sym (pieces_read members section there.0 there.1 (sym there.3)) ∙ ap (λ (v : Vec ℕ Global). v.items) (sym there.3) ∙ given.each section there.0 lt
          | inr past ↦ absurd (omega (arith, past.0, given.same_length))
        ]

    home_here : (section : ℕ) (home : Home) → slice_get homes section ≡ Some home → home_at homes section ≡ home
    home_here section home e = get_or_from_slice_get homes section home (record { name = []; attributes = 0 }) e

    at_home : (k : ℕ) (home : Home) → home ≡ home_of input k → is_used input k ≡ true → goes_to input home.name home.attributes k ≡ true
    at_home k home same used =
        ap (λ (h : Home). goes_to input h.name h.attributes k) same
        ∙ ap (λ (b : Bool). b && (same_name (section_name input k) (section_name input k) && eqb (section_attributes input k) (section_attributes input k))) used
        ∙ ap (λ (b : Bool). b && eqb (section_attributes input k) (section_attributes input k)) (same_refl (section_name input k))
        ∙ eq-eqb (section_attributes input k) (section_attributes input k) refl

    passes_of : (section k : ℕ) → section < length homes → Contains (pieces_at members section) k → Passes (λ j. has_number section (get_or numbers j None)) 0 (length numbers) k
    passes_of section k lt there =
        let p = λ (j : ℕ). has_number section (get_or numbers j None) in
        All-contains (Passes p 0 (length numbers)) (filter p (range_with_len 0 (length numbers))) k (range_passes p 0 (length numbers)) (subst (λ (xs : List ℕ). Contains xs k) (is section lt) there)

    numbered_as : (section k : ℕ) → section < length homes → Contains (pieces_at members section) k → get_or numbers k None ≡ Some section
    numbered_as section k lt there = number_is section (get_or numbers k None) (passes_of section k lt there).passes

    goes : (section k : ℕ) → section < length homes → Contains (pieces_at members section) k → goes_to input (home_at homes section).name (home_at homes section).attributes k ≡ true
    goes section k lt there =
        let told = subst (IsNumberOf input homes k) (numbered_as section k lt there) (numbered.each k (omega (arith, (passes_of section k lt there).high, numbered.same_length))) in
        at_home k (home_at homes section) (home_here section (home_of input k) told.1) told.0

    listed : (section k : ℕ) → section < length homes → get_or numbers k None ≡ Some section → k < length input.pieces → Contains (pieces_at members section) k
    listed section k lt e within =
        let p = λ (j : ℕ). has_number section (get_or numbers j None) in
        subst (λ (xs : List ℕ). Contains xs k) (sym (is section lt))
        (range_has p 0 (length numbers) k (omega arith) (omega (arith, numbered.same_length)) (ap (has_number section) e ∙ eq-eqb section section refl))

    back_by : (section k : ℕ) → section < length homes → home_of input k ≡ home_at homes section → is_used input k ≡ true → (o : Option ℕ) → get_or numbers k None ≡ o → IsNumberOf input homes k o → Contains (pieces_at members section) k
    back_by section k lt home used None e told = absurd (false≢true (sym told ∙ used))
    back_by section k lt home used (Some number) e told =
        let same = homes_apart homes number section distinct (slice_get_within homes number (home_of input k) told.1) lt (home_here number (home_of input k) told.1 ∙ home) in
        listed section k lt (e ∙ ap Some same) (used_within input k used)

    back : (section k : ℕ) → section < length homes → goes_to input (home_at homes section).name (home_at homes section).attributes k ≡ true → Contains (pieces_at members section) k
    back section k lt h =
        let home = home_at homes section in
        let parts = and_parts (is_used input k) (same_name (section_name input k) home.name && eqb (section_attributes input k) home.attributes) h in
        let more = and_parts (same_name (section_name input k) home.name) (eqb (section_attributes input k) home.attributes) parts.1 in
        let same : home_of input k ≡ home = same_homes (home_of input k) home (same_is (section_name input k) home.name more.0) (eqb-true (section_attributes input k) home.attributes more.1) in
        back_by section k lt same parts.0 (get_or numbers k None) refl (numbered.each k (used_within input k parts.0))

    complete : (k : ℕ) → is_used input k ≡ true → (o : Option ℕ) → get_or numbers k None ≡ o → IsNumberOf input homes k o → (section : ℕ) × (section < length homes) × Contains (pieces_at members section) k
    complete k used None e told = absurd (false≢true (sym told ∙ used))
    complete k used (Some number) e told =
        let lt = slice_get_within homes number (home_of input k) told.1 in
        (number, lt, listed number k lt e (used_within input k used))
