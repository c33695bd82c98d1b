-- One input has one grouping at most.
use Rattle.std.proofs.Common.{◌≡◌, ◌⊎◌, ℕ, zero, suc, ◌<◌, true, ◌&&◌, eqb, IsTrue, List, [], ◌∷◌, length, get_or, bit_or, refl, sym, ap, ◌∙◌, subst, inl, inr, arith, rules}
use Rattle.std.specs.List.{AllPairs, Contains}
use Rattle.std.specs.Ordering.{is_lt, nat_cmp, ordering_then, then_cmp, on}
use Rattle.std.specs.Cmp.{IsTotalOrder}
use Rattle.std.specs.Cmp.Rules.{comparing}
use Rattle.std.specs.declared.cmp.Ordering.{Ordering}
use Rattle.std.proofs.lemmas.Bool.{false≢true, eqb-true, and_parts}
use Rattle.std.proofs.lemmas.List.{get_or_default, length-map}
use Rattle.std.proofs.lemmas.Option.{slice_get_cases}
use Rattle.std.proofs.Math.ListN.{get_or-map}
use Rattle.link_base.proofs.NameTextLemmas.{same_is}
use Rattle.section_group.proofs.KeyLemmas.{inside_total}
use Rattle.section_group.specs.declared.piece.OutSection.{OutSection}
use Rattle.section_group.specs.Merging.{same_name}
use Rattle.section_group.specs.SectionOrder.{Input, is_used, section_name, place_cmp, inside_cmp, rank_of, IsFirstPiece, ComesBefore}
use Rattle.section_group.specs.Placement.{goes_to, section_attributes, content_flags, IsSection, IsGrouping}
use Rattle.section_group.specs.Uniqueness.{SectionRow, row_of, rows_of}
use Rattle.section_group.proofs.OrderLemmas.{not_after, level}
use Rattle.section_group.proofs.OwnerLemmas.{place_total, level_places}

-- ---- lists in order with the same elements

module _ {X : Type 0} (B : X → X → Type 0) (asym : (x y : X) → B x y → B y x → ⊥) where
  -- an element of a list is its head or behind it
  head_or : (x k : X) (xs : List X) → Contains (x ∷ xs) k → (x ≡ k) ⊎ Contains xs k
  head_or x k xs (zero, lt, is) = inl is
  head_or x k xs (suc i, lt, is) = inr (i, omega (arith, lt), is)

  behind : (x k : X) (xs : List X) → AllPairs B (x ∷ xs) → Contains xs k → B x k
  behind x k xs pairs there = subst (B x) (there.2) (pairs 0 (suc there.0) k (omega arith) (omega (arith, there.1)))

  rest_pairs : (x : X) (xs : List X) → AllPairs B (x ∷ xs) → AllPairs B xs
  rest_pairs x xs pairs = λ i j d lt within. pairs (suc i) (suc j) d (omega arith) (omega arith)

  into_rest : (x y : X) (xs ys : List X) → x ≡ y → AllPairs B (x ∷ xs) → ((k : X) → Contains (x ∷ xs) k → Contains (y ∷ ys) k) → (k : X) → Contains xs k → Contains ys k
  into_rest x y xs ys same pairs into k there =
      elim (head_or y k ys (into k (suc there.0, omega (arith, there.1), there.2))) [
        | inl here ↦
            let before = behind x k xs pairs there in
            let e : x ≡ k = same ∙ here in
            let itself = subst (B x) (sym e) before in
            absurd (asym x x itself itself)
        | inr later ↦ later
      ]

  pub same_lists : (xs ys : List X) → AllPairs B xs → AllPairs B ys → ((k : X) → Contains xs k → Contains ys k) → ((k : X) → Contains ys k → Contains xs k) → xs ≡ ys
  same_lists [] [] p q into back = refl
  same_lists [] (y ∷ ys) p q into back = absurd (let there = back y (0, omega arith, refl) in omega (arith, there.1))
  same_lists (x ∷ xs) [] p q into back = absurd (let there = into x (0, omega arith, refl) in omega (arith, there.1))
  same_lists (x ∷ xs) (y ∷ ys) p q into back =
      let same : x ≡ y = heads x y xs ys p q (into x (0, omega arith, refl)) (back y (0, omega arith, refl)) in
      let rest = same_lists xs ys (rest_pairs x xs p) (rest_pairs y ys q) (into_rest x y xs ys same p into) (into_rest y x ys xs (sym same) q back) in
      ap (λ (z : X). z ∷ xs) same ∙ ap (λ (zs : List X). y ∷ zs) rest
    where
      heads : (x y : X) (xs ys : List X) → AllPairs B (x ∷ xs) → AllPairs B (y ∷ ys) → Contains (y ∷ ys) x → Contains (x ∷ xs) y → x ≡ y
      heads x y xs ys p q there here =
          elim (head_or y x ys there) [
            | inl same ↦ sym same
            | inr later ↦ elim (head_or x y xs here) [
              | inl same ↦ same
              | inr after ↦ absurd (asym y x (behind y x ys q later) (behind x y xs p after))
            ]
          ]

-- ---- sections

-- a piece that two sections share shows that they are one
shared : (input : Input) (s t : OutSection) (k : ℕ) → IsSection input s → IsSection input t → Contains s.pieces.items k → Contains t.pieces.items k → row_of s ≡ row_of t
shared input s t k a b here there = λ i. record { name = names i; flags = flags i; pieces = pieces i }
  where
    goes_a : IsTrue (goes_to input s.name a.attributes k)
    goes_a = (a.members k).0 here

    goes_b : IsTrue (goes_to input t.name b.attributes k)
    goes_b = (b.members k).0 there

    parts : (name : List ℕ) (attributes : ℕ) → IsTrue (goes_to input name attributes k) → (section_name input k ≡ name) × (section_attributes input k ≡ attributes)
    parts name attributes goes =
        let more = (and_parts (is_used input k) (same_name (section_name input k) name && eqb (section_attributes input k) attributes) goes).1 in
        let two = and_parts (same_name (section_name input k) name) (eqb (section_attributes input k) attributes) more in
        (same_is (section_name input k) name two.0, eqb-true (section_attributes input k) attributes two.1)

    names : s.name ≡ t.name
    names = sym (parts s.name a.attributes goes_a).0 ∙ (parts t.name b.attributes goes_b).0

    attributes : a.attributes ≡ b.attributes
    attributes = sym (parts s.name a.attributes goes_a).1 ∙ (parts t.name b.attributes goes_b).1

    move : (m : ℕ) → goes_to input s.name a.attributes m ≡ goes_to input t.name b.attributes m
    move m = ap (λ (name : List ℕ). goes_to input name a.attributes m) names ∙ ap (λ (n : ℕ). goes_to input t.name n m) attributes

    pieces : s.pieces.items ≡ t.pieces.items
    pieces =
        same_lists (λ j m. IsTrue (is_lt (inside_cmp input j m))) (λ j m p q. false≢true (sym (not_after (inside_total input) j m q) ∙ p)) s.pieces.items t.pieces.items a.ascending b.ascending
        (λ m in'. (b.members m).1 (sym (move m) ∙ (a.members m).0 in'))
        (λ m in'. (a.members m).1 (move m ∙ (b.members m).0 in'))

    flags : s.flags ≡ t.flags
    flags = a.flags ∙ ap (λ (n : ℕ). bit_or n (content_flags input s.pieces.items)) attributes ∙ ap (λ (ps : List ℕ). bit_or b.attributes (content_flags input ps)) pieces ∙ sym b.flags

row_read : (xs : List OutSection) (i : ℕ) (d : SectionRow) (x : OutSection) → i < length xs → get_or (rows_of xs) i d ≡ row_of (get_or xs i x)
row_read xs i d x lt =
    let in' : i < length (rows_of xs) = omega (arith, length-map xs row_of) in
    get_or_default (rows_of xs) i d (row_of x) in' ∙ get_or-map row_of xs i x

-- each section of a grouping is in the other
in_other : (input : Input) (xs ys : List OutSection) (row : SectionRow) → IsGrouping input xs → IsGrouping input ys → Contains (rows_of xs) row → Contains (rows_of ys) row
in_other input xs ys row a b there =
    elim (slice_get_cases xs there.0).1 [
      | inl found ↦ go found.0 found.1 found.3
      | inr past ↦ absurd (omega (arith, past.0, there.1, length-map xs row_of))
    ]
  where
    go : (x : OutSection) → there.0 < length xs → get_or xs there.0 x ≡ x → Contains (rows_of ys) row
    go x lt is =
        let sx = subst (IsSection input) is (a.each there.0 x lt) in
        let needed = sx.needed in
        let k = needed.1 in
        let here : Contains x.pieces.items k = (needed.0, needed.2, needed.3) in
        let used = (and_parts (is_used input k) _ ((sx.members k).0 here)).0 in
        let t = b.complete k used needed.4 in
        let st = subst (IsSection input) t.3 (b.each t.0 t.1 t.2) in
        let same = shared input x t.1 k sx st here t.4 in
        let is_row : row ≡ row_of x = sym there.2 ∙ row_read xs there.0 row x lt ∙ ap row_of is in (
          t.0,
          omega (arith, t.2, length-map ys row_of),
          row_read ys t.0 row t.1 t.2 ∙ ap row_of t.3 ∙ sym same ∙ sym is_row,
        )

-- ---- the order of sections

-- a row comes before another, as a section does
record RowBefore (input : Input) (row other : SectionRow) : Type 0 where
  first : ℕ
  other_first : ℕ
  is_first : IsFirstPiece input row.pieces first
  is_other_first : IsFirstPiece input other.pieces other_first
  before : IsTrue (is_lt (ordering_then (nat_cmp (rank_of row.name) (rank_of other.name)) (place_cmp input first other_first)))

one_first : (input : Input) (pieces : List ℕ) (f g : ℕ) → IsFirstPiece input pieces f → IsFirstPiece input pieces g → f ≡ g
one_first input pieces f g a b =
    level_places input f g (level (place_total input) g f (a.before g b.among) (b.before f a.among))

abbrev spot_cmp : Input → ℕ × ℕ → ℕ × ℕ → Ordering
spot_cmp input = then_cmp (on (λ x. x.0) nat_cmp) (on (λ x. x.1) (place_cmp input))

spot_total : (input : Input) → IsTotalOrder (spot_cmp input)
spot_total input = search (comparing, rules) depth 9

row_asym : (input : Input) (r s : SectionRow) → RowBefore input r s → RowBefore input s r → ⊥
row_asym input r s a b =
    let f = one_first input r.pieces b.other_first a.first b.is_other_first a.is_first in
    let g = one_first input s.pieces b.first a.other_first b.is_first a.is_other_first in
    let back : is_lt (spot_cmp input (rank_of s.name, a.other_first) (rank_of r.name, a.first)) ≡ true =
    subst (λ (n : ℕ). is_lt (spot_cmp input (rank_of s.name, a.other_first) (rank_of r.name, n)) ≡ true) f
    (subst (λ (n : ℕ). is_lt (spot_cmp input (rank_of s.name, n) (rank_of r.name, b.other_first)) ≡ true) g b.before)
    in
    false≢true (sym (not_after (spot_total input) (rank_of r.name, a.first) (rank_of s.name, a.other_first) back) ∙ a.before)

rows_ascend : (input : Input) (xs : List OutSection) → AllPairs (ComesBefore input) xs → AllPairs (RowBefore input) (rows_of xs)
rows_ascend input xs pairs = λ i j d lt within.
    let in' : j < length xs = omega (arith, length-map xs row_of) in
    elim (slice_get_cases xs j).1 [
      | inl found ↦
          let before = pairs i j found.0 lt in' in
          subst (λ (r : SectionRow). RowBefore input r (get_or (rows_of xs) j d)) (sym (row_read xs i d found.0 (omega arith)))
          (subst (RowBefore input (row_of (get_or xs i found.0))) (sym (row_read xs j d found.0 in'))
          (record { first = before.first; other_first = before.other_first; is_first = before.is_first; is_other_first = before.is_other_first; before = before.before }))
      | inr past ↦ absurd (omega (arith, past.0))
    ]

-- two groupings of one input have the same sections, with the same flags and pieces, in the same order
pub one_grouping : (input : Input) (xs ys : List OutSection) → IsGrouping input xs → IsGrouping input ys → rows_of xs ≡ rows_of ys
one_grouping input xs ys a b =
    same_lists (RowBefore input) (row_asym input) (rows_of xs) (rows_of ys) (rows_ascend input xs a.ascending) (rows_ascend input ys b.ascending)
    (λ row there. in_other input xs ys row a b there) (λ row there. in_other input ys xs row b a there)
