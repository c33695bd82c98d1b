-- An input has one folding.
use Rattle.std.proofs.Common.{◌≡◌, ℕ, zero, suc, ◌<◌, ◌≤◌, ◌⊎◌, inl, inr, Bool, true, false, cond, eqb, List, [], ◌∷◌, ◌++◌, length, get_or, refl, sym, ap, ◌∙◌, subst, arith}
use Rattle.std.specs.List.{Contains}
use Rattle.std.proofs.lemmas.Bool.{cases_lt, false≢true}
use Rattle.std.proofs.lemmas.Bool.Decides.{Decides-eqb}
use Rattle.std.proofs.lemmas.List.{ext_get_or}
use Rattle.std.proofs.lemmas.List.Elements.{Contains-get_or, Contains-append_left, Contains-append_right, Contains-append_cases}
use Rattle.relocate.specs.declared.fix.Fix.{Fix}
use Rattle.icf.specs.Sections.{Input}
use Rattle.icf.specs.Alike.{Meant, Agree, AreAlikeFields, AreAlikeSections, AreAlike}
use Rattle.icf.specs.Folding.{KeepsAlike, RelatedBy, ArePairsBelow, AnsweredAlike, IsFolding}

-- ---- what is alike under a relation is so under one that holds it

module _ (input : Input) (E F : ℕ → ℕ → Type 0) (holds : (left right : ℕ) → E left right → F left right) where
  agree_more : (left right : Meant) → Agree input E left right → Agree input F left right
  agree_more left right (inl same) = inl same
  agree_more left right (inr stand) = inr (record {
    candidate = stand.candidate;
    other = stand.other;
    related = holds stand.candidate stand.other stand.related;
    rank = stand.rank;
    piece = stand.piece;
    other_piece = stand.other_piece;
    value = stand.value;
    section = stand.section;
    other_section = stand.other_section;
    stands = stand.stands;
    other_stands = stand.other_stands;
  })

  fields_more : (left right : Fix) → AreAlikeFields input E left right → AreAlikeFields input F left right
  fields_more left right alike = record { place = alike.place; kind = alike.kind; targets = agree_more left.target right.target alike.targets }

  sections_more : (left right : ℕ) → AreAlikeSections input E left right → AreAlikeSections input F left right
  sections_more left right alike = record {
    names = alike.names;
    flags = alike.flags;
    sizes = alike.sizes;
    contents = alike.contents;
    left_fields = λ fix there. let found = alike.left_fields fix there in (found.0, (found.1.0, fields_more fix found.0 found.1.1));
    right_fields = λ fix there. let found = alike.right_fields fix there in (found.0, (found.1.0, fields_more found.0 fix found.1.1));
  }

  pub alike_more : (left right : ℕ) → AreAlike input E left right → AreAlike input F left right
  alike_more left right alike = record {
    as_many = alike.as_many;
    pairwise = λ rank piece other has has'. sections_more piece other (alike.pairwise rank piece other has has');
  }

-- ---- the relation of equal answers, as a list of pairs

module _ (answers : List ℕ) where
  -- a candidate with each of the first that has its answer
  row : ℕ → ℕ → List (ℕ × ℕ)
  row left zero = []
  row left (suc count) = cond (eqb (get_or answers left 0) (get_or answers count 0)) ((left, count) ∷ row left count) (row left count)

  rows : ℕ → List (ℕ × ℕ)
  rows zero = []
  rows (suc count) = row count (length answers) ++ rows count

  abbrev pub IsPair : ℕ → ℕ → ℕ × ℕ → Type 0
  IsPair left count pair = (pair.0 ≡ left) × ((pair.1 < count) × (get_or answers left 0 ≡ get_or answers pair.1 0))

  first_pair : (pair : ℕ × ℕ) (pairs : List (ℕ × ℕ)) → Contains (pair ∷ pairs) pair
  first_pair pair pairs = (0, omega arith, refl)

  later_pair : (first pair : ℕ × ℕ) (pairs : List (ℕ × ℕ)) → Contains pairs pair → Contains (first ∷ pairs) pair
  later_pair first pair pairs there = (suc there.0, let lt = there.1 in omega arith, there.2)

  behind : (first pair : ℕ × ℕ) (pairs : List (ℕ × ℕ)) → Contains (first ∷ pairs) pair → (first ≡ pair) ⊎ Contains pairs pair
  behind first pair pairs (zero, lt, is) = inl is
  behind first pair pairs (suc k, lt, is) = inr (k, omega arith, is)

  none_there : (pair : ℕ × ℕ) {P : Type 0} → Contains [] pair → P
  none_there pair there = let lt = there.1 in absurd (omega arith)

  row_has : (left count right : ℕ) → right < count → get_or answers left 0 ≡ get_or answers right 0 → Contains (row left count) (left, right)
  unfolding row
  row_has left zero right lt same = absurd (omega arith)
  row_has left (suc count) right lt same = by (λ low. row_has left count right low same) (eqb (get_or answers left 0) (get_or answers count 0)) refl
    where
      by : (right < count → Contains (row left count) (left, right)) → (b : Bool) → eqb (get_or answers left 0) (get_or answers count 0) ≡ b → Contains (cond b ((left, count) ∷ row left count) (row left count)) (left, right)
      by before true is = elim (cases_lt right count) [
        | inl low ↦ later_pair (left, count) (left, right) (row left count) (before low)
        | inr high ↦
            let e : count ≡ right = omega arith in
            subst (λ (n : ℕ). Contains ((left, n) ∷ row left count) (left, right)) (sym e) (first_pair (left, right) (row left count))
      ]
      by before false is = elim (cases_lt right count) [
        | inl low ↦ before low
        | inr high ↦
            let e : right ≡ count = omega arith in
            absurd (false≢true (sym is ∙ (Decides-eqb (get_or answers left 0) (get_or answers count 0)).1 (same ∙ ap (λ (n : ℕ). get_or answers n 0) e)))
      ]

  row_only : (left count : ℕ) (pair : ℕ × ℕ) → Contains (row left count) pair → IsPair left count pair
  unfolding row
  row_only left zero pair there = none_there pair there
  row_only left (suc count) pair there = by (row_only left count pair) (eqb (get_or answers left 0) (get_or answers count 0)) refl there
    where
      more : IsPair left count pair → IsPair left (suc count) pair
      more is = let lt = is.1.0 in (is.0, (omega arith, is.1.1))

      by : (Contains (row left count) pair → IsPair left count pair) → (b : Bool) → eqb (get_or answers left 0) (get_or answers count 0) ≡ b → Contains (cond b ((left, count) ∷ row left count) (row left count)) pair → IsPair left (suc count) pair
      by before true is there = elim (behind (left, count) pair (row left count) there) [
        | inl here ↦ subst (IsPair left (suc count)) here (refl, (omega arith, (Decides-eqb (get_or answers left 0) (get_or answers count 0)).0 is))
        | inr later ↦ more (before later)
      ]
      by before false is there = more (before there)

  rows_have : (count left right : ℕ) → left < count → right < length answers → get_or answers left 0 ≡ get_or answers right 0 → Contains (rows count) (left, right)
  unfolding rows
  rows_have zero left right lt lt' same = absurd (omega arith)
  rows_have (suc count) left right lt lt' same = elim (cases_lt left count) [
    | inl low ↦ Contains-append_right (row count (length answers)) (rows count) (left, right) (rows_have count left right low lt' same)
    | inr high ↦
        let e : left ≡ count = omega arith in
        Contains-append_left (row count (length answers)) (rows count) (left, right)
        (subst (λ (n : ℕ). Contains (row n (length answers)) (left, right)) e (row_has left (length answers) right lt' same))
  ]

  rows_only : (count : ℕ) → count ≤ length answers → (pair : ℕ × ℕ) → Contains (rows count) pair → AnsweredAlike answers pair.0 pair.1
  unfolding rows
  rows_only zero le pair there = none_there pair there
  rows_only (suc count) le pair there = elim (Contains-append_cases (row count (length answers)) (rows count) pair there) [
    | inl here ↦
        let is = row_only count (length answers) pair here in
        let left = is.0 in
        let right = is.1.0 in
        record { within = omega arith; other_within = omega arith; equal = ap (λ (n : ℕ). get_or answers n 0) is.0 ∙ is.1.1 }
    | inr later ↦ rows_only count (omega arith) pair later
  ]

-- ---- one folding

module _ (input : Input) (answers others : List ℕ) (folding : IsFolding input answers) (other : IsFolding input others) where
  -- what has equal answers in one has them in the other
  pub answered_too : (left right : ℕ) → AnsweredAlike answers left right → AnsweredAlike others left right
  answered_too left right related = other.greatest pairs below keeps left right (into left right related)
    where
      pairs : List (ℕ × ℕ)
      pairs = rows answers (length answers)

      into : (left right : ℕ) → AnsweredAlike answers left right → RelatedBy pairs left right
      into left right related = rows_have answers (length answers) left right related.within related.other_within related.equal

      below : ArePairsBelow (length input.candidates) pairs
      below k d lt =
          let pair = get_or pairs k d in
          let related = rows_only answers (length answers) (omega arith) pair (Contains-get_or pairs k d lt) in
          let within = related.within in
          let within' = related.other_within in
          (omega (arith, folding.same_length), omega (arith, folding.same_length))

      keeps : KeepsAlike input (RelatedBy pairs)
      keeps left right related =
          alike_more input (AnsweredAlike answers) (RelatedBy pairs) into left right
          (folding.alike left right (rows_only answers (length answers) (omega arith) (left, right) related))

  pub not_above : (number : ℕ) → number < length answers → get_or others number 0 ≤ get_or answers number 0
  not_above number lt =
      let low = folding.least.low number lt in
      let same : AnsweredAlike answers number (get_or answers number 0) = record { within = lt; other_within = omega arith; equal = sym (folding.least.own number lt) } in
      let too = answered_too number (get_or answers number 0) same in
      let least = other.least.low (get_or answers number 0) too.other_within in
      let equal = too.equal in
      omega arith

-- so two foldings of an input are one
pub one_folding : (input : Input) (answers others : List ℕ) → IsFolding input answers → IsFolding input others → answers ≡ others
one_folding input answers others folding other =
    ext_get_or 0 answers others (folding.same_length ∙ sym other.same_length)
    (λ number lt.
    let up = not_above input answers others folding other number lt in
    let down = not_above input others answers other folding number (omega (arith, folding.same_length, other.same_length)) in
    omega arith)
