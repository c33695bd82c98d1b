-- The first piece of a section, found piece by piece.
use Rattle.std.proofs.Common.{◌≡◌, ℕ, ◌+◌, ◌<◌, ◌≤◌, true, false, List, length, get_or, sym, ap, ◌∙◌, inl, inr, arith}
use Rattle.std.specs.List.{All}
use Rattle.std.specs.Ordering.{is_lt}
use Rattle.std.proofs.lemmas.Bool.{cases_lt}
use Rattle.std.proofs.lemmas.List.{get_or_default}
use Rattle.std.proofs.lemmas.List.Elements.{Contains-get_or}
use Rattle.section_group.specs.SectionOrder.{Input, place_cmp, IsFirstPiece}
use Rattle.section_group.specs.Gathering.{IsFirstSoFar}
use Rattle.section_group.specs.Keys.{IsWithin}
use Rattle.section_group.proofs.OrderLemmas.{not_before_itself, not_before_better}
use Rattle.section_group.proofs.OwnerLemmas.{place_total}

pub first_begins : (input : Input) (members : List ℕ) → All (IsWithin (length input.pieces)) members → 0 < length members → IsFirstSoFar input members 0 (get_or members 0 0)
first_begins input members within some = record {
  within = within 0 0 some;
  among = Contains-get_or members 0 0 some;
  before = λ k lt. absurd (omega arith);
}

pub first_moves : (input : Input) (members : List ℕ) (i first : ℕ) → All (IsWithin (length input.pieces)) members → i < length members → IsFirstSoFar input members i first → is_lt (place_cmp input (get_or members i 0) first) ≡ true → IsFirstSoFar input members (i + 1) (get_or members i 0)
first_moves input members i first within lt so_far earlier = record {
  within = within i 0 lt;
  among = Contains-get_or members i 0 lt;
  before = λ k below. elim (cases_lt k i) [
    | inl inner ↦ not_before_better (place_total input) (get_or members k 0) (get_or members i 0) first earlier (so_far.before k inner)
    | inr last ↦ let same : k ≡ i = omega arith in ap (λ (j : ℕ). is_lt (place_cmp input (get_or members j 0) (get_or members i 0))) same ∙ not_before_itself (place_total input) (get_or members i 0)
  ];
}

pub first_keeps : (input : Input) (members : List ℕ) (i first : ℕ) → IsFirstSoFar input members i first → is_lt (place_cmp input (get_or members i 0) first) ≡ false → IsFirstSoFar input members (i + 1) first
first_keeps input members i first so_far later = record {
  within = so_far.within;
  among = so_far.among;
  before = λ k below. elim (cases_lt k i) [
    | inl inner ↦ so_far.before k inner
    | inr last ↦ let same : k ≡ i = omega arith in ap (λ (j : ℕ). is_lt (place_cmp input (get_or members j 0) first)) same ∙ later
  ];
}

pub first_at_end : (input : Input) (members : List ℕ) (count first : ℕ) → length members ≤ count → IsFirstSoFar input members count first → IsFirstPiece input members first
first_at_end input members count first all so_far = record {
  among = so_far.among;
  before = λ k there.
      ap (λ (j : ℕ). is_lt (place_cmp input j first)) (sym there.2 ∙ get_or_default members there.0 k 0 there.1)
      ∙ so_far.before there.0 (omega (arith, there.1));
}
