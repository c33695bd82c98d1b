-- Which candidates fold: the greatest relation of candidates under which related ones are alike. Own.
use Rattle.std.specs.Prelude.{◌≡◌, ℕ, ◌<◌, ◌≤◌, List, length, slice_index, All}
use Rattle.std.specs.List.{Contains}
use Rattle.icf.specs.Sections.{Input}
use Rattle.icf.specs.Alike.{AreAlike}

-- candidates that a relation has are alike under it
abbrev pub KeepsAlike : Input → (ℕ → ℕ → Type 0) → Type 0
KeepsAlike input E = (left right : ℕ) → E left right → AreAlike input E left right

-- a relation given as a list of pairs
abbrev pub RelatedBy : List (ℕ × ℕ) → ℕ → ℕ → Type 0
RelatedBy pairs left right = Contains pairs (left, right)

abbrev pub ArePairsBelow : ℕ → List (ℕ × ℕ) → Type 0
ArePairsBelow count pairs = All (λ pair. (pair.0 < count) × (pair.1 < count)) pairs

-- ---- answers, one for each candidate

-- each is the least candidate that has it
pub record AreLeast (answers : List ℕ) : Type 0 where
  pub low : (number : ℕ) → number < length answers → slice_index answers number ≤ number
  pub own : (number : ℕ) → number < length answers → slice_index answers (slice_index answers number) ≡ slice_index answers number

-- two candidates have equal answers
pub record AnsweredAlike (answers : List ℕ) (left right : ℕ) : Type 0 where
  pub within : left < length answers
  pub other_within : right < length answers
  pub equal : slice_index answers left ≡ slice_index answers right

-- the folding of an input: each answer is the least candidate that has it, candidates with equal answers are alike, and
-- each relation that keeps alike lies inside
pub record IsFolding (input : Input) (answers : List ℕ) : Type 0 where
  pub same_length : length answers ≡ length input.candidates
  pub least : AreLeast answers
  pub alike : KeepsAlike input (AnsweredAlike answers)
  pub greatest : (pairs : List (ℕ × ℕ)) → ArePairsBelow (length input.candidates) pairs → KeepsAlike input (RelatedBy pairs)
      → (left right : ℕ) → RelatedBy pairs left right → AnsweredAlike answers left right
