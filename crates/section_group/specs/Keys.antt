-- The keys of the orders, as the sorts compare them.
use Rattle.std.specs.Prelude.{ℕ, ◌<◌, not, IsTrue, List, slice_index}
use Rattle.std.specs.Ordering.{nat_cmp, bool_cmp, then_cmp, on, is_lt}
use Rattle.std.specs.declared.cmp.Ordering.{Ordering}
use Rattle.std.specs.Cmp.Lexicographic.{slice_cmp}
use Rattle.section_group.specs.declared.key.PieceKey.{PieceKey}
use Rattle.section_group.specs.declared.key.SectionKey.{SectionKey}
use Rattle.section_group.specs.SectionOrder.{Input, piece_at, is_merged, merged_name, suffix, inside_cmp}

abbrev pub IsWithin : ℕ → ℕ → Type 0
IsWithin count k = k < count

abbrev pub piece_key : Input → ℕ → PieceKey
piece_key input k = record {
  uninitialised = not (piece_at input k).init;
  merged = is_merged input k;
  merged_name = merged_name input k;
  suffix = suffix (piece_at input k).name;
  «module» = (piece_at input k).module;
  number = (piece_at input k).number;
  index = k;
}

abbrev pub key_cmp : PieceKey → PieceKey → Ordering
key_cmp =
    then_cmp (on (λ k. k.uninitialised) bool_cmp)
    (then_cmp (on (λ k. k.merged) bool_cmp)
    (then_cmp (on (λ k. k.merged_name) (slice_cmp nat_cmp))
    (then_cmp (on (λ k. k.suffix) (slice_cmp nat_cmp))
    (then_cmp (on (λ k. k.module) nat_cmp)
    (then_cmp (on (λ k. k.number) nat_cmp)
    (on (λ k. k.index) nat_cmp))))))

abbrev pub section_cmp : SectionKey → SectionKey → Ordering
section_cmp =
    then_cmp (on (λ k. k.rank) nat_cmp)
    (then_cmp (on (λ k. k.module) nat_cmp)
    (then_cmp (on (λ k. k.number) nat_cmp)
    (then_cmp (on (λ k. k.index) nat_cmp)
    (on (λ k. k.section) nat_cmp))))

-- the first of some pieces ascend
abbrev pub AscendUpTo : Input → List ℕ → ℕ → Type 0
AscendUpTo input members count =
    (i j : ℕ) → i < j → j < count → IsTrue (is_lt (inside_cmp input (slice_index members i) (slice_index members j)))
