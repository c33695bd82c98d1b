-- Pieces that are marked, one after the other, and named by their marks.
use Rattle.std.proofs.Common.{◌≡◌, ℕ, ◌+◌, ◌<◌, ◌≤◌, Bool, true, false, ◌||◌, List, [], ◌∷◌, ◌++◌, length, map, get_or, take, inl, inr, sym, ap, ◌∙◌, add-one, subst, arith}
use Rattle.std.specs.List.{list_any, range_with_len}
use Rattle.std.proofs.Math.Bool.{or_assoc, or-false}
use Rattle.std.proofs.Math.Seq.{take-suc}
use Rattle.std.proofs.lemmas.Bool.{cases_lt}
use Rattle.std.proofs.lemmas.List.{get_or_default, ext_get_or}
use Rattle.std.proofs.lemmas.List.Folds.{list_any-append}
use Rattle.std.proofs.lemmas.List.FromFn.{get_or-map-range_with_len, length-map-range_with_len}
use Rattle.link_base.proofs.RangeLemmas.{range_more}
use Rattle.section_group.specs.declared.piece.Piece.{Piece}
use Rattle.section_group.specs.SectionOrder.{no_piece}
use Rattle.link_keeping.specs.Named.{LeadsWithin, named_if}

-- one more that a test passes
pub marks_more : {X : Type 0} (test : X → Bool) (xs : List X) (i : ℕ) (x : X) (first was now : Bool) → i < length xs → x ≡ get_or xs i x → was ≡ (first || list_any test (take i xs)) → now ≡ (was || test x) → now ≡ (first || list_any test (take (i + 1) xs))
marks_more {X} test xs i x first was now lt read before after =
    after
    ∙ ap (λ (b : Bool). b || test x) before
    ∙ or_assoc first (list_any test (take i xs)) (test x)
    ∙ ap (λ (b : Bool). first || b)
    (ap (λ (b : Bool). list_any test (take i xs) || b) (sym (or-false (test x)))
    ∙ sym (list_any-append test (take i xs) (x ∷ []))
    ∙ ap (λ (y : X). list_any test (take i xs ++ y ∷ [])) read
    ∙ ap (list_any test) (sym (take-suc xs i x lt))
    ∙ ap (λ (n : ℕ). list_any test (take n xs)) (sym (add-one i)))

-- one more number that does
pub marks_range : (test : ℕ → Bool) (i : ℕ) (first was now : Bool) → was ≡ (first || list_any test (range_with_len 0 i)) → now ≡ (was || test i) → now ≡ (first || list_any test (range_with_len 0 (i + 1)))
marks_range test i first was now before after =
    after
    ∙ ap (λ (b : Bool). b || test i) before
    ∙ or_assoc first (list_any test (range_with_len 0 i)) (test i)
    ∙ ap (λ (b : Bool). first || b)
    (ap (λ (b : Bool). list_any test (range_with_len 0 i) || b) (sym (or-false (test i)))
    ∙ sym (list_any-append test (range_with_len 0 i) (i ∷ []))
    ∙ ap (list_any test) (sym (range_more 0 i i (omega arith))))

-- ---- pieces that are named

-- the first pieces are named, and the others are as they were
pub record AreNamedUpTo (old : List Piece) (meant : List Bool) (count : ℕ) (now : List Piece) : Type 0 where
  pub same_length : length now ≡ length old
  pub named : (k : ℕ) → k < count → get_or now k no_piece ≡ named_if (get_or meant k false) (get_or old k no_piece)
  pub others : (k : ℕ) → count ≤ k → get_or now k no_piece ≡ get_or old k no_piece

pub all_named : (old : List Piece) (meant : List Bool) (count : ℕ) (now : List Piece) → length old ≤ count → AreNamedUpTo old meant count now → now ≡ map (λ k. named_if (get_or meant k false) (get_or old k no_piece)) (range_with_len 0 (length old))
all_named old meant count now all are =
    let f = λ (k : ℕ). named_if (get_or meant k false) (get_or old k no_piece) in
    ext_get_or no_piece now (map f (range_with_len 0 (length old))) (are.same_length ∙ sym (length-map-range_with_len f 0 (length old))) (λ i lt.
    let within : i < length old = omega (arith, are.same_length) in
    are.named i (omega arith) ∙ sym (get_or-map-range_with_len f 0 (length old) i i no_piece within (omega arith)))

-- one more edge leads to one of the first nodes, where its mark says so
pub leads_within : (kept : List Bool) (count : ℕ) (edges : List (ℕ × ℕ)) (i : ℕ) (marked wanted : Bool) → i < length edges → wanted ≡ get_or kept (get_or edges i (0, 0)).0 false → (marked ≡ true → wanted ≡ true → (get_or edges i (0, 0)).1 < count) → marked ≡ true
    → ((k : ℕ) (d : ℕ × ℕ) → k < i → LeadsWithin kept count (get_or edges k d)) → (k : ℕ) (d : ℕ × ℕ) → k < i + 1 → LeadsWithin kept count (get_or edges k d)
leads_within kept count edges i marked wanted inside told within held before k d lt is =
    elim (cases_lt k i) [
      | inl earlier ↦ before k d earlier is
      | inr here ↦
          let same : k ≡ i = omega arith in
          let edge : get_or edges k d ≡ get_or edges i (0, 0) = get_or_default edges k d (0, 0) (omega arith) ∙ ap (λ (n : ℕ). get_or edges n (0, 0)) same in
          subst (λ (e : ℕ × ℕ). e.1 < count) (sym edge) (within held (told ∙ ap (λ (e : ℕ × ℕ). get_or kept e.0 false) (sym edge) ∙ is))
    ]
