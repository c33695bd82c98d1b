-- Where the last slash stands, and the last dot after it.
use Rattle.std.proofs.Common.{◌≡◌, ℕ, ◌+◌, ◌-◌, ◌≤◌, Bool, true, false, List, length, take, drop, get_or, Some, None, refl, sym, ap, ◌∙◌, subst, inl, inr, arith, lt-ltb, le-ltb}
use Rattle.std.specs.List.{position_or_len, suffix_len, before_last, after_last}
use Rattle.std.proofs.Math.Seq.{take-length}
use Rattle.std.proofs.lemmas.List.{get_or-drop, length-drop}
use Rattle.std.proofs.lemmas.List.Sums.{suffix_len_is, passes_at_first, fails_before_first}
use Rattle.std.proofs.lemmas.Bool.{cases_lt, false≢true}
use Rattle.memchr.specs.Find.{IsLastByte}
use Rattle.directives.specs.Text.{has, is_dot}
use Rattle.link_words.specs.Extension.{is_slash, stem}
use mathlib.Core.Bool.{not}

fails : (b : Bool) → (b ≡ true → ⊥) → not b ≡ true
fails true h = absurd (h refl)
fails false h = refl

module _ (test : ℕ → Bool) (text : List ℕ) where
  suffix_at : (k : ℕ) → IsLastByte test text (Some k) → suffix_len (λ b. not (test b)) text ≡ length text - (k + 1)
  suffix_at k h =
      suffix_len_is (λ (b : ℕ). not (test b)) text (k + 1) 0 (omega (arith, h.0.high)) (λ i low high. fails (test (get_or text i 0)) (h.0.after i low high)) (λ some. ap not (ap (λ (i : ℕ). test (get_or text i 0)) (omega arith) ∙ h.1))

  -- what stands after the last byte that passes, and before it
  pub after_at : (k : ℕ) → IsLastByte test text (Some k) → after_last test text ≡ drop (k + 1) text
  after_at k h = ap (λ (n : ℕ). drop n text) (omega (arith, suffix_at k h, h.0.high))

  pub before_at : (k : ℕ) → IsLastByte test text (Some k) → before_last test text ≡ take k text
  before_at k h = ap (λ (n : ℕ). take n text) (omega (arith, suffix_at k h, h.0.high))

  pub after_none : IsLastByte test text None → after_last test text ≡ drop 0 text
  after_none h =
      let e : suffix_len (λ b. not (test b)) text ≡ length text - 0 = suffix_len_is (λ (b : ℕ). not (test b)) text 0 0 (omega arith) (λ i low high. fails (test (get_or text i 0)) (h i low high)) (λ some. absurd (omega arith)) in
      let zero : length text - suffix_len (λ b. not (test b)) text ≡ 0 = omega (arith, e) in
      ap (λ (n : ℕ). drop n text) zero

  pub has_at : (k : ℕ) → IsLastByte test text (Some k) → has test text ≡ true
  has_at k h =
      elim (cases_lt (position_or_len test text) (length text)) [
        | inl lt ↦ rw (lt-ltb _ _ lt) refl
        | inr le ↦ absurd (false≢true (sym (fails_before_first test text k 0 (omega (arith, h.0.high))) ∙ h.1))
      ]

  pub has_none : IsLastByte test text None → has test text ≡ false
  has_none h =
      elim (cases_lt (position_or_len test text) (length text)) [
        | inl lt ↦ absurd (h (position_or_len test text) (omega arith) lt (passes_at_first test text 0 lt))
        | inr le ↦ rw (le-ltb _ _ le) refl
      ]

-- the last of the rest is the last of all
last_of_rest : (test : ℕ → Bool) (text : List ℕ) (start k : ℕ) → start ≤ length text → IsLastByte test (drop start text) (Some k) → IsLastByte test text (Some (start + k))
last_of_rest test text start k le h =
    let passes_in : (i : ℕ) → test (get_or (drop start text) i 0) ≡ test (get_or text (start + i) 0) = λ (i : ℕ). ap test (get_or-drop start text i 0) in
    let back : (i : ℕ) → start ≤ i → test (get_or (drop start text) (i - start) 0) ≡ test (get_or text i 0) = λ (i : ℕ) (from : start ≤ i). passes_in (i - start) ∙ ap (λ (j : ℕ). test (get_or text j 0)) (omega arith) in (
      record {
        low = omega arith;
        high = omega (arith, h.0.high, length-drop start text);
        after = λ i low high passes. h.0.after (i - start) (omega arith) (omega (arith, length-drop start text)) (back i (omega arith) ∙ passes);
      },
      sym (passes_in k) ∙ h.1,
    )

-- ---- what stands after the last slash

pub after_slash : (name : List ℕ) (start slash : ℕ) → IsLastByte is_slash name (Some slash) → start ≡ slash + 1 → (start ≤ length name) × (after_last is_slash name ≡ drop start name)
after_slash name start slash h e =
    (omega (arith, h.0.high), after_at is_slash name slash h ∙ ap (λ (n : ℕ). drop n name) (sym e))

pub no_slash : (name : List ℕ) (start : ℕ) → IsLastByte is_slash name None → start ≡ 0 → (start ≤ length name) × (after_last is_slash name ≡ drop start name)
no_slash name start h e = (omega arith, after_none is_slash name h ∙ ap (λ (n : ℕ). drop n name) (sym e))

-- ---- the stem of a name

pub stem_at : (name file : List ℕ) (start dot : ℕ) → start ≤ length name → after_last is_slash name ≡ drop start name → file ≡ drop start name → IsLastByte is_dot file (Some dot) → take (start + dot) name ≡ stem name
unfolding stem
stem_at name file start dot le after e h =
    let there : IsLastByte is_dot (drop start name) (Some dot) = subst (λ (t : List ℕ). IsLastByte is_dot t (Some dot)) e h in
    let some : has is_dot (after_last is_slash name) ≡ true = ap (has is_dot) after ∙ has_at is_dot (drop start name) dot there in
    rw some (sym (before_at is_dot name (start + dot) (last_of_rest is_dot name start dot le there)))

pub stem_whole : (name file : List ℕ) (start : ℕ) → after_last is_slash name ≡ drop start name → file ≡ drop start name → IsLastByte is_dot file None → take (length name) name ≡ stem name
unfolding stem
stem_whole name file start after e h =
    let none : has is_dot (after_last is_slash name) ≡ false = ap (has is_dot) (after ∙ sym e) ∙ has_none is_dot file h in
    rw none (take-length name)
