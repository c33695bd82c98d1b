-- Texts one behind the other: one step from NUL to NUL.
use Rattle.std.proofs.Common.{◌≡◌, ℕ, zero, suc, ◌+◌, ◌-◌, ◌<◌, true, false, List, length, take, drop, Some, None, refl, ap, ◌∙◌, inl, inr, lt-ltb, le-ltb, arith}
use Rattle.std.specs.Prelude.{is_some}
use Rattle.std.specs.List.{position_or_len}
use Rattle.std.proofs.lemmas.Bool.{cases_lt, and_parts}
use Rattle.std.proofs.lemmas.List.{length-take-le}
use Rattle.link_base.specs.Bytes.{is_nul, text_at}
use Rattle.lib_reader.specs.Texts.{first_text, behind_text, texts_end}

-- a text that a NUL ends: it is the first, and its NUL stands before what is behind it
pub record IsFirstText (text first : List ℕ) : Type 0 where
  pub is : first ≡ first_text text
  pub ended : length first < length text
  pub behind : drop (length first + 1) text ≡ behind_text text

pub first_text_at : (text first : List ℕ) → text_at text 0 ≡ Some first → IsFirstText text first
first_text_at text first e =
    let len = position_or_len is_nul text in
    elim (cases_lt len (length text)) [
      | inl lt ↦
          let there : text_at text 0 ≡ Some (take len text) = rw (lt-ltb _ _ lt) refl in
          let same : first ≡ take len text = cc in
          let size : length first ≡ len = ap length same ∙ length-take-le len text (omega arith) in
          record { is = same; ended = omega arith; behind = ap (λ (n : ℕ). drop (n + 1) text) size }
      | inr le ↦
          let missing : text_at text 0 ≡ None = rw (le-ltb _ _ le) refl in
          absurd cc
    ]

before_suc : (n : ℕ) → suc n - 1 ≡ n
before_suc n = omega arith

-- the first text ends: as many more end as end behind it
pub texts_end-more : (left : ℕ) (first text : List ℕ) → 0 < left → Some first ≡ text_at text 0 → texts_end left text ≡ texts_end (left - 1) (behind_text text)
unfolding texts_end
texts_end-more zero first text some ends = absurd (omega arith)
texts_end-more (suc n) first text some ends = rw (before_suc n, ← ends) refl

-- it does not: nor do they all
pub texts_end-missing : (left : ℕ) (text : List ℕ) → 0 < left → None ≡ text_at text 0 → texts_end left text ≡ false
unfolding texts_end
texts_end-missing zero text some none = absurd (omega arith)
texts_end-missing (suc n) text some none = rw (← none) refl

pub texts_end-zero : (left : ℕ) (text : List ℕ) → left ≡ 0 → texts_end left text ≡ true
unfolding texts_end
texts_end-zero left text none = rw none refl

-- they all end: the first does, and those behind it
pub texts_end-first : (left : ℕ) (text : List ℕ) → 0 < left → texts_end left text ≡ true → is_some (text_at text 0) ≡ true
unfolding texts_end
texts_end-first zero text some all = absurd (omega arith)
texts_end-first (suc n) text some all = (and_parts (is_some (text_at text 0)) (texts_end n (behind_text text)) all).0

pub texts_end-behind : (left : ℕ) (text : List ℕ) → 0 < left → texts_end left text ≡ true → texts_end (left - 1) (behind_text text) ≡ true
unfolding texts_end
texts_end-behind zero text some all = absurd (omega arith)
texts_end-behind (suc n) text some all =
    rw (before_suc n) (and_parts (is_some (text_at text 0)) (texts_end n (behind_text text)) all).1
