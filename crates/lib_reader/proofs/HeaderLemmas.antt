-- The blanks at the end of a text.
use Rattle.std.proofs.Common.{◌≡◌, ℕ, zero, suc, ◌-◌, ◌<◌, ◌≢◌, List, slice_index, refl, ap, sym, ◌∙◌, inl, inr, arith}
use Rattle.std.proofs.lemmas.Bool.Decides.{eqb_tells}
use Rattle.lib_reader.specs.ArchiveMember.{trimmed_length}

before_last : (n : ℕ) → suc n - 1 ≡ n
before_last n = omega arith

-- a blank at the end is none of the text
pub trimmed_length-blank : (text : List ℕ) (len : ℕ) → 0 < len → slice_index text (len - 1) ≡ 32 → trimmed_length text len ≡ trimmed_length text (len - 1)
unfolding trimmed_length
trimmed_length-blank text zero lt blank = absurd (omega arith)
trimmed_length-blank text (suc n) lt blank =
    let here : slice_index text n ≡ 32 = ap (slice_index text) (sym (before_last n)) ∙ blank in
    rw (before_last n, here) refl

-- another byte at the end is
pub trimmed_length-kept : (text : List ℕ) (len : ℕ) → 0 < len → slice_index text (len - 1) ≢ 32 → trimmed_length text len ≡ len
unfolding trimmed_length
trimmed_length-kept text zero lt kept = absurd (omega arith)
trimmed_length-kept text (suc n) lt kept =
    elim (eqb_tells (slice_index text n) 32) [
      | inl is ↦ absurd (kept (ap (slice_index text) (before_last n) ∙ is.1))
      | inr other ↦ rw other.0 refl
    ]

pub trimmed_length-none : (text : List ℕ) (len : ℕ) → len ≡ 0 → trimmed_length text len ≡ len
unfolding trimmed_length
trimmed_length-none text len none = rw none refl
