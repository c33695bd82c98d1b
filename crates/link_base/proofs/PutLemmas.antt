-- Bytes put over those of a list, and what a number is of: its bytes.
use Rattle.std.proofs.Common.{◌≡◌, ℕ, zero, suc, ◌+◌, ◌-◌, ◌^◌, ◌<◌, ◌≤◌, List, ◌++◌, length, take, drop, slice_index, refl, sym, ap, ◌∙◌, length-append, length-drop, arith}
use Rattle.std.proofs.lemmas.List.{get_or_append_left, get_or-append_right, get_or-take, get_or-drop, drop_at, length-take-le}
use Rattle.byteorder.specs.Endian.{little_from}
use Rattle.link_base.specs.Bytes.{number_at, number_bytes}
use Rattle.link_base.proofs.CallerLemmas.{number_at-drop, number_at-number_bytes}

-- ---- bytes put over others

abbrev pub put_over : ℕ → List ℕ → List ℕ → List ℕ
put_over at new bytes = take at bytes ++ (new ++ drop (at + length new) bytes)

pub length-put_over : (at : ℕ) (new bytes : List ℕ) → at + length new ≤ length bytes → length (put_over at new bytes) ≡ length bytes
length-put_over at new bytes le =
    omega (arith, length-append (take at bytes) (new ++ drop (at + length new) bytes), length-append new (drop (at + length new) bytes), length-take-le at bytes (omega arith), length-drop (at + length new) bytes)

pub put_before : (at i : ℕ) (new bytes : List ℕ) → at + length new ≤ length bytes → i < at → slice_index (put_over at new bytes) i ≡ slice_index bytes i
put_before at i new bytes le lt =
    let len = length-take-le at bytes (omega arith) in
    get_or_append_left (take at bytes) (new ++ drop (at + length new) bytes) 0 i (omega (arith, len)) ∙ get_or-take at bytes i 0 lt

pub put_after : (at i : ℕ) (new bytes : List ℕ) → at + length new ≤ length bytes → at + length new ≤ i → slice_index (put_over at new bytes) i ≡ slice_index bytes i
put_after at i new bytes le ge =
    get_or-append_right (take at bytes) (new ++ drop (at + length new) bytes) at i 0 (length-take-le at bytes (omega arith)) (omega arith)
    ∙ get_or-append_right new (drop (at + length new) bytes) (length new) (i - at) 0 refl (omega arith)
    ∙ get_or-drop (at + length new) bytes (i - at - length new) 0
    ∙ ap (slice_index bytes) (back at (length new) i ge)
  where
    back : (a b c : ℕ) → a + b ≤ c → a + b + (c - a - b) ≡ c
    back a b c le = omega arith

-- a number that is put over bytes is read there
pub number_put : (at width number : ℕ) (bytes : List ℕ) → at + length (number_bytes width number) ≤ length bytes → number < 256 ^ width → number_at width (put_over at (number_bytes width number) bytes) at ≡ number
number_put at width number bytes le fits =
    let new : List ℕ = number_bytes width number in
    let rest : List ℕ = drop (at + length new) bytes in
    ap (number_at width (put_over at new bytes)) (zero_more at)
    ∙ sym (number_at-drop width at 0 (put_over at new bytes))
    ∙ ap (λ (xs : List ℕ). number_at width xs 0) (drop_at (take at bytes) (new ++ rest) at (length-take-le at bytes (omega arith)))
    ∙ number_at-number_bytes width number rest fits
  where
    zero_more : (n : ℕ) → n ≡ n + 0
    zero_more n = omega arith

-- ---- a number is of its bytes

little_same : (width i : ℕ) (xs ys : List ℕ) → ((k : ℕ) → i ≤ k → k < i + width → slice_index xs k ≡ slice_index ys k) → little_from i width xs ≡ little_from i width ys
little_same zero i xs ys same = refl
little_same (suc width) i xs ys same =
    let here = same i (omega arith) (omega arith) in
    let more = little_same width (suc i) xs ys (λ k low high. same k (omega arith) (omega arith)) in
    rw (here, more) refl

pub number_at-same : (width offset : ℕ) (xs ys : List ℕ) → ((k : ℕ) → offset ≤ k → k < offset + width → slice_index xs k ≡ slice_index ys k) → number_at width xs offset ≡ number_at width ys offset
unfolding number_at
number_at-same width offset xs ys same = little_same width offset xs ys same
