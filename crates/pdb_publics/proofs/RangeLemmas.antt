-- The bits of the bitmap, and the range of a bucket.
use Rattle.std.proofs.Common.{◌≡◌, ℕ, zero, suc, ◌+◌, ◌*◌, ◌/◌, ◌%◌, ◌<◌, ◌≤◌, Bool, true, false, cond, leb, ◌&&◌, lt-ltb, le-ltb, le-leb, List, get_or, refl, sym, ap, ◌∙◌, add-one, arith}
use Rattle.std.proofs.lemmas.Bool.{lt-leb}
use Rattle.std.proofs.Math.Bool.{and-false}
use mir.Val.{bool_byte}
use Rattle.pdb_publics.specs.Lookup.{records_len, is_set, bitmap_at, has_bucket, passing, word, is_word, first_record, has_next, end_record, has_end, has_range, IsRange}

abbrev indicator : Bool → ℕ
indicator b = cond b 1 0

-- ---- bits

pub passing_more : (n : ℕ) (test : ℕ → Bool) → passing (n + 1) test ≡ passing n test + cond (test n) 1 0
unfolding passing
passing_more n test = ap (λ (k : ℕ). passing k test) (add-one n)

pub bits_of_byte : (publics : List ℕ) (j i : ℕ) → i ≤ 8 → passing (8 * j + i) (has_bucket publics) ≡ passing (8 * j) (has_bucket publics) + passing i (is_set (get_or publics (bitmap_at publics + j) 0))
unfolding passing has_bucket
bits_of_byte publics j zero le =
    let place : 8 * j + 0 ≡ 8 * j = omega arith in
    let same = ap (λ (k : ℕ). passing k (has_bucket publics)) place in
    omega (arith, same)
bits_of_byte publics j (suc i) le =
    let place : 8 * j + suc i ≡ suc (8 * j + i) = omega arith in
    let byte : (8 * j + i) / 8 ≡ j = omega (arith, le) in
    let bit : (8 * j + i) % 8 ≡ i = omega (arith, le) in
    let rest = bits_of_byte publics j i (omega (arith, le)) in
    let here : has_bucket publics (8 * j + i) ≡ is_set (get_or publics (bitmap_at publics + j) 0) i =
    ap (λ (k : ℕ). is_set (get_or publics (bitmap_at publics + k) 0) ((8 * j + i) % 8)) byte ∙ ap (is_set (get_or publics (bitmap_at publics + j) 0)) bit in
    let one = ap indicator here in
    let all : passing (8 * j + suc i) (has_bucket publics) ≡ passing (8 * j + i) (has_bucket publics) + indicator (has_bucket publics (8 * j + i)) = ap (λ (k : ℕ). passing k (has_bucket publics)) place in
    omega (arith, all, one, rest)

-- a byte more is counted
pub byte_counted : (publics : List ℕ) (start j i n bits count byte set : ℕ) → start ≡ bitmap_at publics → count ≡ passing (8 * j) (has_bucket publics) → byte ≡ get_or publics (start + j) 0 → i ≤ 8 → set ≡ passing i (is_set byte) → n ≡ 8 * j + i → count + set ≡ passing n (has_bucket publics)
byte_counted publics start j i n bits count byte set is_start is_count is_byte le is_set_count is_n =
    let at : byte ≡ get_or publics (bitmap_at publics + j) 0 = is_byte ∙ ap (λ (k : ℕ). get_or publics (k + j) 0) is_start in
    let here : set ≡ passing i (is_set (get_or publics (bitmap_at publics + j) 0)) = is_set_count ∙ ap (λ (b : ℕ). passing i (is_set b)) at in
    let all = bits_of_byte publics j i le in
    let whole = ap (λ (k : ℕ). passing k (has_bucket publics)) is_n in
    omega (arith, is_count, here, all, whole)

-- ---- the end of a range

pub no_next : (publics : List ℕ) (number total : ℕ) → total ≡ passing 4128 (has_bucket publics) → total ≤ number + 1 → has_next publics number ≡ false
unfolding has_next
no_next publics number total is le = le-ltb (number + 1) (passing 4128 (has_bucket publics)) (omega (arith, is, le))

pub has_another : (publics : List ℕ) (number total : ℕ) → total ≡ passing 4128 (has_bucket publics) → number + 1 < total → has_next publics number ≡ true
unfolding has_next
has_another publics number total is lt = lt-ltb (number + 1) (passing 4128 (has_bucket publics)) (omega (arith, is, lt))

pub end_last : (publics : List ℕ) (number end : ℕ) → has_next publics number ≡ false → end ≡ records_len publics / 8 → (has_end publics number ≡ true) × (end ≡ end_record publics number)
unfolding has_end end_record
end_last publics number end last is = (rw last refl, is ∙ (rw last refl))

pub end_next : (publics : List ℕ) (number end : ℕ) → has_next publics number ≡ true → true ≡ is_word publics (number + 1) → end ≡ first_record publics (number + 1) → (has_end publics number ≡ true) × (end ≡ end_record publics number)
unfolding has_end end_record
end_next publics number end next there is = (rw next (sym there), is ∙ (rw next refl))

pub end_missing : (publics : List ℕ) (number : ℕ) → has_next publics number ≡ true → false ≡ is_word publics (number + 1) → has_end publics number ≡ false
unfolding has_end
end_missing publics number next missing = rw next (sym missing)

-- ---- the range

pub no_word : (publics : List ℕ) (number : ℕ) → false ≡ is_word publics number → has_range publics number ≡ false
unfolding has_range
no_word publics number missing = rw (sym missing) refl

pub no_end : (publics : List ℕ) (number : ℕ) → has_end publics number ≡ false → has_range publics number ≡ false
unfolding has_range
no_end publics number missing = rw (missing, and-false (is_word publics number)) refl

pub descends : (publics : List ℕ) (number first end : ℕ) → first ≡ first_record publics number → end ≡ end_record publics number → end < first → has_range publics number ≡ false
unfolding has_range
descends publics number first end is_first is_end lt =
    rw (lt-leb (first_record publics number) (end_record publics number) (omega (arith, is_first, is_end, lt))) (and-false (is_word publics number && has_end publics number))

pub leaves : (publics : List ℕ) (number end len : ℕ) → end ≡ end_record publics number → len ≡ records_len publics → len < 8 * end → has_range publics number ≡ false
unfolding has_range
leaves publics number end len is_end is_len lt =
    rw (lt-leb (8 * end_record publics number) (records_len publics) (omega (arith, is_end, is_len, lt)), and-false (leb (first_record publics number) (end_record publics number))) (and-false (is_word publics number && has_end publics number))

pub range_is : (publics : List ℕ) (number first end len : ℕ) → true ≡ is_word publics number → has_end publics number ≡ true → first ≡ first_record publics number → end ≡ end_record publics number → len ≡ records_len publics → first ≤ end → 8 * end ≤ len → IsRange publics number (first, end)
unfolding has_range
range_is publics number first end len word there is_first is_end is_len le within = record {
  there = rw (sym word, there, le-leb (first_record publics number) (end_record publics number) (omega (arith, is_first, is_end, le)), le-leb (8 * end_record publics number) (records_len publics) (omega (arith, is_end, is_len, within))) refl;
  first = is_first;
  end = is_end;
  ascends = le;
  within = omega (arith, is_len, within);
}

-- a bit more is counted
pub bit_counted : (n count one : ℕ) (b : Bool) (test : ℕ → Bool) → count ≡ passing n test → b ≡ test n → one ≡ bool_byte b → (count + one ≡ passing (n + 1) test) × (one ≤ 1)
bit_counted n count one true test is set made =
    let more = passing_more n test in
    let here : cond (test n) 1 0 ≡ 1 = ap indicator (sym set) in
    (omega (arith, is, more, here, made), omega (arith, made))
bit_counted n count one false test is set made =
    let more = passing_more n test in
    let here : cond (test n) 1 0 ≡ 0 = ap indicator (sym set) in
    (omega (arith, is, more, here, made), omega (arith, made))
