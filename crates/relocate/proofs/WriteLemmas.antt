-- One field written over the bytes of a section.
use Rattle.std.proofs.Common.{◌≡◌, ◌≢◌, ℕ, ◌+◌, ◌-◌, ◌*◌, ◌^◌, ◌<◌, ◌≤◌, ℤ, pos, negsuc, List, ◌++◌, length, take, drop, slice_index, Bool, true, false, cond, eqb, nat_le, refl, sym, ap, ◌∙◌, arith}
use Rattle.std.proofs.lemmas.Bool.{ne_eqb}
use Rattle.std.proofs.lemmas.List.{get_or_append_left, get_or-append_right, length-take-le, drop-drop}
use Rattle.std.proofs.Math.Nat.{mod-lt}
use Rattle.std.specs.Int.{int_rem_euclid}
use Rattle.std.specs.Prelude.{unsigned_abs}
use Rattle.byteorder.specs.Endian.{little_bytes}
use Rattle.link_base.specs.Bytes.{number_at, number_bytes}
use Rattle.link_base.proofs.CallerLemmas.{length-number_bytes}
use Rattle.link_base.proofs.PutLemmas.{put_over, length-put_over, put_before, put_after, number_put}
use Rattle.relocate.specs.declared.fix.Fix.{Fix}
use Rattle.relocate.specs.Field.{field_width, field_end}
use Rattle.relocate.specs.Value.{held}
use Rattle.relocate.specs.Written.{written_over}

-- ---- widths

pub width_section : (kind : ℕ) → kind ≡ 10 → field_width kind ≡ 2
unfolding field_width
width_section kind e = rw e refl

pub width_addr64 : (kind : ℕ) → kind ≡ 1 → field_width kind ≡ 8
unfolding field_width
width_addr64 kind e = rw e refl

pub width_addr32 : (kind : ℕ) → kind ≡ 2 → field_width kind ≡ 4
unfolding field_width
width_addr32 kind e = rw e refl

pub width_addr32nb : (kind : ℕ) → kind ≡ 3 → field_width kind ≡ 4
unfolding field_width
width_addr32nb kind e = rw e refl

pub width_secrel : (kind : ℕ) → kind ≡ 11 → field_width kind ≡ 4
unfolding field_width
width_secrel kind e = rw e refl

four : (a b : Bool) (n : ℕ) → n ≡ cond a 0 (cond b 4 0) → 0 < n → n ≡ 4
four true b n e some = absurd (omega arith)
four false true n e some = e
four false false n e some = absurd (omega arith)

pub width_other : (kind : ℕ) → 0 < field_width kind → kind ≢ 10 → kind ≢ 1 → field_width kind ≡ 4
unfolding field_width
width_other kind some section addr64 =
    let a = ne_eqb kind 10 section in
    let b = ne_eqb kind 1 addr64 in
    four (eqb kind 0) (nat_le kind 11) (field_width kind) (rw (a, b) refl) some

pub width_rel32 : (kind : ℕ) → 0 < field_width kind → 4 ≤ kind → kind ≤ 9 → field_width kind ≡ 4
width_rel32 kind some low high = width_other kind some (λ e. omega arith) (λ e. omega arith)

-- ---- a number in its field

pub written : (bytes front rest new : List ℕ) (fix : Fix) (width number : ℕ) → field_width fix.kind ≡ width → front ≡ take fix.at bytes → rest ≡ drop fix.at bytes → new ≡ little_bytes width number ++ drop width rest → front ++ new ≡ written_over bytes fix number
unfolding number_bytes
written bytes front rest new fix width number w f r n =
    rw (f, n, r, w) (ap (λ (xs : List ℕ). take fix.at bytes ++ (little_bytes width number ++ xs)) (drop-drop width fix.at bytes))

put_inside : (at i : ℕ) (new bytes : List ℕ) → at + length new ≤ length bytes → at ≤ i → i < at + length new → slice_index (put_over at new bytes) i ≡ slice_index new (i - at)
put_inside at i new bytes le low high =
    get_or-append_right (take at bytes) (new ++ drop (at + length new) bytes) at i 0 (length-take-le at bytes (omega arith)) low
    ∙ get_or_append_left new (drop (at + length new) bytes) 0 (i - at) (omega arith)

over_is : (bytes : List ℕ) (fix : Fix) (number : ℕ) → written_over bytes fix number ≡ put_over fix.at (number_bytes (field_width fix.kind) number) bytes
over_is bytes fix number =
    ap (λ (k : ℕ). take fix.at bytes ++ (number_bytes (field_width fix.kind) number ++ drop (fix.at + k) bytes)) (sym (length-number_bytes (field_width fix.kind) number))

room : (bytes : List ℕ) (fix : Fix) (number : ℕ) → field_end fix ≤ length bytes → fix.at + length (number_bytes (field_width fix.kind) number) ≤ length bytes
room bytes fix number le = omega (arith, length-number_bytes (field_width fix.kind) number)

pub length-written : (bytes : List ℕ) (fix : Fix) (number : ℕ) → field_end fix ≤ length bytes → length (written_over bytes fix number) ≡ length bytes
length-written bytes fix number le =
    ap length (over_is bytes fix number) ∙ length-put_over fix.at (number_bytes (field_width fix.kind) number) bytes (room bytes fix number le)

pub written_before : (bytes : List ℕ) (fix : Fix) (number i : ℕ) → field_end fix ≤ length bytes → i < fix.at → slice_index (written_over bytes fix number) i ≡ slice_index bytes i
written_before bytes fix number i le lt =
    ap (λ (xs : List ℕ). slice_index xs i) (over_is bytes fix number) ∙ put_before fix.at i (number_bytes (field_width fix.kind) number) bytes (room bytes fix number le) lt

pub written_behind : (bytes : List ℕ) (fix : Fix) (number i : ℕ) → field_end fix ≤ length bytes → field_end fix ≤ i → slice_index (written_over bytes fix number) i ≡ slice_index bytes i
written_behind bytes fix number i le ge =
    ap (λ (xs : List ℕ). slice_index xs i) (over_is bytes fix number) ∙ put_after fix.at i (number_bytes (field_width fix.kind) number) bytes (room bytes fix number le) (omega (arith, length-number_bytes (field_width fix.kind) number))

pub written_inside : (bytes : List ℕ) (fix : Fix) (number i : ℕ) → field_end fix ≤ length bytes → fix.at ≤ i → i < field_end fix → slice_index (written_over bytes fix number) i ≡ slice_index (number_bytes (field_width fix.kind) number) (i - fix.at)
written_inside bytes fix number i le low high =
    ap (λ (xs : List ℕ). slice_index xs i) (over_is bytes fix number) ∙ put_inside fix.at i (number_bytes (field_width fix.kind) number) bytes (room bytes fix number le) low (omega (arith, length-number_bytes (field_width fix.kind) number))

pub written_there : (bytes : List ℕ) (fix : Fix) (number : ℕ) → field_end fix ≤ length bytes → number < 256 ^ field_width fix.kind → number_at (field_width fix.kind) (written_over bytes fix number) fix.at ≡ number
written_there bytes fix number le small =
    ap (λ (xs : List ℕ). number_at (field_width fix.kind) xs fix.at) (over_is bytes fix number)
    ∙ number_put fix.at (field_width fix.kind) number bytes (room bytes fix number le) small

-- ---- the number of a value fits its field

below_modulus : (n : ℕ) (value : ℤ) → 0 < n → unsigned_abs (int_rem_euclid value (pos n)) < n
below_modulus n (pos a) some = mod-lt a some
below_modulus n (negsuc a) some = omega (arith, mod-lt a some)

held_of : (width : ℕ) (value : ℤ) → 0 < 2 ^ (8 * width) → held width value < 2 ^ (8 * width)
unfolding held
held_of width value some = below_modulus (2 ^ (8 * width)) value some

held_by : (a b c d : Bool) (value : ℤ) → held (cond a 0 (cond b 8 (cond c 2 (cond d 4 0)))) value < 256 ^ cond a 0 (cond b 8 (cond c 2 (cond d 4 0)))
held_by true b c d value = held_of 0 value (omega arith)
held_by false true c d value = held_of 8 value (omega arith)
held_by false false true d value = held_of 2 value (omega arith)
held_by false false false true value = held_of 4 value (omega arith)
held_by false false false false value = held_of 0 value (omega arith)

pub held_fits : (kind : ℕ) (value : ℤ) → held (field_width kind) value < 256 ^ field_width kind
unfolding field_width
held_fits kind value = held_by (eqb kind 0) (eqb kind 1) (eqb kind 10) (nat_le kind 11) value
