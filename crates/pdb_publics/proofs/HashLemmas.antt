-- The mixed bytes of a text, four at a time, and of a name with the import prefix.
use Rattle.std.proofs.Common.{◌≡◌, ℕ, ◌+◌, ◌*◌, ◌<◌, ◌≤◌, true, false, eqb, List, [], ◌∷◌, ◌++◌, length, get_or, take, drop, bit_xor, refl, sym, ap, ◌∙◌, arith}
use Rattle.std.specs.Int.Bits.{xor_assoc}
use Rattle.std.proofs.lemmas.Bool.{true≢false}
use Rattle.std.proofs.lemmas.List.{take-append-drop}
use Rattle.std.specs.Cmp.Lexicographic.{bytes_decides}
use Rattle.link_base.specs.Bytes.{number_at}
use Rattle.link_base.specs.NameText.{import_prefix, begins_import, behind_import}
use Rattle.pdb_publics.specs.NameHash.{mix}

pub mix_none : (xs : List ℕ) → length xs ≡ 0 → 0 ≡ mix xs
unfolding mix
mix_none [] e = refl
mix_none (a ∷ xs) e = absurd (omega (arith, e))

pub mix_one : (xs : List ℕ) → length xs ≡ 1 → get_or xs 0 0 ≡ mix xs
unfolding mix
mix_one [] e = absurd (omega (arith, e))
mix_one (a ∷ []) e = refl
mix_one (a ∷ b ∷ xs) e = absurd (omega (arith, e))

pub mix_two : (xs : List ℕ) → length xs ≡ 2 → number_at 2 xs 0 ≡ mix xs
unfolding mix number_at
mix_two [] e = absurd (omega (arith, e))
mix_two (a ∷ []) e = absurd (omega (arith, e))
mix_two (a ∷ b ∷ []) e = omega arith
mix_two (a ∷ b ∷ c ∷ xs) e = absurd (omega (arith, e))

pub mix_three : (xs : List ℕ) → length xs ≡ 3 → bit_xor (number_at 2 xs 0) (get_or xs 2 0) ≡ mix xs
unfolding mix number_at
mix_three [] e = absurd (omega (arith, e))
mix_three (a ∷ []) e = absurd (omega (arith, e))
mix_three (a ∷ b ∷ []) e = absurd (omega (arith, e))
mix_three (a ∷ b ∷ c ∷ []) e = let pair : a + 256 * (b + 256 * 0) ≡ a + 256 * b = omega arith in ap (λ (n : ℕ). bit_xor n c) pair
mix_three (a ∷ b ∷ c ∷ d ∷ xs) e = absurd (omega (arith, e))

pub mix_four : (xs : List ℕ) → 4 ≤ length xs → bit_xor (number_at 4 xs 0) (mix (drop 4 xs)) ≡ mix xs
unfolding mix number_at
mix_four [] le = absurd (omega (arith, le))
mix_four (a ∷ []) le = absurd (omega (arith, le))
mix_four (a ∷ b ∷ []) le = absurd (omega (arith, le))
mix_four (a ∷ b ∷ c ∷ []) le = absurd (omega (arith, le))
mix_four (a ∷ b ∷ c ∷ d ∷ xs) le =
    let word : a + 256 * (b + 256 * (c + 256 * (d + 256 * 0))) ≡ a + 256 * (b + 256 * (c + 256 * d)) = omega arith in
    ap (λ (n : ℕ). bit_xor n (mix xs)) word

pub not_empty : (xs : List ℕ) → eqb (length xs) 0 ≡ false → 0 < length xs
not_empty [] e = absurd (true≢false e)
not_empty (x ∷ xs) e = omega arith

-- four bytes more are mixed
pub mixed_step : (text rest others : List ℕ) (mixed word : ℕ) → bit_xor mixed (mix rest) ≡ mix text → 4 ≤ length rest → word ≡ number_at 4 rest 0 → others ≡ drop 4 rest → bit_xor (bit_xor mixed word) (mix others) ≡ mix text
mixed_step text rest others mixed word so_far le is back =
    xor_assoc mixed word (mix others)
    ∙ ap (λ (n : ℕ). bit_xor mixed (bit_xor n (mix others))) is
    ∙ ap (λ (xs : List ℕ). bit_xor mixed (bit_xor (number_at 4 rest 0) (mix xs))) back
    ∙ ap (bit_xor mixed) (mix_four rest le)
    ∙ so_far

-- ---- behind the import prefix

pub import_short : (xs : List ℕ) → length xs < 2 → bit_xor 1835622239 (bit_xor 24432 (mix xs)) ≡ mix (import_prefix ++ xs)
unfolding mix
import_short [] lt = refl
import_short (a ∷ []) lt = refl
import_short (a ∷ b ∷ xs) lt = absurd (omega (arith, lt))

pub import_long : (xs : List ℕ) → 2 ≤ length xs → bit_xor 1835622239 (bit_xor (24432 + 65536 * number_at 2 xs 0) (mix (drop 2 xs))) ≡ mix (import_prefix ++ xs)
unfolding mix number_at
import_long [] le = absurd (omega (arith, le))
import_long (a ∷ []) le = absurd (omega (arith, le))
import_long (a ∷ b ∷ xs) le =
    let word : 24432 + 65536 * (a + 256 * (b + 256 * 0)) ≡ 112 + 256 * (95 + 256 * (a + 256 * b)) = omega arith in
    ap (λ (n : ℕ). bit_xor 1835622239 (bit_xor n (mix xs))) word

-- a name that begins with the prefix is the prefix and what is behind it
pub whole_import : (name : List ℕ) → begins_import name ≡ true → import_prefix ++ behind_import name ≡ name
whole_import name e =
    let same : take 6 name ≡ import_prefix = (bytes_decides (take 6 name) import_prefix).0 e in
    rw e (ap (λ (xs : List ℕ). xs ++ drop 6 name) (sym same) ∙ take-append-drop 6 name)

pub whole_other : (name : List ℕ) → begins_import name ≡ false → behind_import name ≡ name
whole_other name e = rw e refl
