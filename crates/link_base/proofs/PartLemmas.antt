-- Parts of a list of bytes, and the numbers that stand there.
use Rattle.std.proofs.Common.{◌≡◌, ℕ, ◌+◌, ◌-◌, ◌*◌, ◌^◌, ◌<◌, ◌≤◌, List, [], ◌∷◌, ◌++◌, length, take, drop, length-append, length-drop, refl, sym, ap, ◌∙◌, arith}
use Rattle.std.specs.List.{flat_map}
use Rattle.std.proofs.lemmas.List.{length-take, take-take, drop-drop, drop-take}
use Rattle.link_base.specs.Bytes.{bytes_at, number_at, number_bytes}
use Rattle.link_base.proofs.CallerLemmas.{number_at-drop, number_at-number_bytes, length-number_bytes}

-- a part that fits is as long as it is asked for
pub length_part : (file : List ℕ) (offset count : ℕ) → offset + count ≤ length file → length (bytes_at file offset count) ≡ count
length_part file offset count fits =
    let rest = length-drop offset file in
    let cut = length-take count (drop offset file) in
    omega (arith, cut, rest, fits)

-- a part of a part
pub part_of_part : (bytes : List ℕ) (start size offset count : ℕ) → offset + count ≤ size → bytes_at (bytes_at bytes start size) offset count ≡ bytes_at bytes (start + offset) count
part_of_part bytes start size offset count fits =
    let rest = drop start bytes in
    let whole : size ≡ offset + (size - offset) = omega arith in
    ap (λ (n : ℕ). take count (drop offset (take n rest))) whole
    ∙ ap (take count) (drop-take offset (size - offset) rest)
    ∙ take-take count (size - offset) (drop offset rest) (omega arith)
    ∙ ap (take count) (drop-drop offset start bytes)

-- the number whose bytes stand at an offset
pub number_there : (width number offset : ℕ) (bytes rest : List ℕ) → drop offset bytes ≡ number_bytes width number ++ rest → number < 256 ^ width → number_at width bytes offset ≡ number
number_there width number offset bytes rest is fits =
    let same : offset ≡ offset + 0 = omega arith in
    ap (number_at width bytes) same ∙ sym (number_at-drop width offset 0 bytes) ∙ ap (λ (xs : List ℕ). number_at width xs 0) is ∙ number_at-number_bytes width number rest fits

-- the bytes of numbers of four
pub numbers_len : (numbers : List ℕ) → length (flat_map (number_bytes 4) numbers) ≡ 4 * length numbers
numbers_len [] = refl
numbers_len (n ∷ numbers) =
    omega (arith, length-append (number_bytes 4 n) (flat_map (number_bytes 4) numbers), length-number_bytes 4 n, numbers_len numbers)
