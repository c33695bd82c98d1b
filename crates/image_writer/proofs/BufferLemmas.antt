-- What a buffer holds after it was resized.
use Rattle.std.proofs.Common.{◌≡◌, ℕ, ◌+◌, ◌-◌, List, ◌++◌, length, take, replicate, ap, ◌∙◌, append_assoc, length-append, arith}
use Rattle.std.proofs.Math.Seq.{take-append-add}
use Rattle.image_writer.specs.HeaderTable.{short_name, padded}

-- a name behind a buffer, cut or filled to eight bytes
pub short_name_after : (old name : List ℕ) (len now : ℕ) → len ≡ length old → now ≡ length (old ++ name) → take (len + 8) (old ++ name) ++ replicate (len + 8 - now) 0 ≡ old ++ short_name name
short_name_after old name len now e f =
    let zeros : len + 8 - now ≡ 8 - length name = omega (arith, length-append old name) in
    rw (e, take-append-add, ← e, zeros) (append_assoc old (take 8 name) (replicate (8 - length name) 0))

-- zeros behind the two parts of the headers, up to their whole length
pub padded_after : (old first second : List ℕ) (total start now : ℕ) → start ≡ length old → now ≡ length ((old ++ first) ++ second) → ((old ++ first) ++ second) ++ replicate (total - (now - start)) 0 ≡ old ++ padded total (first ++ second)
padded_after old first second total start now e f =
    let used : now - start ≡ length (first ++ second) = omega (arith, length-append (old ++ first) second, length-append old first, length-append first second) in
    rw used (ap (λ (xs : List ℕ). xs ++ replicate (total - length (first ++ second)) 0) (append_assoc old first second) ∙ append_assoc old (first ++ second) (replicate (total - length (first ++ second)) 0))
