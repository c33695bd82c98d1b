-- Bytes that are put over others in one of two lists that are joined.
use Rattle.std.proofs.Common.{◌≡◌, ℕ, ◌+◌, ◌≤◌, List, ◌++◌, length, take, drop, ap, ◌∙◌, length-drop, arith}
use Rattle.std.proofs.Math.Nat.{add_assoc}
use Rattle.std.proofs.lemmas.List.{append_assoc, take-append-le, drop-append-le}
use Rattle.std.proofs.Math.Seq.{take-append-add, drop-append-add}
use Rattle.link_base.specs.Bytes.{bytes_at}
use Rattle.par_patch.specs.PatchedJobs.{put_over}

-- ---- in the first of them

pub put_in_front : (place : ℕ) (part xs ys : List ℕ) → place + length part ≤ length xs → put_over place part (xs ++ ys) ≡ put_over place part xs ++ ys
put_in_front place part xs ys within =
    let before : place ≤ length xs = omega arith in
    rw (take-append-le place xs ys before, drop-append-le (place + length part) xs ys within) (simp append_assoc)

pub bytes_in_front : (place count : ℕ) (xs ys : List ℕ) → place + count ≤ length xs → bytes_at (xs ++ ys) place count ≡ bytes_at xs place count
bytes_in_front place count xs ys within =
    let before : place ≤ length xs = omega arith in
    ap (take count) (drop-append-le place xs ys before) ∙ take-append-le count (drop place xs) ys (omega (arith, length-drop place xs))

-- ---- in the second

pub put_behind : (place : ℕ) (part xs ys : List ℕ) → put_over (length xs + place) part (xs ++ ys) ≡ xs ++ put_over place part ys
put_behind place part xs ys =
    rw (take-append-add xs ys place, add_assoc (length xs) place (length part), drop-append-add xs ys (place + length part)) (simp append_assoc)

pub bytes_behind : (place count : ℕ) (xs ys : List ℕ) → bytes_at (xs ++ ys) (length xs + place) count ≡ bytes_at ys place count
bytes_behind place count xs ys = ap (take count) (drop-append-add xs ys place)
