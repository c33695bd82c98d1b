-- Where the jobs of parts begin, and the jobs of neighbouring parts together.
use Rattle.std.proofs.Common.{◌≡◌, ℕ, ◌+◌, ◌-◌, ◌*◌, ◌/◌, ◌<◌, ◌≤◌, List, ◌++◌, length, take, drop, ap, ap₂, ◌∙◌, arith}
use Rattle.std.specs.Prelude.{slice_range}
use Rattle.std.proofs.Math.Nat.{zero-mul, zero-div, mul-div_cancel_left, div-mul-le_self, le-div_iff_mul-le, mul-le-mul_right}
use Rattle.std.proofs.Math.Seq.{take-add}
use Rattle.std.proofs.lemmas.List.{drop-drop, take_all}
use Rattle.par_read.specs.Parts.{part_begin, jobs_between}

-- the first part begins with the first job
pub begins_first : (jobs parts : ℕ) → part_begin jobs parts 0 ≡ 0
unfolding part_begin
begins_first jobs parts = ap (λ n. n / parts) (zero-mul jobs) ∙ zero-div parts

-- what would follow the last part begins behind the last job
pub begins_last : (jobs parts : ℕ) → 0 < parts → part_begin jobs parts parts ≡ jobs
unfolding part_begin
begins_last jobs parts some = mul-div_cancel_left jobs some

-- no part begins before an earlier one
pub begins_behind : (jobs parts first next : ℕ) → 0 < parts → first ≤ next → part_begin jobs parts first ≤ part_begin jobs parts next
unfolding part_begin
begins_behind jobs parts first next some order =
    let low : first * jobs / parts * parts ≤ first * jobs = div-mul-le_self (first * jobs) parts in
    let high : first * jobs ≤ next * jobs = mul-le-mul_right jobs order in
    (le-div_iff_mul-le some).1 (omega (arith, low, high))

-- neighbouring ranges are one
range_joined : {X : Type 0} (xs : List X) (a b c : ℕ) → a ≤ b → b ≤ c → slice_range xs a c ≡ slice_range xs a b ++ slice_range xs b c
range_joined xs a b c low high =
    let whole : c - a ≡ (b - a) + (c - b) = omega (arith, low, high) in
    let seam : a + (b - a) ≡ b = omega (arith, low) in
    ap (λ n. take n (drop a xs)) whole
    ∙ (take-add (b - a) (c - b) (drop a xs)
    ∙ ap (λ ys. take (b - a) (drop a xs) ++ take (c - b) ys) (drop-drop (b - a) a xs ∙ ap (λ n. drop n xs) seam))

-- all parts have all jobs
pub all_parts : {X : Type 0} (parts : ℕ) (jobs : List X) → 0 < parts → jobs_between parts 0 parts jobs ≡ jobs
all_parts parts jobs some =
    ap₂ (slice_range jobs) (begins_first (length jobs) parts) (begins_last (length jobs) parts some)
    ∙ take_all (length jobs - 0) jobs (omega arith)

-- parts up to another and those from it on have the jobs of both
pub parts_joined : {X : Type 0} (parts first middle end : ℕ) (jobs : List X) → 0 < parts → first ≤ middle → middle ≤ end → jobs_between parts first end jobs ≡ jobs_between parts first middle jobs ++ jobs_between parts middle end jobs
parts_joined parts first middle end jobs some low high =
    range_joined jobs (part_begin (length jobs) parts first) (part_begin (length jobs) parts middle) (part_begin (length jobs) parts end) (begins_behind (length jobs) parts first middle some low) (begins_behind (length jobs) parts middle end some high)
