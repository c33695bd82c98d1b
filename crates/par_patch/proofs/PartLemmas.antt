-- Jobs that are dealt to parts.
use Rattle.std.proofs.Common.{ℕ, ◌*◌, ◌/◌, ◌<◌, ◌≤◌, arith}
use Rattle.std.proofs.lemmas.Nat.{mul-le, le-div, div-add-mod'}
use Rattle.par_patch.specs.declared.parts.Parts.{Parts}
use Rattle.par_patch.specs.Parts.{AreParts, AreHalves, first_job}

-- a later part has no earlier job
pub first_job-le : (part later parts jobs : ℕ) → 0 < parts → part ≤ later → first_job part parts jobs ≤ first_job later parts jobs
first_job-le part later parts jobs some le =
    le-div (part * jobs / parts) (later * jobs) parts some (omega (arith, div-add-mod' (part * jobs) parts, mul-le part jobs later jobs le (omega arith)))

-- parts that are cut in two
pub halved : (whole : Parts) (middle : ℕ) → AreParts whole → whole.first < middle → middle < whole.end → AreHalves whole (record whole { end = middle }) (record whole { first = middle })
halved whole middle are above below =
    let some : 0 < whole.all_parts = omega (arith, are.among) in
    let front = first_job-le whole.first middle whole.all_parts whole.all_jobs some (omega arith) in
    let back = first_job-le middle whole.end whole.all_parts whole.all_jobs some (omega arith) in
    record {
      front_parts = record { some = above; among = omega (arith, are.among); few = are.few };
      back_parts = record { some = below; among = are.among; few = are.few };
      front_shorter = omega arith;
      back_shorter = omega arith;
      jobs = omega arith;
    }
