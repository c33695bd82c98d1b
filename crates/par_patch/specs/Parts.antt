-- How jobs are dealt to parts: what the steps of the code promise one another. Own.
use Rattle.std.specs.Prelude.{◌≡◌, ℕ, ◌+◌, ◌-◌, ◌*◌, ◌/◌, ◌<◌, ◌≤◌}
use Rattle.par_patch.specs.declared.parts.Parts.{Parts}

-- the first job of a part, of all parts and all jobs
abbrev pub first_job : ℕ → ℕ → ℕ → ℕ
first_job part all_parts all_jobs = part * all_jobs / all_parts

-- how many jobs are dealt to parts in a row
abbrev pub jobs_of : Parts → ℕ
jobs_of parts = first_job parts.end parts.all_parts parts.all_jobs - first_job parts.first parts.all_parts parts.all_jobs

-- there is one at least, and they are among all, which are few
pub record AreParts (parts : Parts) : Type 0 where
  pub some : parts.first < parts.end
  pub among : parts.end ≤ parts.all_parts
  pub few : parts.all_parts ≤ 64

-- parts in a row are cut in two, and their jobs with them
pub record AreHalves (whole front back : Parts) : Type 0 where
  pub front_parts : AreParts front
  pub back_parts : AreParts back
  pub front_shorter : front.end - front.first < whole.end - whole.first
  pub back_shorter : back.end - back.first < whole.end - whole.first
  pub jobs : jobs_of whole ≡ jobs_of front + jobs_of back
