-- Which jobs a part of a shared work has. Own.
use Rattle.std.specs.Prelude.{ℕ, ◌*◌, ◌/◌, List, length, slice_range}

-- of so many jobs and parts, the job that a part begins with; a part ends where the next one begins
unfoldable pub part_begin : ℕ → ℕ → ℕ → ℕ
part_begin jobs parts part = part * jobs / parts

-- the jobs of the parts from one up to another
abbrev pub jobs_between : {X : Type 0} → ℕ → ℕ → ℕ → List X → List X
jobs_between parts first end jobs = slice_range jobs (part_begin (length jobs) parts first) (part_begin (length jobs) parts end)
