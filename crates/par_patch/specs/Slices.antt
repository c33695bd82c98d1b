-- Jobs that are patched in a slice of an image, which begins at an offset of it: what the steps of the code promise one
-- another. Own.
use Rattle.std.specs.Prelude.{◌≡◌, ℕ, ◌+◌, ◌-◌, ◌^◌, ◌<◌, ◌≤◌, Bool, ◌&&◌, ◌||◌, ◌==◌, nat_lt, if◌then◌else◌, List, [], ◌∷◌, length, map, Result, Ok, Err, OnOk}
use Rattle.std.specs.List.{All, AllPairs}
use Rattle.address_layout.specs.declared.layout.Layout.{Layout}
use Rattle.par_patch.specs.declared.job.Job.{Job}
use Rattle.par_patch.specs.declared.job.JobRange.{JobRange}
use Rattle.par_patch.specs.PatchedJobs.{IsReady, EndsBefore, FieldsFit, patched_jobs}
use Rattle.par_patch.specs.LeastRange.{IsRangeOf, IsLeastRange}

-- ---- jobs of a slice

-- a job whose place counts from an offset on
abbrev pub shifted : ℕ → Job → Job
shifted offset job = record job { start = job.start - offset }

-- the piece of a job lies in a slice that begins at an offset and has so many bytes
pub record IsJobIn (offset len : ℕ) (job : Job) : Type 0 where
  pub above : offset ≤ job.start
  pub within : job.start + job.len ≤ offset + len

-- the same of all jobs, which can be patched, and of which each ends before the next begins; the slice ends in 64 bits
pub record AreJobsIn (layout : Layout) (owner : List ℕ) (offset len : ℕ) (jobs : List Job) : Type 0 where
  pub apart : AllPairs EndsBefore jobs
  pub inside : All (IsJobIn offset len) jobs
  pub end : offset + len < 2 ^ 64
  pub ready : All (IsReady layout owner) jobs

-- where the first job begins in the slice, or else the end of the slice
abbrev pub first_start : List Job → ℕ → ℕ → ℕ
first_start [] offset len = len
first_start (job ∷ jobs) offset len = job.start - offset

-- ---- answers

-- a range is of a lesser module than another, or in the same module of a lesser section
abbrev pub comes_first : JobRange → JobRange → Bool
comes_first range other = nat_lt range.module other.module || ((range.module == other.module) && nat_lt range.section other.section)

-- of two answers the lesser range, and of two for the same section the first
abbrev pub least_of : Result Unit JobRange → Result Unit JobRange → Result Unit JobRange
least_of (Ok done) second = second
least_of (Err range) (Ok done) = Err range
least_of (Err range) (Err other) = if comes_first other range then Err other else Err range

-- the answer for one job
abbrev pub IsAnswerOf : ℕ → Layout → List ℕ → Job → List ℕ → Result Unit JobRange → Type 0
IsAnswerOf base layout owner job image (Ok done) = FieldsFit base layout owner image job
IsAnswerOf base layout owner job image (Err range) = IsRangeOf base layout owner image range job

-- the answer for all
abbrev pub IsAnswer : ℕ → Layout → List ℕ → List Job → List ℕ → Result Unit JobRange → Type 0
IsAnswer base layout owner jobs image (Ok done) = All (FieldsFit base layout owner image) jobs
IsAnswer base layout owner jobs image (Err range) = IsLeastRange base layout owner jobs image range

-- a slice at an offset is patched, and the answer is that of its jobs
pub record IsPatchedSlice (base : ℕ) (layout : Layout) (owner : List ℕ) (offset : ℕ) (jobs : List Job) (old new : List ℕ) (answer : Result Unit JobRange) : Type 0 where
  pub len : length new ≡ length old
  pub bytes : OnOk answer (new ≡ patched_jobs base layout owner (map (shifted offset) jobs) old)
  pub answered : IsAnswer base layout owner (map (shifted offset) jobs) old answer
