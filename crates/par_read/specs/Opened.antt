-- What opening a file as a module gives, and the answers for several files. Own.
use Rattle.std.specs.Prelude.{◌≡◌, ℕ, ◌<◌, List, length, slice_index_or, Result, Ok, Err, None}
use Rattle.module_view.specs.declared.error.ModuleError.{ModuleError}
use Rattle.module_view.specs.Module.{ModuleView}
use Rattle.module_view.specs.ModuleParts.{view_of}
use Rattle.module_view.specs.Opening.{file_error, RefusesToOpen}
use Rattle.par_read.specs.declared.job.Job.{Job}

-- a module, or why there is none
abbrev pub Answer : Type 0
Answer = Result ModuleView ModuleError

-- the module of the job's file, where nothing refuses its bytes; or what refuses them, or want of memory
abbrev pub IsOpenedAs : Job → Answer → Type 0
IsOpenedAs job (Ok opened) = (opened ≡ view_of job.origin job.bytes.now) × (file_error job.bytes.now ≡ None)
IsOpenedAs job (Err error) = RefusesToOpen (file_error job.bytes.now) error

-- as many answers as jobs, and in their order each is what opening the job's file gives
pub record AreOpenedAs (jobs : List Job) (answers : List Answer) : Type 0 where
  pub len : length answers ≡ length jobs
  pub each : (k : ℕ) (job : Job) (answer : Answer) → k < length jobs → IsOpenedAs (slice_index_or jobs k job) (slice_index_or answers k answer)
