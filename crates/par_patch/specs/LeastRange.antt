-- Which of the values that do not fit is told. The order is own.
use Rattle.std.specs.Prelude.{◌≡◌, ◌≢◌, ℕ, ◌<◌, ◌⊎◌, List}
use Rattle.std.specs.List.{All, AllPairs, Contains}
use Rattle.address_layout.specs.declared.layout.Layout.{Layout}
use Rattle.relocate.specs.declared.fix.Fix.{Fix}
use Rattle.relocate.specs.Value.{IsLeastOutside}
use Rattle.par_patch.specs.declared.job.Job.{Job}
use Rattle.par_patch.specs.declared.job.JobRange.{JobRange}
use Rattle.par_patch.specs.PatchedJobs.{rva_of, bytes_of, FieldsFit}

-- a job is of a lesser module than the range, or in the same module of a lesser section
abbrev pub ComesBefore : Job → JobRange → Type 0
ComesBefore job range = (job.module < range.module) ⊎ ((job.module ≡ range.module) × (job.section < range.section))

-- the range is that of a job's module and section, and of its fields whose values do not fit that of the least relocation index
pub record IsRangeOf (base : ℕ) (layout : Layout) (owner image : List ℕ) (range : JobRange) (job : Job) : Type 0 where
  pub module_is : range.module ≡ job.module
  pub section_is : range.section ≡ job.section
  pub outside : IsLeastOutside base (rva_of layout job) layout owner job.fixups.now (bytes_of image job) (record { index = range.index; value = range.value })

-- it is the range of one of the jobs, and the fields of each job before this one, by module and section, all fit
pub record IsLeastRange (base : ℕ) (layout : Layout) (owner : List ℕ) (jobs : List Job) (image : List ℕ) (range : JobRange) : Type 0 where
  pub job : Job
  pub there : Contains jobs job
  pub its : IsRangeOf base layout owner image range job
  pub least : All (λ other. ComesBefore other range → FieldsFit base layout owner image other) jobs

-- ---- where there is only one

-- two jobs are not of the same section of the same module
abbrev pub AreOfTwoSections : Job → Job → Type 0
AreOfTwoSections job other = (job.module ≢ other.module) ⊎ (job.section ≢ other.section)

-- no two fields of a job are of relocations with the same index
abbrev pub HasDistinctIndexes : Job → Type 0
HasDistinctIndexes job = AllPairs (λ (fix other : Fix). fix.index ≢ other.index) job.fixups.now
