-- What is opened for the modules among the inputs, and which answer each file has. Own.
use Rattle.std.specs.Prelude.{◌≡◌, Bool, true, false, List, length, map, filter, Option, Some, None}
use Rattle.std.specs.Vec.Iter.{into_iter_items, into_iter_len}
use Rattle.std.specs.declared.vec.IntoIter.{IntoIter}
use Rattle.file_search.specs.declared.found.FoundFile.{FoundFile as Found}
use Rattle.file_search.specs.Reading.{file_found}
use Rattle.par_read.specs.Opened.{Answer, IsOpenedAs, AreOpenedAs}
use Rattle.par_read.specs.declared.job.Job.{Job}
use Rattle.lib_search.specs.Inputs.{is_module}

-- a file that is a module is opened under its name, as no member
abbrev pub job_of : Found → Job
job_of file = record { origin = record { file = file.file; member = None }; bytes = file.bytes }

abbrev pub opens_as_module : Found → Bool
opens_as_module file = is_module (file_found file)

-- what is opened for the modules among files, in their order
abbrev pub jobs_among : List Found → List Job
jobs_among files = map job_of (filter opens_as_module files)

-- a module has the answer of its opening, and no other file has one
abbrev pub AnswersFile : Found → Option Answer → Type 0
AnswersFile file (Some answer) = (opens_as_module file ≡ true) × IsOpenedAs (job_of file) answer
AnswersFile file None = opens_as_module file ≡ false

module _ {Z : Type 0} where
  -- the answers of the modules among files are still to come, in the files' order
  pub record HoldsAnswers (files : List Found) (answers : IntoIter Answer Z) : Type 0 where
    pub len : into_iter_len answers ≡ length (jobs_among files)
    pub opened : AreOpenedAs (jobs_among files) (into_iter_items answers)
