use Rattle.std.proofs.Common.{◌≡◌, take}
use Rattle.lib_search.specs.OpenedFiles.{jobs_among}
use Rattle.lib_search.proofs.opened_files.jobs_among.Given as goal

abbrev pub invariant-loop-file : goal.invariant-loop-file
invariant-loop-file l = l.jobs.items ≡ jobs_among (take l.file-index l.files)
