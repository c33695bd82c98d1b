use Rattle.link_files.specs.Outside.{files_of}
use Rattle.link_words.specs.Outcome.{options_said}
use Rattle.lib_search.specs.LoadingSteps.{state_now}
use Rattle.lib_search.proofs.GoneLemmas.{GoneOn, left_to_do}
use Rattle.lib_search.proofs.link_list.search.Given as goal

abbrev pub invariant-loop-loading : goal.invariant-loop-loading
invariant-loop-loading g l =
    GoneOn (options_said l.fn.options) (state_now l.fn.loading l.fn.inputs)
    (files_of g.F.Files.store g.F.Files.read_faults g.F.Files.write_faults l.fn.files)
    (files_of g.F.Files.store g.F.Files.read_faults g.F.Files.write_faults l.files)
    l.loading l.inputs

abbrev pub decreases-loop-loading : goal.decreases-loop-loading
decreases-loop-loading g l = left_to_do l.loading
