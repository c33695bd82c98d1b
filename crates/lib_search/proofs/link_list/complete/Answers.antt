use Rattle.std.proofs.Common.{Global, List, sym, ap, ◌∙◌}
use Rattle.link_files.specs.Outside.{files_of}
use Rattle.link_words.specs.Outcome.{options_said}
use Rattle.file_search.specs.declared.found.FoundFile.{FoundFile as Found}
use Rattle.file_search.specs.Reading.{files_found}
use Rattle.resource_files.specs.Held.{entries_among}
use Rattle.lib_search.specs.Inputs.{opening_fault}
use Rattle.lib_search.specs.Loading.{inputs_state}
use Rattle.lib_search.specs.LoadingSteps.{state_now}
use Rattle.lib_search.proofs.EndLemmas.{short_files, stops_reading, ends_loading}
use Rattle.lib_search.proofs.link_list.complete.Goals as goal

pub start-requires-clause-short : goal.start-requires-clause-short
start-requires-clause-short g c κs within = short_files c.in-Ok.read.items c.deref.result.now c.deref.ensures.value c.in-Ok.ensures.within

pub returns-in-Ok-start : goal.returns-in-Ok-start
returns-in-Ok-start g c =
    let options = options_said c.args.options.now in
    let before = files_of g.F.Files.store g.F.Files.read_faults g.F.Files.write_faults c.args.files.now in
    let after = files_of g.F.Files.store g.F.Files.read_faults g.F.Files.write_faults c.read_inputs.new.files in
    let later = files_of g.F.Files.store g.F.Files.read_faults g.F.Files.write_faults c.search.new.files in
    let total = c.read_inputs.new.inputs in
    ends_loading options total before after later (files_found c.in-Ok.read.items) (state_now c.in-Ok-start.begun.loading c.start.new.inputs) c.in-Ok-start.begun.resources.items c.in-Ok.ensures
    (ap (λ (fs : List Found). opening_fault (files_found fs)) (sym c.deref.ensures.value) ∙ c.in-Ok-start.ensures.accepted)
    (c.in-Ok-start.ensures.state ∙ ap (λ (fs : List Found). inputs_state options (files_found fs) total) c.deref.ensures.value)
    (c.in-Ok-start.ensures.resources ∙ ap (λ (fs : List Found). entries_among (files_found fs)) c.deref.ensures.value)
    c.search.result c.in-Ok-start.ensures.mergeable c.in-Ok-start.ensures.numbered
    c.search.ensures

pub returns-in-Err : goal.returns-in-Err
returns-in-Err g c =
    stops_reading Global (options_said c.args.options.now) c.read_inputs.new.inputs
    (files_of g.F.Files.store g.F.Files.read_faults g.F.Files.write_faults c.args.files.now)
    (files_of g.F.Files.store g.F.Files.read_faults g.F.Files.write_faults c.read_inputs.new.files)
    c.in-Err.stop c.in-Err.ensures
