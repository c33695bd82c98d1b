use Rattle.std.proofs.Common.{Err, ap, subst, sym, ◌∙◌}
use Rattle.link_base.specs.declared.stop.Stop.{Stop}
use Rattle.file_search.specs.Reading.{file_found}
use Rattle.lib_search.specs.LoadingSteps.{state_now, ReadsDefault}
use Rattle.link_files.specs.Outside.{files_of}
use Rattle.link_words.specs.Outcome.{options_said}
use Rattle.link_words.specs.SettingsView.{texts_of}
use Rattle.lib_search.proofs.LoadingLemmas.{next_named, reads_next, bad_next, stops_next}
use Rattle.lib_search.proofs.loading.read_default.Goals as goal

pub returns-in-Ok-with_default : goal.returns-in-Ok-with_default
returns-in-Ok-with_default g c =
    let options = options_said c.args.options.now in
    let before = files_of g.F.Files.store g.F.Files.read_faults g.F.Files.write_faults c.args.files.now in
    let after = files_of g.F.Files.store g.F.Files.read_faults g.F.Files.write_faults c.find_file.new.files in
    let named = c.name_at-name.ensures ∙ next_named options c.args.loading c.args.inputs.now c.requires.kept in
    reads_next options c.args.loading c.in-Ok-with_default.later c.args.inputs.now c.find_file.new.inputs (texts_of c.deref.result.now) c.name_at-name.result.now before after (file_found c.in-Ok.found)
    c.requires.kept c.requires.wants (ap texts_of c.deref.ensures.value) named c.in-Ok.ensures
    c.in-Ok-with_default.ensures.search c.in-Ok-with_default.ensures.defaults c.in-Ok-with_default.ensures.read c.in-Ok-with_default.ensures.kept c.in-Ok-with_default.ensures.accepted

pub returns-in-Ok : goal.returns-in-Ok
returns-in-Ok g c =
    let options = options_said c.args.options.now in
    let before = files_of g.F.Files.store g.F.Files.read_faults g.F.Files.write_faults c.args.files.now in
    let after = files_of g.F.Files.store g.F.Files.read_faults g.F.Files.write_faults c.find_file.new.files in
    let named = c.name_at-name.ensures ∙ next_named options c.args.loading c.args.inputs.now c.requires.kept in
    let total = c.find_file.new.inputs in
    subst (λ (stop : Stop). ReadsDefault options (state_now c.args.loading c.args.inputs.now) total before after (Err stop)) (sym c.from.ensures)
    (bad_next options c.args.loading c.args.inputs.now total (texts_of c.deref.result.now) c.name_at-name.result.now before after (file_found c.in-Ok.found) c.in-Err-with_default.refusal
    c.requires.wants (ap texts_of c.deref.ensures.value) named c.in-Ok.ensures c.in-Err-with_default.ensures.refused)

pub returns : goal.returns
returns g c =
    let options = options_said c.args.options.now in
    let before = files_of g.F.Files.store g.F.Files.read_faults g.F.Files.write_faults c.args.files.now in
    let after = files_of g.F.Files.store g.F.Files.read_faults g.F.Files.write_faults c.find_file.new.files in
    let named = c.name_at-name.ensures ∙ next_named options c.args.loading c.args.inputs.now c.requires.kept in
    stops_next options c.args.loading c.args.inputs.now c.find_file.new.inputs (texts_of c.deref.result.now) c.name_at-name.result.now before after c.in-Err.stop
    c.requires.wants (ap texts_of c.deref.ensures.value) named c.in-Err.ensures
