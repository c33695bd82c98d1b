use Rattle.std.proofs.Common.{◌<◌, length, ap, sym, subst, arith, Global, List, ◌+◌}
use Rattle.link_files.specs.Outside.{files_of}
use Rattle.link_words.specs.SettingsView.{text_of, texts_of}
use Rattle.link_words.specs.Outcome.{options_said}
use Rattle.file_search.specs.FoundFiles.{FoundFile}
use Rattle.file_search.specs.Reading.{file_found, files_found}
use Rattle.file_search.proofs.ReadLemmas.{ReadSoFar, none_read, read_more, reading_stops, all_read, found_more}
use Rattle.file_search.proofs.read.read_inputs.Goals as goal

pub loop-name-init : goal.loop-name-init
loop-name-init g c =
    none_read (options_said c.args.options.now) c.args.inputs.now (files_of g.F.Files.store g.F.Files.read_faults g.F.Files.write_faults c.args.files.now) _ c.requires.none_read (ap files_found c.new-all.ensures.items)

pub returns-in-Err : goal.returns-in-Err
returns-in-Err g c =
    let items = c.deref-name-items.result.now in
    let lt : c.loop-name.name-index < length items = omega arith in
    let before = files_of g.F.Files.store g.F.Files.read_faults g.F.Files.write_faults c.args.files.now in
    let after = files_of g.F.Files.store g.F.Files.read_faults g.F.Files.write_faults c.loop-name.files in
    let later = files_of g.F.Files.store g.F.Files.read_faults g.F.Files.write_faults c.find_file.new.files in
    reading_stops Global text_of items _ (options_said c.args.options.now) (texts_of c.deref.result.now) c.loop-name.name-index c.loop-name.inputs c.find_file.new.inputs before after later (files_found c.loop-name.all.items) c.in-Err.stop (ap texts_of c.deref-name-items.ensures.value) (ap texts_of c.deref.ensures.value) lt c.loop-name.invariant c.in-Err.ensures

pub loop-name-preserved : goal.loop-name-preserved
loop-name-preserved g c =
    let options = options_said c.args.options.now in
    let items = c.deref-name-items.result.now in
    let index = c.loop-name.name-index in
    let lt : index < length items = omega arith in
    let before = files_of g.F.Files.store g.F.Files.read_faults g.F.Files.write_faults c.args.files.now in
    let after = files_of g.F.Files.store g.F.Files.read_faults g.F.Files.write_faults c.loop-name.files in
    let later = files_of g.F.Files.store g.F.Files.read_faults g.F.Files.write_faults c.find_file.new.files in
    let pushed = found_more c.loop-name.all.items c.push.new.self.items c.in-Ok.found c.in-Ok-push.ensures.items in
    subst (λ (all : List FoundFile). ReadSoFar options (index + 1) c.find_file.new.inputs before later all) (sym pushed)
    (read_more text_of items _ options (texts_of c.deref.result.now) index c.loop-name.inputs c.find_file.new.inputs before after later (files_found c.loop-name.all.items) (file_found c.in-Ok.found) (ap texts_of c.deref-name-items.ensures.value) (ap texts_of c.deref.ensures.value) lt c.loop-name.invariant c.in-Ok.ensures)

pub returns : goal.returns
returns g c =
    all_read text_of c.deref-name-items.result.now (options_said c.args.options.now) c.loop-name.name-index c.loop-name.inputs
    (files_of g.F.Files.store g.F.Files.read_faults g.F.Files.write_faults c.args.files.now)
    (files_of g.F.Files.store g.F.Files.read_faults g.F.Files.write_faults c.loop-name.files)
    (files_found c.loop-name.all.items) (ap texts_of c.deref-name-items.ensures.value) c.loop-name.auto.name-index-end c.loop-name-test.false c.loop-name.invariant
