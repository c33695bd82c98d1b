use Rattle.std.proofs.Common.{◌<◌, length, arith}
use Rattle.link_words.specs.SettingsView.{text_of}
use Rattle.file_search.specs.FileNames.{completed}
use Rattle.file_search.proofs.NotedLemmas.{notes_name}
use Rattle.file_search.proofs.default_libraries.note_completed.Goals as goal

pub loop-name-preserved : goal.loop-name-preserved
loop-name-preserved c =
    let names = c.args.names.now in
    let lt : c.loop-name.name-index < length names = omega arith in
    notes_name completed text_of names c.loop-name.name-index _ c.args.seen.now c.loop-name.seen c.insert.new.self c.in_ok-complete_key.field-0 lt c.in_ok-complete_key.ensures c.in_ok-insert.ensures.updates c.loop-name.invariant
