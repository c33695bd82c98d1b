use Rattle.std.proofs.Common.{◌<◌, length, arith}
use Rattle.link_words.specs.SettingsView.{text_of}
use Rattle.file_search.proofs.NotedLemmas.{notes_text}
use Rattle.file_search.proofs.default_libraries.note_inputs.Goals as goal

pub loop-input-preserved : goal.loop-input-preserved
loop-input-preserved c =
    let inputs = c.args.inputs.now in
    let lt : c.loop-input.input-index < length inputs = omega arith in
    notes_text text_of inputs c.loop-input.input-index _ c.args.seen.now c.loop-input.seen c.insert.new.self c.in_ok-to_ascii_lowercase.field-0 lt c.in_ok-to_ascii_lowercase.ensures.ok c.in_ok-insert.ensures.updates c.loop-input.invariant
