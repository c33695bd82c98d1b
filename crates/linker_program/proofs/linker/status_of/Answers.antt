use Rattle.std.proofs.Common.{map, string_bytes}
use Rattle.link_files.specs.Outside.{files_of}
use Rattle.linker_program.proofs.LeftLemmas.{left_by_answer}
use Rattle.linker_program.proofs.linker.status_of.Goals as goal

pub returns-in-Ok : goal.returns-in-Ok
returns-in-Ok g c =
    let before = files_of g.F.Files.store g.F.Files.read_faults g.F.Files.write_faults c.args.files.now in
    let after = files_of g.F.Files.store g.F.Files.read_faults g.F.Files.write_faults c.answer.new.files in
    let put = rw c.in-Err-Memory.field-0-is at c.in-Err-Memory.ensures in
    record {
      files = left_by_answer (map string_bytes c.args.words.now) before after c.in-Ok.answer.status c.in-Ok.answer.line.items c.in-Ok.ensures.answered;
      printed = record { faults = put.none_failed; taken = put.kept };
    }
