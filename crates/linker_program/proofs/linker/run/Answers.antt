use Rattle.std.proofs.Common.{map, string_bytes}
use Rattle.link_files.specs.Outside.{files_of, printed_by}
use Rattle.linker_program.proofs.RunLemmas.{owed}
use Rattle.linker_program.proofs.linker.run.Goals as goal

pub returns-clause-owed : goal.returns-clause-owed
returns-clause-owed g c =
    owed (map string_bytes c.args.words.now)
    (files_of g.F.Files.store g.F.Files.read_faults g.F.Files.write_faults c.args.files.now)
    (files_of g.F.Files.store g.F.Files.read_faults g.F.Files.write_faults c.status_of.new.files)
    (printed_by g.O.Sink.taken g.O.Sink.faults c.args.out.now)
    (printed_by g.O.Sink.taken g.O.Sink.faults c.status_of.new.out)
    c.code.result
    (record { status = c.status_of.result; code_is = c.code.ensures; ran = c.status_of.ensures })
