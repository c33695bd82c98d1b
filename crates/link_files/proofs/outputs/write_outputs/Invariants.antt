use Rattle.std.proofs.Common.{map}
use Rattle.link_files.specs.Outside.{files_of}
use Rattle.link_files.specs.Outputs.{named_bytes, FirstWritten}
use Rattle.link_files.proofs.outputs.write_outputs.Given as goal

abbrev pub invariant-loop-index : goal.invariant-loop-index
invariant-loop-index g l =
    FirstWritten (files_of g.F.Files.store g.F.Files.read_faults g.F.Files.write_faults l.initial.files)
    (files_of g.F.Files.store g.F.Files.read_faults g.F.Files.write_faults l.files) (map named_bytes l.outputs) l.index
