use Rattle.std.proofs.Common.{arith}
use Rattle.pdb_file.specs.PdbFile.{database}
use Rattle.pdb_file.proofs.SizeLemmas.{streams_fit}
use Rattle.pdb_file.proofs.writing.write_pdb.Goals as goal

pub write_streams-requires-clause-size : goal.write_streams-requires-clause-size
write_streams-requires-clause-size c = (streams_fit (database c.args.parts.now) c.in-Ok.size c.in-Ok.ensures (omega arith)).dbi

pub write_streams-requires-clause-records : goal.write_streams-requires-clause-records
write_streams-requires-clause-records c = (streams_fit (database c.args.parts.now) c.in-Ok.size c.in-Ok.ensures (omega arith)).records

pub write_streams-requires-clause-publics : goal.write_streams-requires-clause-publics
write_streams-requires-clause-publics c = (streams_fit (database c.args.parts.now) c.in-Ok.size c.in-Ok.ensures (omega arith)).publics
