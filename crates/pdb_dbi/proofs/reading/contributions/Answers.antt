use Rattle.std.proofs.Common.{Global}
use Rattle.pdb_dbi.proofs.ReadingLemmas.{refused_without}
use Rattle.pdb_dbi.proofs.reading.contributions.Goals as goal

pub returns-in-Err-Missing : goal.returns-in-Err-Missing
returns-in-Err-Missing c =
    refused_without Global Global c.args.msf.now c.in-Err-Missing.field-0 c.in-Err-Missing.ensures c.in-Err-Missing.field-0-is
