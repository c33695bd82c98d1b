use Rattle.std.proofs.Common.{refl}
use Rattle.pdb_file.specs.PdbFile.{database}
use Rattle.pdb_file.proofs.SizeLemmas.{lengths_are}
use Rattle.pdb_file.proofs.sizes.stream_lengths.Goals as goal

pub returns-clause-lengths : goal.returns-clause-lengths
returns-clause-lengths c =
    let parts = c.args.parts.now in
    let info = c.info_len-info in
    let dbi = c.dbi_len-dbi in
    let records = c.records_len-records in
    lengths_are (database parts) info.result dbi.result c.in_ok-publics.publics records.result _ (info.ensures.len parts.time) dbi.ensures.len c.in_ok-publics.ensures.len records.ensures.len refl
