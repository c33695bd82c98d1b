use Rattle.coff_object.proofs.WellFormedLemmas.{no_fault}
use Rattle.coff_object.proofs.Readable.{section_of, count_of}
use Rattle.coff_object.proofs.object.Object.relocation_count.Goals as goal

pub section_header-header-requires-clause-headers : goal.section_header-header-requires-clause-headers
section_header-header-requires-clause-headers c = (no_fault _ c.self.invariant.well_formed).headers

pub relocation_count-requires : goal.relocation_count-requires
relocation_count-requires c =
    count_of _ c.bytes.result.now c.section_header-header.result c.args.i c.bytes.ensures c.section_header-header.ensures (section_of _ _ c.args.i c.self.view_is c.self.invariant.well_formed c.requires.first c.requires.last)
