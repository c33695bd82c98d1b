use Rattle.coff_object.proofs.WellFormedLemmas.{no_fault}
use Rattle.coff_object.proofs.Readable.{section_of}
use Rattle.coff_object.proofs.object.Object.section_body.Goals as goal

pub section_header-header-requires-clause-headers : goal.section_header-header-requires-clause-headers
section_header-header-requires-clause-headers c = (no_fault _ c.self.invariant.well_formed).headers

pub data_in-requires : goal.data_in-requires
data_in-requires c = rw (c.bytes.ensures, c.section_header-header.ensures) (section_of _ _ c.args.i c.self.view_is c.self.invariant.well_formed c.requires.first c.requires.last).body
