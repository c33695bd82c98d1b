use Rattle.coff_object.proofs.WellFormedLemmas.{no_fault}
use Rattle.coff_object.proofs.object.Object.section_name_field.Goals as goal

pub section_header-requires-clause-headers : goal.section_header-requires-clause-headers
section_header-requires-clause-headers c = (no_fault _ c.self.invariant.well_formed).headers
