use Rattle.std.proofs.Common.{sym, subst, List, ℕ, ◌<◌}
use Rattle.coff_records.specs.ObjectFile.{relocation_total}
use Rattle.coff_object.proofs.WellFormedLemmas.{no_fault}
use Rattle.coff_object.proofs.Readable.{section_of, relocation_in_file}
use Rattle.coff_object.proofs.object.Object.relocation.Goals as goal

pub section_header-header-requires-clause-headers : goal.section_header-header-requires-clause-headers
section_header-header-requires-clause-headers c = (no_fault _ c.self.invariant.well_formed).headers

pub relocation_at-requires : goal.relocation_at-requires
relocation_at-requires c =
    relocation_in_file _ c.bytes.result.now c.section_header-header.result c.args.i c.relocations_place.result c.args.k c.bytes.ensures c.section_header-header.ensures (section_of _ _ c.args.i c.self.view_is c.self.invariant.well_formed c.requires.first c.requires.last) c.relocations_place.ensures.place (subst (λ (file : List ℕ). c.args.k < relocation_total file c.args.i) (sym c.self.view_is) c.requires.there)
