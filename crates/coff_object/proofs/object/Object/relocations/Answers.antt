use Rattle.std.proofs.Common.{ℕ, ◌<◌, refl, ◌∙◌, subst}
use Rattle.coff_object.proofs.WellFormedLemmas.{no_fault}
use Rattle.coff_object.proofs.Readable.{section_of, count_of, relocation_in_file}
use Rattle.coff_object.proofs.object.Object.relocations.Goals as goal

pub section_header-header-requires-clause-headers : goal.section_header-header-requires-clause-headers
section_header-header-requires-clause-headers c = (no_fault _ c.self.invariant.well_formed).headers

pub relocation_count-count-requires : goal.relocation_count-count-requires
relocation_count-count-requires c =
    count_of _ c.bytes-bytes.result.now c.section_header-header.result c.args.i c.bytes-bytes.ensures c.section_header-header.ensures (section_of _ _ c.args.i c.self.view_is c.self.invariant.well_formed c.requires.first c.requires.last)

pub from_place-requires : goal.from_place-requires
from_place-requires c =
    λ k lt. relocation_in_file _ c.bytes-bytes.result.now c.section_header-header.result c.args.i c.relocations_place.result k c.bytes-bytes.ensures c.section_header-header.ensures (section_of _ _ c.args.i c.self.view_is c.self.invariant.well_formed c.requires.first c.requires.last) c.relocations_place.ensures.place (subst (λ (n : ℕ). k < n) (c.relocation_count-count.ensures ∙ rw (c.bytes-bytes.ensures, c.section_header-header.ensures) refl) lt)
