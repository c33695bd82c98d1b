use Rattle.par_patch.proofs.SliceLemmas.{whole_bytes, whole_fits, whole_refused}
use Rattle.par_patch.proofs.patching.patch_all.Goals as goal

pub returns-clause-patched : goal.returns-clause-patched
returns-clause-patched g c = whole_bytes _ _ _ _ _ _ _ c.patch_parts.ensures

pub returns-clause-in_range : goal.returns-clause-in_range
returns-clause-in_range g c = whole_fits _ _ _ _ _ _ _ c.patch_parts.ensures

pub returns-clause-refused : goal.returns-clause-refused
returns-clause-refused g c = whole_refused _ _ _ _ _ _ _ c.patch_parts.ensures
