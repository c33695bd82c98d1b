use Rattle.std.proofs.Common.{sym}
use Rattle.module_view.proofs.AuxLemmas.{no_bad_weak}
use Rattle.module_view.proofs.aux_faults.weak_fault.Goals as goal

pub returns-then-is_empty : goal.returns-then-is_empty
returns-then-is_empty c =
    sym (no_bad_weak c.args.object.now c.args.weaks.now c.requires.weaks (sym c.if-is_empty.ensures))
