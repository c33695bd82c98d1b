use Rattle.std.proofs.Common.{◌≡◌, None}
use Rattle.link_base.specs.Bytes.{first_below}
use Rattle.link_debug.specs.LinkDebug.{has_rva}
use Rattle.link_debug.proofs.debug.section_with.Given as goal

abbrev pub invariant-loop-i : goal.invariant-loop-i
invariant-loop-i l = first_below l.i (has_rva l.sections l.rva) ≡ None
