use Rattle.std.proofs.Common.{◌≤◌, Bool, true, false, cond, arith}
use Rattle.link_base.specs.PeFormat.{SIZEOF_SYMBOL, SIZEOF_SYMBOL_EX}
use Rattle.coff_records.specs.ObjectHeader.{is_big_object, symbol_size}
use Rattle.coff_aux.proofs.aux_records.first_aux.Goals as goal

at_least : (b : Bool) → SIZEOF_SYMBOL ≤ cond b SIZEOF_SYMBOL_EX SIZEOF_SYMBOL
at_least true = omega arith
at_least false = omega arith

pub returns-clause-whole : goal.returns-clause-whole
unfolding symbol_size
returns-clause-whole c = rw c.aux.ensures.len (at_least (is_big_object c.args.object.now))
