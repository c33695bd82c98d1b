use Rattle.std.proofs.Common.{◌≡◌, None}
use Rattle.link_base.specs.Bytes.{first_below}
use Rattle.res_merge.specs.ResourceFile.{is_text_end}
use Rattle.res_merge.proofs.names.text_units.Given as goal

abbrev pub invariant-loop-k : goal.invariant-loop-k
invariant-loop-k l = record { goes_on : first_below l.k (is_text_end l.bytes l.offset) ≡ None }
