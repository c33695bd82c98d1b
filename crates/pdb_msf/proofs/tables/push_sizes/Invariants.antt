use Rattle.std.proofs.Common.{◌≡◌, ◌++◌, take}
use Rattle.std.specs.List.{flat_map}
use Rattle.link_base.specs.Bytes.{number_bytes}
use Rattle.pdb_msf.proofs.tables.push_sizes.Given as goal

abbrev pub invariant-loop-len : goal.invariant-loop-len
invariant-loop-len l = l.out.items ≡ l.initial.out.items ++ flat_map (number_bytes 4) (take l.len-index l.lengths)
