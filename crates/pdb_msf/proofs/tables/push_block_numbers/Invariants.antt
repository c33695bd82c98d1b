use Rattle.std.proofs.Common.{◌≡◌, ◌++◌}
use Rattle.pdb_msf.specs.WrittenFile.{block_numbers}
use Rattle.pdb_msf.proofs.tables.push_block_numbers.Given as goal

abbrev pub invariant-loop-index : goal.invariant-loop-index
invariant-loop-index l = l.out.items ≡ l.initial.out.items ++ block_numbers l.n l.index
