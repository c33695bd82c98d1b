use Rattle.std.proofs.Common.{◌≡◌, ◌*◌, ◌≤◌}
use Rattle.pdb_msf.specs.BlockFile.{blocks_before}
use Rattle.pdb_msf.proofs.directory.blocks_before.Given as goal

abbrev pub invariant-loop-stream : goal.invariant-loop-stream
invariant-loop-stream l = (l.blocks ≡ blocks_before l.bytes l.stream) × (l.blocks ≤ 1048576 * l.stream)
