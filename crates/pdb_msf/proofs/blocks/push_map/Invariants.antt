use Rattle.std.proofs.Common.{◌≡◌, ◌+◌, ◌*◌, ◌++◌, map}
use Rattle.std.specs.List.{range_with_len}
use Rattle.pdb_msf.specs.WrittenFile.{map_byte}
use Rattle.pdb_msf.proofs.blocks.push_map.Given as goal

abbrev pub invariant-loop-place : goal.invariant-loop-place
invariant-loop-place l =
    l.out.items ≡ l.initial.out.items ++ map (λ k. map_byte l.total (8 * (4096 * l.index + k))) (range_with_len 0 l.place)
