use Rattle.std.proofs.Common.{◌+◌, ◌*◌, ℕ, arith}
use Rattle.pdb_msf.specs.WrittenFile.{map_byte}
use Rattle.pdb_msf.proofs.WritingLemmas.{map_grows, map_done}
use Rattle.pdb_msf.proofs.blocks.push_map.Goals as goal

pub loop-place-preserved : goal.loop-place-preserved
loop-place-preserved c =
    map_grows (λ (k : ℕ). map_byte c.args.total (8 * (4096 * c.args.index + k))) c.loop-place.place c.args.out.now.items c.loop-place.out.items _ c.map_byte.result c.loop-place.invariant c.in_ok-push.ensures.items c.map_byte.ensures

pub returns : goal.returns
returns c =
    map_done c.args.total c.args.index c.loop-place.place c.args.out.now.items c.loop-place.out.items (omega arith) c.loop-place.invariant
