use Rattle.std.proofs.Common.{◌≡◌, ◌++◌, map}
use Rattle.std.specs.List.{range_with_len}
use Rattle.pdb_publics.specs.PublicStreams.{bitmap_byte}
use Rattle.pdb_publics.proofs.hash_part.push_bitmap.Given as goal

abbrev pub invariant-loop-place : goal.invariant-loop-place
invariant-loop-place l = l.out.items ≡ l.initial.out.items ++ map (bitmap_byte l.counts) (range_with_len 0 l.place)
