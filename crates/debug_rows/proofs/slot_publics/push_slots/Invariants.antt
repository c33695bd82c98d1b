use Rattle.std.proofs.Common.{◌≡◌, ◌++◌, take, map}
use Rattle.std.specs.List.{filter_map, enumerate_from}
use Rattle.section_group.specs.BarePieces.{bare}
use Rattle.debug_rows.specs.Publics.{slot_public}
use Rattle.debug_rows.proofs.slot_publics.push_slots.Given as goal

abbrev pub invariant-loop-k : goal.invariant-loop-k
invariant-loop-k l = l.publics.items ≡ l.fn.publics.items ++ filter_map (slot_public l.names) (enumerate_from 0 (map bare (take l.k l.pieces)))
