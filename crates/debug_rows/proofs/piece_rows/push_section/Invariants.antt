use Rattle.std.proofs.Common.{◌≡◌, ◌++◌, take}
use Rattle.std.specs.List.{filter_map}
use Rattle.debug_rows.specs.MapPieces.{key_at, AreWithin}
use Rattle.debug_rows.proofs.piece_rows.push_section.Given as goal

abbrev pub invariant-loop-index : goal.invariant-loop-index
invariant-loop-index l =
    (l.keys.items ≡ l.fn.keys.items ++ filter_map (key_at l.pieces l.rvas) (take l.index-index l.section.pieces.items))
    × (AreWithin l.pieces l.fn.keys.items → AreWithin l.pieces l.keys.items)
