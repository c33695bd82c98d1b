use Rattle.std.proofs.Common.{◌≡◌, take}
use Rattle.std.specs.List.{flat_map}
use Rattle.piece_bytes.specs.PieceBytes.{bytes_of_piece}
use Rattle.piece_bytes.proofs.reading.read_pieces.Given as goal

abbrev pub invariant-loop-member : goal.invariant-loop-member
invariant-loop-member l =
    l.table.items ≡ flat_map (bytes_of_piece l.layout l.pieces l.section l.file) (take l.member-index l.members)
