use Rattle.std.proofs.Common.{◌≡◌, drop, length}
use Rattle.std.specs.List.{sum_by}
use Rattle.piece_bytes.specs.PieceBytes.{size_at, written}
use Rattle.piece_bytes.proofs.writing.write_pieces.Given as goal

abbrev pub invariant-loop-member : goal.invariant-loop-member
invariant-loop-member l = record {
  same_length : length l.file.items ≡ length l.fn.file.items;
  whole : length l.rest ≡ sum_by (size_at l.pieces) (drop l.member-index l.members);
  left : written l.layout l.pieces l.section (drop l.member-index l.members) l.rest l.file.items ≡ written l.layout l.pieces l.section l.members l.table l.fn.file.items;
}
