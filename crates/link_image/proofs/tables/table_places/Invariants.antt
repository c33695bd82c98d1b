use Rattle.std.proofs.Common.{◌≡◌, ◌<◌, ℕ, None, length, get_or}
use Rattle.link_base.specs.Bytes.{first_below}
use Rattle.link_pieces.specs.PieceIndex.{is_numbered, holds}
use Rattle.link_image.proofs.tables.table_places.Given as goal

abbrev pub invariant-loop-k : goal.invariant-loop-k
invariant-loop-k l = record {
  all : length l.places ≡ 9;
  noted : (number : ℕ) → number < 9 → get_or l.places number None ≡ first_below l.k (holds (is_numbered l.position number) l.pieces);
}
