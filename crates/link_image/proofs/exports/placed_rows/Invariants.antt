use Rattle.std.proofs.Common.{◌≡◌, map, take}
use Rattle.std.specs.List.{All}
use Rattle.link_pieces.specs.TablePieces.{KeptParts}
use Rattle.link_image.specs.LinkedBytes.{exported_row}
use Rattle.link_image.specs.Steps.{targets_of, IsGiven}
use Rattle.link_image.proofs.exports.placed_rows.Given as goal

abbrev pub invariant-loop-k : goal.invariant-loop-k
invariant-loop-k l = record {
  rows : (link : KeptParts) → l.targets ≡ targets_of link l.rows → l.placed.items ≡ map (exported_row link l.rvas) (take l.k l.rows);
  given : All (λ row. IsGiven row.what) l.placed.items;
}
