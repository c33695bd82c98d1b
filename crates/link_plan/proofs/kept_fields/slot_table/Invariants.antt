use Rattle.std.proofs.Common.{◌≡◌, ℕ, ◌<◌, false, map}
use Rattle.section_group.specs.BarePieces.{bare}
use Rattle.synthetic_sections.specs.LinkerPieces.{SLOTS}
use Rattle.link_pieces.specs.PieceIndex.{is_numbered, holds}
use Rattle.link_plan.proofs.kept_fields.slot_table.Given as goal

abbrev pub invariant-loop-k : goal.invariant-loop-k
invariant-loop-k l = (j : ℕ) → j < l.k → holds (is_numbered l.position SLOTS) (map bare l.pieces) j ≡ false
