use Rattle.std.proofs.Common.{◌≡◌, None, map, take}
use Rattle.link_base.specs.Refusals.{first_standing}
use Rattle.link_pieces.specs.TablePieces.{KeptParts}
use Rattle.link_image.specs.ExportFaults.{absolute_fault}
use Rattle.link_image.specs.Steps.{targets_of}
use Rattle.link_image.proofs.exports.check_places.Given as goal

abbrev pub invariant-loop-k : goal.invariant-loop-k
invariant-loop-k l = (link : KeptParts) → l.targets ≡ targets_of link l.rows → first_standing (map (absolute_fault link) (take l.k l.rows)) ≡ None
