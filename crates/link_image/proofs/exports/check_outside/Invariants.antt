use Rattle.std.proofs.Common.{◌≡◌, None, map, take}
use Rattle.link_base.specs.Refusals.{first_standing}
use Rattle.link_image.specs.ExportFaults.{inside_of}
use Rattle.link_image.proofs.exports.check_outside.Given as goal

abbrev pub invariant-loop-row : goal.invariant-loop-row
invariant-loop-row l = first_standing (map (inside_of l.rva l.size) (take l.row-index l.rows)) ≡ None
