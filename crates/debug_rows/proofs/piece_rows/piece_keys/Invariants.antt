use Rattle.std.proofs.Common.{◌≡◌, take}
use Rattle.section_group.specs.Uniqueness.{rows_of}
use Rattle.debug_rows.specs.MapPieces.{piece_keys, AreWithin}
use Rattle.debug_rows.proofs.piece_rows.piece_keys.Given as goal

abbrev pub invariant-loop-section : goal.invariant-loop-section
invariant-loop-section l = (l.keys.items ≡ piece_keys l.pieces l.rvas (rows_of (take l.section-index l.sections))) × AreWithin l.pieces l.keys.items
