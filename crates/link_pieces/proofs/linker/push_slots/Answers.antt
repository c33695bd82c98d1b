use Rattle.std.proofs.Common.{map}
use Rattle.section_group.specs.BarePieces.{bare}
use Rattle.section_group.specs.PieceContents.{piece_contents}
use Rattle.synthetic_sections.specs.LinkerPieces.{slot_piece}
use Rattle.link_pieces.specs.LinkerPieces.{pointer}
use Rattle.link_pieces.proofs.LinkerLemmas.{made_more}
use Rattle.link_pieces.proofs.linker.push_slots.Goals as goal

pub loop-slot-preserved : goal.loop-slot-preserved
loop-slot-preserved c =
    let old = c.args.pieces.now.items in
    let now = c.loop-slot.pieces.items in
    let after = c.push_slot.new.pieces.items in
    let slot = c.loop-slot.slot in
    record {
      pieces = made_more (slot_piece c.args.position) slot (map bare old) (map bare now) (map bare after) c.loop-slot.invariant.pieces c.in_ok-push_slot.ensures.pieces;
      contents = made_more pointer slot (map piece_contents old) (map piece_contents now) (map piece_contents after) c.loop-slot.invariant.contents c.in_ok-push_slot.ensures.contents;
    }
