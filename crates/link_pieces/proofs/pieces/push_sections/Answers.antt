use Rattle.std.proofs.Common.{◌+◌, map, arith}
use Rattle.section_group.specs.BarePieces.{bare}
use Rattle.section_group.specs.PieceContents.{piece_contents}
use Rattle.link_pieces.specs.Pieces.{is_linked, piece_of, section_contents}
use Rattle.link_base.proofs.RangeLemmas.{kept_grows}
use Rattle.link_pieces.proofs.pieces.push_sections.Goals as goal

pub loop-index-preserved : goal.loop-index-preserved
loop-index-preserved c =
    let bytes = c.args.object.now in
    let i = c.loop-index.index in
    let before = c.args.pieces.now.items in
    let now = c.loop-index.pieces.items in
    let after = c.push_section.new.pieces.items in
    record {
      pieces = kept_grows (piece_of c.args.position bytes) (is_linked c.args.names.now c.args.position bytes) 1 i (i + 1) (map bare before) (map bare now) (map bare after) (omega arith) c.loop-index.invariant.pieces c.in_ok-push_section.ensures.pieces;
      contents = kept_grows (section_contents bytes) (is_linked c.args.names.now c.args.position bytes) 1 i (i + 1) (map piece_contents before) (map piece_contents now) (map piece_contents after) (omega arith) c.loop-index.invariant.contents c.in_ok-push_section.ensures.contents;
    }
