use Rattle.std.proofs.Common.{◌≡◌, ◌<◌, ℕ, List, length, get_or, sym, ap, ◌∙◌, arith}
use Rattle.std.proofs.lemmas.List.{get_or_default, length-drop}
use Rattle.std.proofs.lemmas.List.Sums.{sum_by-drop_more}
use Rattle.section_group.specs.declared.piece.Piece.{Piece}
use Rattle.section_group.specs.SectionOrder.{no_piece}
use Rattle.piece_bytes.specs.PieceBytes.{size_at, written}
use Rattle.piece_bytes.proofs.PieceLemmas.{drop_end, one_written}
use Rattle.piece_bytes.proofs.writing.write_pieces.Goals as goal

pub loop-member-preserved : goal.loop-member-preserved
loop-member-preserved c =
    let members = c.args.members.now in
    let pieces = c.args.pieces.now in
    let j = c.loop-member.member-index in
    let k = get_or members j 0 in
    let lt : j < length members = c.loop-member-test.true in
    let there = (c.requires.lie j 0 lt).there in
    let n = (get_or pieces k c.index-pieces-k.result).size in
    let size : n ≡ size_at pieces k = ap (λ (p : Piece). p.size) (get_or_default pieces k c.index-pieces-k.result no_piece there) in
    let sum = sum_by-drop_more (size_at pieces) members j 0 lt in
    let len = ap (λ (bytes : List ℕ). length bytes) c.split_at.ensures.back in
    record {
      same_length = c.put_part.ensures.len ∙ c.loop-member.invariant.same_length;
      whole = omega (arith, len, length-drop n c.loop-member.rest.now, c.loop-member.invariant.whole, size, sum);
      left =
          one_written c.args.layout.now pieces c.args.section members c.loop-member.rest.now c.split_at.result.1.now c.split_at.result.0.now c.loop-member.file.items c.put_part.new.file.items j n lt size c.split_at.ensures.front c.split_at.ensures.back c.put_part.ensures.put
          ∙ c.loop-member.invariant.left;
    }

pub returns : goal.returns
unfolding written
returns c =
    sym (ap (λ (ms : List ℕ). written c.args.layout.now c.args.pieces.now c.args.section ms c.loop-member.rest.now c.loop-member.file.items) (drop_end c.args.members.now c.loop-member.member-index c.loop-member-test.false))
    ∙ c.loop-member.invariant.left
