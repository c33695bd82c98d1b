use Rattle.std.proofs.Common.{ℕ, [], ◌∷◌, ◌++◌, ◌&&◌, not, cond, length, filter, ap, ◌∙◌, arith}
use Rattle.std.specs.List.{range_with_len}
use Rattle.std.proofs.lemmas.List.{length-map}
use Rattle.link_base.specs.Bytes.{has_flag}
use Rattle.link_base.specs.PeFormat.{SCN_LNK_COMDAT}
use Rattle.section_group.specs.BarePieces.{bare}
use Rattle.section_group.specs.declared.piece.Piece.{Piece}
use Rattle.link_pieces.specs.PieceIndex.{is_section}
use Rattle.link_keeping.specs.Reach.{is_plain}
use Rattle.link_keeping.proofs.RootLemmas.{plain_next, piece_read}
use Rattle.link_keeping.proofs.roots.push_plain.Goals as goal

pub loop-k-preserved : goal.loop-k-preserved
loop-k-preserved c = λ link are count.
    let k = c.loop-k.k in
    let piece = c.index-pieces-k.result in
    let read = piece_read link c.args.pieces.now k piece are (omega arith) c.index-pieces-k.is in
    plain_next link k c.args.nodes.now.items c.loop-k.nodes.items c.push_if_plain.new.nodes.items (c.loop-k.invariant link are count)
    (c.in_ok-push_if_plain.ensures
    ∙ ap (λ (n : ℕ). c.loop-k.nodes.items ++ cond (is_section n piece && not (has_flag piece.flags SCN_LNK_COMDAT)) (k ∷ []) []) count
    ∙ ap (λ (p : Piece). c.loop-k.nodes.items ++ cond (is_section (length link.modules) p && not (has_flag p.flags SCN_LNK_COMDAT)) (k ∷ []) []) read)

pub returns : goal.returns
returns c = λ link are count.
    c.loop-k.invariant link are count
    ∙ ap (λ (n : ℕ). c.args.nodes.now.items ++ filter (is_plain link) (range_with_len 0 n)) (omega (arith, length-map c.args.pieces.now bare, ap length are))
