use Rattle.std.proofs.Common.{◌≡◌, ℕ, ◌&&◌, false, length, get_or, ap, subst, ◌∙◌, arith}
use Rattle.std.proofs.lemmas.List.{length-map, get_or_default}
use Rattle.section_group.specs.declared.piece.Piece.{Piece}
use Rattle.section_group.specs.BarePieces.{bare}
use Rattle.section_group.specs.SectionOrder.{no_piece}
use Rattle.link_pieces.specs.Pieces.{link_pieces}
use Rattle.link_pieces.proofs.CallerLemmas.{bare_at}
use Rattle.link_fields.specs.Fixes.{piece_at}
use Rattle.link_folding.specs.Candidates.{may_fold}
use Rattle.link_folding.proofs.NumberLemmas.{AreOwn, own_more}
use Rattle.link_folding.proofs.ChildLemmas.{own_gathered}
use Rattle.link_folding.proofs.candidates.own_candidates.Goals as goal

pub loop-k-preserved : goal.loop-k-preserved
loop-k-preserved c =
    let link = c.args.names.now in
    let kept = c.args.kept.now in
    let pieces = c.args.pieces.now in
    let k = c.loop-k.k in
    let piece = c.index-pieces-k.result in
    let same : bare piece ≡ piece_at link k = ap bare (c.index-pieces-k.is ∙ get_or_default pieces k piece no_piece c.loop-k-test.true) ∙ bare_at link pieces k c.requires.pieces in
    own_more link kept k c.is_candidate-is_candidate.result c.loop-k.found c.note.new.self
    (c.is_candidate-is_candidate.ensures ∙ ap (λ (p : Piece). get_or kept k false && may_fold link p) same)
    c.in_ok-note.ensures c.loop-k.invariant

pub returns : goal.returns
returns c =
    let link = c.args.names.now in
    let kept = c.args.kept.now in
    let all : c.loop-k.k ≡ length (link_pieces link) = omega (arith, length-map c.args.pieces.now bare, ap length c.requires.pieces) in
    own_gathered link kept c.loop-k.found (subst (λ (n : ℕ). AreOwn link kept n c.loop-k.found) all c.loop-k.invariant)
