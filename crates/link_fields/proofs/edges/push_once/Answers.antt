use Rattle.std.proofs.Common.{◌≡◌, ◌<◌, ◌^◌, ℕ, List, get_or, ◌∷◌, ◌++◌, [], sym, ap, subst, ◌∙◌, arith}
use Rattle.std.specs.List.{Contains}
use Rattle.std.proofs.lemmas.List.{get_or_read}
use Rattle.link_fields.specs.Fixes.{HasSameEdges}
use Rattle.link_fields.proofs.EdgeLemmas.{same_append, same_again}
use Rattle.link_fields.proofs.edges.push_once.Goals.{then-at-len+else-index-piece, else-at-len}
use Rattle.link_fields.proofs.edges.push_once.Goals as goal

-- the pair was listed
pub returns-then-index-piece-clause-edges : goal.returns-then-index-piece-clause-edges
returns-then-index-piece-clause-edges c = λ earlier same.
    let list : List (ℕ × ℕ) = c.args.edges.now.list.items in
    let noted : get_or c.args.edges.now.last.items c.args.to 0 ≡ c.args.piece = sym (get_or_read c.args.edges.now.last.items c.args.to c.index.result.now (omega arith) c.index.ensures 0) ∙ c.if-index-piece.true in
    let listed : Contains list (get_or c.args.edges.now.last.items c.args.to 0, c.args.to) = c.requires.noted c.args.to (omega arith) (subst (λ (p : ℕ). p < 2 ^ 31) (sym noted) c.requires.few) in
    same_again earlier list (c.args.piece, c.args.to) (subst (λ (p : ℕ). Contains list (p, c.args.to)) noted listed) same

-- the pair is listed
pub returns-clause-edges : goal.returns-clause-edges
returns-clause-edges c = λ earlier same.
    let edge : ℕ × ℕ = (c.args.piece, c.args.to) in
    let list : List (ℕ × ℕ) = c.args.edges.now.list.items in
    let before : c.if-at-len.edges.list.items ≡ list =
    elim c.if-at-len.branch [
      | then-at-len+else-index-piece w ↦ ap (λ edges. edges.list.items) w.edges-is
      | else-at-len w ↦ ap (λ edges. edges.list.items) w.edges-is
    ] in
    subst (HasSameEdges (earlier ++ edge ∷ [])) (sym (c.in_ok-push.ensures.items ∙ ap (λ (pairs : List (ℕ × ℕ)). pairs ++ edge ∷ []) before))
    (same_append earlier list (edge ∷ []) same)
