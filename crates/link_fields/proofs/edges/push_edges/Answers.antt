use Rattle.std.proofs.Common.{ℕ, ◌<◌, List, ◌++◌, [], Option, None, option_map, length, take, get_or, refl, sym, ap, subst, ◌∙◌, append-nil, arith}
use Rattle.std.specs.List.{cons_option}
use Rattle.std.proofs.lemmas.List.{get_or_default}
use Rattle.relocate.specs.declared.fix.Fix.{Fix}
use Rattle.link_fields.specs.Fixes.{meant_in, edge_by, edges_by, HasSameEdges}
use Rattle.link_fields.proofs.ListLemmas.{kept_next}
use Rattle.link_fields.proofs.edges.push_edges.Goals as goal

nothing : Fix
nothing = record { index = 0; at = 0; kind = 0; target = None }

pub loop-fix-init : goal.loop-fix-init
loop-fix-init c = record {
  noted = c.requires.noted;
  edges = λ earlier same. subst (λ (pairs : List (ℕ × ℕ)). HasSameEdges pairs c.args.edges.now.list.items) (sym (append-nil earlier)) same;
}

pub loop-fix-preserved : goal.loop-fix-preserved
unfolding nothing
loop-fix-preserved c =
    let fixes = c.args.fixes.now in
    let piece = c.args.piece in
    let i = c.loop-fix.fix-index in
    let lt : i < length fixes = omega arith in
    let fix = get_or fixes i nothing in
    record {
      noted = c.in_ok-push_if.ensures.noted;
      edges = λ earlier same.
          let before : List (ℕ × ℕ) = earlier ++ edges_by piece (take i fixes) in
          subst (λ (pairs : List (ℕ × ℕ)). HasSameEdges pairs c.push_if.new.edges.list.items)
          (kept_next (edge_by piece) fixes i fix earlier before (before ++ cons_option (option_map (λ to. (piece, to)) c.meant_piece.result) []) lt (get_or_default fixes i nothing fix lt) refl
          (ap (λ (meant : Option ℕ). before ++ cons_option (option_map (λ to. (piece, to)) meant) [])
          (c.meant_piece.ensures ∙ ap meant_in (c.unpacked.ensures ∙ c.fix-item.is ∙ get_or_default fixes i c.fix-item.result nothing lt))))
          (c.in_ok-push_if.ensures.edges before (c.loop-fix.invariant.edges earlier same));
    }
