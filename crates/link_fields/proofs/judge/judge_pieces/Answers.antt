use Rattle.std.proofs.Common.{ℕ, List, ◌++◌, Option, length, refl, sym, ap, subst, ◌∙◌, arith}
use Rattle.std.specs.List.{flat_map, range_with_len}
use Rattle.std.proofs.lemmas.List.{length-map}
use Rattle.section_group.specs.BarePieces.{bare}
use Rattle.link_base.specs.Refusals.{first_refusal_below}
use Rattle.link_base.proofs.RefusalLemmas.{first_refusal_below-more}
use Rattle.link_pieces.specs.Pieces.{link_pieces}
use Rattle.link_fields.specs.Fixes.{piece_fault, edges_by, edges_of, field_edges, HasSameEdges}
use Rattle.link_fields.specs.Steps.{HoldsTargets}
use Rattle.link_fields.proofs.JudgeLemmas.{read_piece, fault_read, fields_none, fields_more, edges_more, refuses_found}
use Rattle.link_fields.proofs.EdgeLemmas.{same_none}
use Rattle.link_fields.proofs.judge.judge_pieces.Goals as goal

pub loop-k-init : goal.loop-k-init
unfolding first_refusal_below
loop-k-init c = record {
  held =
      subst (λ (position : Option ℕ). HoldsTargets c.args.names.now position c.none-last.result.targets.items) (sym c.none-last.ensures) tt;
  fields = fields_none c.args.names.now c.in_ok-fixups.fixups.items c.in_ok-fixups.ensures.items;
  noted = c.in_ok-edges.ensures.noted;
  edges = same_none c.in_ok-edges.edges.list.items c.in_ok-edges.ensures.list;
  none = refl;
}

pub read_fixes-requires-clause-whole : goal.read_fixes-requires-clause-whole
read_fixes-requires-clause-whole c =
    (read_piece c.args.names.now c.args.pieces.now c.loop-k.k c.index-pieces-k.result c.requires.pieces c.requires.contents (omega arith) c.index-pieces-k.is).whole

pub returns-in-Err-clause-refused : goal.returns-in-Err-clause-refused
returns-in-Err-clause-refused c =
    let link = c.args.names.now in
    let k = c.loop-k.k in
    let piece = c.index-pieces-k.result in
    let read = read_piece link c.args.pieces.now k piece c.requires.pieces c.requires.contents (omega arith) c.index-pieces-k.is in
    let fixes = c.in_ok-fixes.ensures.fixes in
    refuses_found (length (link_pieces link)) k (piece_fault link c.args.large) _ c.refusal.result read.within c.loop-k.invariant.none
    (fault_read link k piece c.args.large c.in_ok-fixes.fixes.items read fixes)
    (c.refusal.ensures _ c.in-Err.ensures.refused)

pub loop-k-preserved : goal.loop-k-preserved
loop-k-preserved c =
    let link = c.args.names.now in
    let k = c.loop-k.k in
    let piece = c.index-pieces-k.result in
    let read = read_piece link c.args.pieces.now k piece c.requires.pieces c.requires.contents (omega arith) c.index-pieces-k.is in
    let judged = c.in_ok-fixes.ensures.fixes in
    let led = c.deref.ensures.value ∙ c.in_ok-fixes.ensures.fixes in
    record {
      held = c.in_ok-fixes.ensures.held;
      fields = fields_more link k piece c.in_ok-fixes.fixes.items c.in-Ok.fields c.loop-k.fixups.items c.keep.new.fixups.items read c.loop-k.invariant.fields c.in_ok-keep-in-Ok.ensures judged c.in-Ok.ensures.fields c.in-Ok.ensures.patchable;
      noted = c.in_ok-push_edges.ensures.noted;
      edges =
          subst (λ (pairs : List (ℕ × ℕ)). HasSameEdges pairs c.push_edges.new.edges.list.items)
          (edges_more link k piece c.deref.result.now (flat_map (edges_of link) (range_with_len 0 k)) (flat_map (edges_of link) (range_with_len 0 k) ++ edges_by k c.deref.result.now) read led refl refl)
          (c.in_ok-push_edges.ensures.edges (flat_map (edges_of link) (range_with_len 0 k)) c.loop-k.invariant.edges);
      none = first_refusal_below-more k (piece_fault link c.args.large) c.loop-k.invariant.none (sym (fault_read link k piece c.args.large c.in_ok-fixes.fixes.items read judged) ∙ c.in-Ok.ensures.accepted);
    }

pub returns-clause-edges : goal.returns-clause-edges
unfolding field_edges
returns-clause-edges c =
    let link = c.args.names.now in
    subst (λ (n : ℕ). HasSameEdges (flat_map (edges_of link) (range_with_len 0 n)) c.loop-k.edges.list.items)
    (omega (arith, length-map c.args.pieces.now bare, ap length c.requires.pieces)) c.loop-k.invariant.edges
