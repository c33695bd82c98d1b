use Rattle.std.proofs.Common.{◌≡◌, None}
use Rattle.std.specs.List.{flat_map, range_with_len}
use Rattle.link_base.specs.Refusals.{first_refusal_below}
use Rattle.link_fields.specs.Fixes.{piece_fault, edges_of, HaveFields, HasSameEdges}
use Rattle.link_fields.specs.Steps.{HoldsTargets, AreNoted}
use Rattle.link_fields.proofs.judge.judge_pieces.Given as goal

abbrev pub invariant-loop-k : goal.invariant-loop-k
invariant-loop-k l = record {
  held : HoldsTargets l.names l.last.position l.last.targets.items;
  fields : HaveFields l.names l.k l.fixups.items;
  noted : AreNoted l.edges.list.items l.edges.last.items;
  edges : HasSameEdges (flat_map (edges_of l.names) (range_with_len 0 l.k)) l.edges.list.items;
  none : first_refusal_below l.k (piece_fault l.names l.large) ≡ None;
}
