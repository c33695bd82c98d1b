use Rattle.std.proofs.Common.{ℕ, List, ◌++◌, take}
use Rattle.link_fields.specs.Fixes.{edges_by, HasSameEdges}
use Rattle.link_fields.specs.Steps.{AreNoted}
use Rattle.link_fields.proofs.edges.push_edges.Given as goal

abbrev pub invariant-loop-fix : goal.invariant-loop-fix
invariant-loop-fix l = record {
  noted : AreNoted l.edges.list.items l.edges.last.items;
  edges : (earlier : List (ℕ × ℕ)) → HasSameEdges earlier l.fn.edges.list.items → HasSameEdges (earlier ++ edges_by l.piece (take l.fix-index l.fixes)) l.edges.list.items;
}
