use Rattle.std.proofs.Common.{ℕ, ◌<◌, ◌||◌, eqb, false, length, get_or, ap, ◌∙◌, arith}
use Rattle.std.proofs.lemmas.List.{get_or_default}
use Rattle.link_keeping.specs.Named.{is_at}
use Rattle.link_keeping.proofs.MeantLemmas.{marks_more}
use Rattle.link_keeping.proofs.named.mark_nodes.Goals as goal

pub loop-node-preserved : goal.loop-node-preserved
loop-node-preserved c =
    let nodes = c.args.nodes.now in
    let i = c.loop-node.node-index in
    let inside : i < length nodes = omega arith in
    let node = get_or nodes i 0 in
    record {
      same_length = c.mark.ensures.len ∙ c.loop-node.invariant.same_length;
      marked = λ k lt.
          marks_more (is_at c.args.places.now k) nodes i node _ _ _ inside (get_or_default nodes i 0 node inside) (c.loop-node.invariant.marked k lt)
          (c.mark.ensures.marked k (omega (arith, lt, c.loop-node.invariant.same_length))
          ∙ ap (λ (place : ℕ). get_or c.loop-node.meant.items k false || eqb place k) c.place_of.ensures);
    }
