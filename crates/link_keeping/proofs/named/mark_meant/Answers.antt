use Rattle.std.proofs.Common.{◌<◌, ◌||◌, ◌&&◌, eqb, Bool, false, length, get_or, sym, ap, ◌∙◌, arith}
use Rattle.std.proofs.lemmas.Bool.{false≢true}
use Rattle.std.proofs.lemmas.List.{get_or_default}
use Rattle.relocate.specs.Redirected.{place_of}
use Rattle.link_keeping.specs.Named.{leads_there}
use Rattle.link_keeping.proofs.MeantLemmas.{marks_more, leads_within}
use Rattle.link_keeping.proofs.named.mark_meant.Goals as goal
use Rattle.link_keeping.proofs.named.mark_meant.Goals.{then-not-mark_if, else-not-mark_if}

pub loop-edge-preserved : goal.loop-edge-preserved
loop-edge-preserved c =
    let edges = c.args.edges.now in
    let kept = c.args.kept.now in
    let places = c.args.places.now in
    let i = c.loop-edge.edge-index in
    let inside : i < length edges = omega arith in
    let edge = get_or edges i (0, 0) in
    record {
      same_length = c.mark_if.ensures.len ∙ c.loop-edge.invariant.same_length;
      marked = λ k lt.
          marks_more (leads_there kept places k) edges i edge _ _ _ inside (get_or_default edges i (0, 0) edge inside) (c.loop-edge.invariant.marked k lt)
          (c.mark_if.ensures.marked k (omega (arith, lt, c.loop-edge.invariant.same_length))
          ∙ ap (λ (b : Bool). get_or c.loop-edge.meant.items k false || (b && eqb (place_of places edge.1) k)) c.is_kept.ensures);
      within = λ all k d lt.
          elim c.if-not-mark_if.branch [
            | then-not-mark_if w ↦ absurd (false≢true (sym w.all_within-is ∙ all))
            | else-not-mark_if w ↦
                leads_within kept (length c.args.meant.now.items) edges i c.mark_if.result c.is_kept.result inside c.is_kept.ensures (λ a b. omega (arith, c.mark_if.ensures.within a b, c.loop-edge.invariant.same_length)) w.if-not-mark_if.false
                (c.loop-edge.invariant.within (sym w.all_within-is ∙ all)) k d lt
          ];
    }

pub returns-clause-within : goal.returns-clause-within
returns-clause-within c = λ all k d lt. c.loop-edge.invariant.within all k d (omega (arith, lt, c.loop-edge-test.false))
