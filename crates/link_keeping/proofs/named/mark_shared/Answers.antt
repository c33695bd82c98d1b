use Rattle.std.proofs.Common.{◌≡◌, ◌||◌, ◌&&◌, eqb, ℕ, Bool, false, get_or, ap, ◌∙◌, arith}
use Rattle.std.proofs.Math.Bool.{and_comm}
use Rattle.std.specs.List.{list_any, range_with_len}
use Rattle.section_group.specs.declared.piece.Piece.{Piece}
use Rattle.relocate.specs.Redirected.{place_of}
use Rattle.link_fields.specs.Fixes.{piece_at}
use Rattle.link_pieces.proofs.CallerLemmas.{bare_at}
use Rattle.link_keeping.specs.Named.{is_named_at}
use Rattle.link_keeping.proofs.MeantLemmas.{marks_range}
use Rattle.link_keeping.proofs.named.mark_shared.Goals as goal

pub loop-k-preserved : goal.loop-k-preserved
loop-k-preserved c =
    let places = c.args.places.now in
    let k = c.loop-k.k in
    record {
      same_length = c.mark_if.ensures.len ∙ c.loop-k.invariant.same_length;
      marked = λ at link pieces lt.
          let named : c.is_named.result ≡ (piece_at link k).named =
          c.is_named.ensures ∙ ap (λ (piece : Piece). piece.named) (bare_at link c.args.pieces.now k pieces) in
          marks_range (is_named_at link places at) k _ _ _ (c.loop-k.invariant.marked at link pieces lt)
          (c.mark_if.ensures.marked at (omega (arith, lt, c.loop-k.invariant.same_length))
          ∙ ap (λ (b : Bool). get_or c.loop-k.meant.items at false || b)
          (ap (λ (b : Bool). b && eqb (place_of places k) at) named ∙ and_comm (piece_at link k).named (eqb (place_of places k) at)));
    }

pub returns-clause-marked : goal.returns-clause-marked
returns-clause-marked c = λ at link pieces lt.
    c.loop-k.invariant.marked at link pieces lt
    ∙ ap (λ (n : ℕ). get_or c.args.meant.now.items at false || list_any (is_named_at link c.args.places.now at) (range_with_len 0 n)) (omega arith)
