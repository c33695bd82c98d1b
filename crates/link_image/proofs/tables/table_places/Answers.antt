use Rattle.std.proofs.Common.{◌≡◌, ℕ, zero, suc, length, replicate, get_or, Option, None, refl, ap, ◌∙◌, arith}
use Rattle.link_base.specs.Bytes.{first_below}
use Rattle.link_pieces.specs.PieceIndex.{is_numbered, holds}
use Rattle.link_image.proofs.TableLemmas.{noted_more, all_noted}
use Rattle.link_image.proofs.tables.table_places.Goals as goal

nowhere : Option ℕ
nowhere = None

no_place : (number : ℕ) → get_or (replicate 9 nowhere) number None ≡ None
unfolding nowhere
no_place number = nothing 9 number
  where
    nothing : (count number : ℕ) → get_or (replicate count nowhere) number None ≡ None
    nothing zero number = refl
    nothing (suc count) zero = refl
    nothing (suc count) (suc number) = nothing count number

pub loop-k-init : goal.loop-k-init
unfolding first_below nowhere
loop-k-init c = record {
  all = refl;
  noted = λ number lt. no_place number;
}

pub loop-k-preserved : goal.loop-k-preserved
loop-k-preserved c = record {
  all = c.note_table.array_long;
  noted = λ number lt.
      noted_more c.args.position number c.loop-k.k c.args.pieces.now c.index-pieces-k.result (get_or c.loop-k.places number None) (get_or c.note_table.new.places number None) (omega arith) c.index-pieces-k.is (c.loop-k.invariant.noted number lt) (c.note_table.ensures number lt);
}

pub returns : goal.returns
returns c =
    let ends : c.loop-k.k ≡ length c.args.pieces.now = omega arith in
    all_noted c.args.position c.args.pieces.now c.loop-k.places c.loop-k.invariant.all (λ number lt.
    c.loop-k.invariant.noted number lt ∙ ap (λ (n : ℕ). first_below n (holds (is_numbered c.args.position number) c.args.pieces.now)) ends)
