use Rattle.std.proofs.Common.{◌≡◌, ℕ, false, Option, length, map, inl, inr, sym, ap, ◌∙◌, subst, arith}
use Rattle.std.specs.Prelude.{unwrap_or}
use Rattle.std.proofs.lemmas.Bool.{cases_lt}
use Rattle.link_base.proofs.CallerLemmas.{first_below-found, first_below-all_fail}
use Rattle.section_group.specs.BarePieces.{bare}
use Rattle.synthetic_sections.specs.LinkerPieces.{SLOTS}
use Rattle.link_pieces.specs.PieceIndex.{is_numbered, holds}
use Rattle.link_plan.proofs.LaidLemmas.{holds_read}
use Rattle.link_plan.proofs.kept_fields.slot_table.Goals as goal

pub returns-then-is_slot_table : goal.returns-then-is_slot_table
returns-then-is_slot_table c =
    let test = holds (is_numbered c.args.position SLOTS) (map bare c.args.pieces.now) in
    let k = c.loop-k.k in
    let here = holds_read (is_numbered c.args.position SLOTS) c.args.pieces.now k c.index-pieces-k.result (omega arith) c.index-pieces-k.is ∙ sym c.is_slot_table.ensures ∙ c.if-is_slot_table.true in
    ap (λ (o : Option ℕ). unwrap_or o 0) (sym (first_below-found k (length c.args.pieces.now) test (omega arith) (first_below-all_fail k test c.loop-k.invariant) here))

pub loop-k-preserved : goal.loop-k-preserved
loop-k-preserved c = λ j below.
    let test = is_numbered c.args.position SLOTS in
    let k = c.loop-k.k in
    elim (cases_lt j k) [
      | inl before ↦ c.loop-k.invariant j before
      | inr last ↦
          let same : j ≡ k = omega arith in
          subst (λ (i : ℕ). holds test (map bare c.args.pieces.now) i ≡ false) (sym same)
          (holds_read test c.args.pieces.now k c.index-pieces-k.result (omega arith) c.index-pieces-k.is ∙ sym c.is_slot_table.ensures ∙ c.if-is_slot_table.false)
    ]

pub returns : goal.returns
returns c =
    ap (λ (o : Option ℕ). unwrap_or o 0)
    (sym (first_below-all_fail (length c.args.pieces.now) (holds (is_numbered c.args.position SLOTS) (map bare c.args.pieces.now)) (λ k lt. c.loop-k.invariant k (omega (arith, lt)))))
