use Rattle.std.proofs.Common.{ℕ, List, [], ◌++◌, get_or, ap, ◌∙◌, arith}
use Rattle.std.specs.List.{cons_option}
use Rattle.debug_rows.specs.MapPieces.{key_at}
use Rattle.debug_rows.proofs.ListLemmas.{kept_grows}
use Rattle.debug_rows.proofs.piece_rows.push_section.Goals as goal

pub loop-index-preserved : goal.loop-index-preserved
loop-index-preserved c =
    let key = key_at c.args.pieces.now c.args.rvas.now in
    let i = c.loop-index.index-index in
    let keys = c.loop-index.keys.items in
    let pushed = c.in_ok-push_key.ensures.keys ∙ ap (λ (indexes : List ℕ). keys ++ cons_option (key (get_or indexes i 0)) []) c.deref-index-items.ensures.value in (
      kept_grows key i c.args.section.now.pieces.items 0 c.args.keys.now.items keys c.push_key.new.keys.items (omega arith) c.loop-index.invariant.0 pushed,
      λ within. c.in_ok-push_key.ensures.within (c.loop-index.invariant.1 within),
    )
