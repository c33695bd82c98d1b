use Rattle.std.proofs.Common.{List, [], ◌∷◌, ◌++◌, map, take, sym, ap, subst, ◌∙◌, arith}
use Rattle.std.specs.List.{All}
use Rattle.std.proofs.lemmas.List.{map_more}
use Rattle.std.proofs.lemmas.List.Elements.{All-nil, All-cons, All-append}
use Rattle.export_tables.specs.declared.row.ExportRow.{ExportRow}
use Rattle.link_image.specs.LinkedBytes.{exported_row}
use Rattle.link_image.specs.Steps.{IsGiven}
use Rattle.link_image.proofs.TargetLemmas.{target_here}
use Rattle.link_image.proofs.exports.placed_rows.Goals as goal

pub loop-k-preserved : goal.loop-k-preserved
loop-k-preserved c = record {
  rows = λ link are.
      let rows = c.args.rows.now in
      let k = c.loop-k.k in
      let read = c.index-rows-k.is in
      let told = c.in_ok-row.ensures.row link (target_here link rows c.args.targets.now k c.index-rows-k.result _ (omega arith) read are) in
      c.in_ok-push.ensures.items
      ∙ ap (λ (rs : List ExportRow). rs ++ c.in_ok-row.row ∷ []) (c.loop-k.invariant.rows link are)
      ∙ ap (λ (r : ExportRow). map (exported_row link c.args.rvas.now) (take k rows) ++ r ∷ []) (told ∙ ap (exported_row link c.args.rvas.now) read)
      ∙ sym (map_more (exported_row link c.args.rvas.now) rows k c.index-rows-k.result (omega arith));
  given =
      subst (λ (rs : List ExportRow). All (λ row. IsGiven row.what) rs) (sym c.in_ok-push.ensures.items)
      (All-append (λ (row : ExportRow). IsGiven row.what) c.loop-k.placed.items (c.in_ok-row.row ∷ []) c.loop-k.invariant.given (All-cons (λ (row : ExportRow). IsGiven row.what) c.in_ok-row.row [] c.in_ok-row.ensures.given (All-nil (λ (row : ExportRow). IsGiven row.what))));
}
