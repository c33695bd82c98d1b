use Rattle.std.proofs.Common.{Vec, ◌≡◌, ℕ, List, ◌∙◌, ap, rules, ◌++◌, ◌∷◌, []}
use Rattle.std.specs.declared.alloc.Global.{Global}
use Rattle.std.proofs.lemmas.List.{get_or_read}
use Rattle.export_tables.specs.Ordinals.{no_export}
use Rattle.export_tables.proofs.HintLemmas.{listed_taken, listed_left}
use Rattle.export_tables.proofs.name_hints.listed_names.Goals as goal
use Rattle.export_tables.proofs.name_hints.listed_names.Goals.{then-not-row+in_ok-push, else-not-row}

pub loop-row-preserved : goal.loop-row-preserved
loop-row-preserved c =
    let is = get_or_read c.args.rows.now c.loop-row.row-index c.row-item.result c.loop-row-test.true c.row-item.is no_export in
    elim c.if-not-row.branch [
      | then-not-row+in_ok-push w ↦
          let pushed : c.if-not-row.names.items ≡ c.loop-row.names.items ++ w.again.result ∷ [] = ap (λ (v : Vec (List ℕ) Global). v.items) w.names-is ∙ w.in_ok-push.ensures.items in
          let named : c.if-not-row.names.items ≡ c.loop-row.names.items ++ c.row-item.result.name ∷ [] = pushed ∙ ap (λ (name : List ℕ). c.loop-row.names.items ++ name ∷ []) w.again.ensures in
          listed_taken c.args.rows.now c.loop-row.row-index c.loop-row.names.items c.if-not-row.names.items c.row-item.result c.loop-row-test.true is c.loop-row.invariant (search rules) named
      | else-not-row w ↦
          let kept : c.if-not-row.names.items ≡ c.loop-row.names.items = ap (λ (v : Vec (List ℕ) Global). v.items) w.names-is in
          listed_left c.args.rows.now c.loop-row.row-index c.loop-row.names.items c.if-not-row.names.items c.row-item.result c.loop-row-test.true is c.loop-row.invariant (search rules) kept
    ]
