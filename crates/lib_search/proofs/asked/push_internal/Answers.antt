use Rattle.std.proofs.Common.{ℕ, List, [], ◌∷◌, ◌++◌, take, sym, ap, ◌∙◌, append_assoc, arith}
use Rattle.std.specs.List.{cons_option}
use Rattle.std.proofs.lemmas.List.{take_more}
use Rattle.std.proofs.lemmas.List.Elements.{filter_map-append}
use Rattle.directives.specs.declared.item.Export.{Export}
use Rattle.symbol_names.specs.Exports.{internal_name, internal_names}
use Rattle.lib_search.proofs.asked.push_internal.Goals as goal

pub loop-export-preserved : goal.loop-export-preserved
loop-export-preserved c =
    let rows = c.args.exports.now in
    let k = c.loop-export.export-index in
    let row = c.export-item.result in
    let before = c.args.words.now.items in
    c.in_ok-push_one.ensures
    ∙ ap (λ (words : List (List ℕ)). words ++ cons_option (internal_name row) []) c.loop-export.invariant
    ∙ append_assoc before (internal_names (take k rows)) (cons_option (internal_name row) [])
    ∙ ap (λ (names : List (List ℕ)). before ++ names)
    (sym (ap internal_names (take_more rows k row (omega arith) ∙ ap (λ (r : Export). take k rows ++ r ∷ []) (sym c.export-item.is)) ∙ filter_map-append internal_name (take k rows) (row ∷ [])))
