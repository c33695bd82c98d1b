use Rattle.std.proofs.Common.{ℕ, List, ◌++◌, ◌∷◌, [], length, map, take, Option, None, sym, ap, ◌∙◌}
use Rattle.std.proofs.lemmas.List.{take_all, map_more}
use Rattle.coff_aux.specs.declared.comdat.ComdatRecord.{ComdatRecord}
use Rattle.coff_aux.specs.Comdats.{parent_in}
use Rattle.coff_aux.proofs.comdats.parents_of.Goals as goal

pub loop-index-preserved : goal.loop-index-preserved
loop-index-preserved c =
    let records = c.args.records.now in
    let i = c.loop-index.index in
    c.in_ok-push-2.ensures.items
    ∙ ap (λ (xs : List ℕ). xs ++ c.parent_in.result ∷ []) c.loop-index.invariant
    ∙ ap (λ (parent : ℕ). 0 ∷ (map (parent_in (length records)) (take i records) ++ parent ∷ [])) c.parent_in.ensures
    ∙ ap (λ (xs : List ℕ). 0 ∷ xs) (sym (map_more (parent_in (length records)) records i None c.loop-index-test.true))

pub returns : goal.returns
returns c =
    let records = c.args.records.now in
    c.loop-index.invariant
    ∙ ap (λ (xs : List (Option ComdatRecord)). 0 ∷ map (parent_in (length records)) xs) (take_all c.loop-index.index records c.loop-index-test.false)
