use Rattle.std.proofs.Common.{cond, List, ℕ, Some, sym, ap, ◌∙◌}
use Rattle.indexmap.specs.IndexMap.{get}
use Rattle.link_base.specs.NameText.{same_name}
use Rattle.link_directives.proofs.FirstLemmas.{keeps_new, keeps_again}
use Rattle.link_directives.proofs.mismatch.note_value.Goals as goal

pub returns-in-None : goal.returns-in-None
returns-in-None c = λ earlier was.
    let key = c.args.key.now in
    let value = c.args.value.now in
    let values = get same_name c.args.values.now in
    keeps_new earlier key value values (get same_name c.insert.new.self) was
    (ap values (sym c.again.ensures) ∙ sym c.in_ok-insert.ensures.old ∙ c.in-None.is)
    (λ other. c.in_ok-insert.ensures.updates.0 other
    ∙ ap (λ (k : List ℕ). cond (same_name k other) (Some c.again-2.result) (values other)) c.again.ensures
    ∙ ap (λ (v : List ℕ). cond (same_name key other) (Some v) (values other)) c.again-2.ensures)

pub returns-in-Some : goal.returns-in-Some
returns-in-Some c = λ earlier was.
    let key = c.args.key.now in
    let value = c.args.value.now in
    let values = get same_name c.args.values.now in
    keeps_again earlier key value c.in-Some.first values (get same_name c.insert.new.self) c.differing.result was
    (ap values (sym c.again.ensures) ∙ sym c.in_ok-insert.ensures.old ∙ c.in-Some.is)
    c.differing.ensures
    (λ other. c.in_ok-insert.ensures.updates.0 other
    ∙ ap (λ (k : List ℕ). cond (same_name k other) (Some c.again-2.result) (values other)) c.again.ensures
    ∙ ap (λ (v : List ℕ). cond (same_name key other) (Some v) (values other)) c.again-2.ensures)
