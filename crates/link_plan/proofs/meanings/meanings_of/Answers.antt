use Rattle.std.proofs.Common.{Option, None, sym, ap, ◌∙◌, subst}
use Rattle.std.proofs.lemmas.Result.{err_from_is_err_and}
use Rattle.link_base.specs.Refusals.{RefusesFor}
use Rattle.link_base.specs.declared.fault.Fault.{Fault}
use Rattle.link_words.specs.Outcome.{options_said}
use Rattle.link_plan.specs.References.{names_fault}
use Rattle.link_plan.proofs.SlotLemmas.{slots_so}
use Rattle.link_plan.proofs.StageLemmas.{entry_refused, names_refused, references_refused, all_meant}
use Rattle.link_plan.proofs.meanings.meanings_of.Goals as goal

pub returns-in_err-start-clause-refused : goal.returns-in_err-start-clause-refused
returns-in_err-start-clause-refused c =
    let given = err_from_is_err_and c.from_residual.result c.from_residual.ensures.1 in
    rw (given.1, given.2) (entry_refused (options_said c.args.options.now) c.args.names.now c.in_err-start.field-0.0 c.in_err-start.ensures.refused)

pub returns-in_err-check_names-clause-refused :
    goal.returns-in_err-check_names-clause-refused
returns-in_err-check_names-clause-refused c =
    let given = err_from_is_err_and c.from_residual-in_err-check_names.result c.from_residual-in_err-check_names.ensures.1 in
    rw (given.1, given.2)
    (names_refused (options_said c.args.options.now) c.args.names.now c.in_err-check_names.field-0.0 c.in_ok-start.ensures.accepted
    (subst (λ (told : Option Fault). RefusesFor told c.in_err-check_names.field-0.0) (ap (names_fault c.args.names.now None) (c.deref.ensures.value ∙ c.in_ok-asked.ensures)) c.in_err-check_names.ensures.refused))

pub returns-in_err-check_references-clause-refused :
    goal.returns-in_err-check_references-clause-refused
returns-in_err-check_references-clause-refused c =
    let given = err_from_is_err_and c.from_residual-in_err-check_references.result c.from_residual-in_err-check_references.ensures.1 in
    rw (given.1, given.2)
    (references_refused (options_said c.args.options.now) c.args.names.now c.in_err-check_references.field-0.0 c.in_ok-start.ensures.accepted
    (ap (names_fault c.args.names.now None) (sym (c.deref.ensures.value ∙ c.in_ok-asked.ensures)) ∙ c.in_ok-check_names.ensures.accepted) c.in_err-check_references.ensures.refused)

pub returns-clause-slots : goal.returns-clause-slots
returns-clause-slots c =
    slots_so (options_said c.args.options.now) c.args.names.now c.in_ok-start.start c.deref.result.now c.new-slots.result.keys c.note_entry_slot.new.slots.keys c.check_names.new.slots.keys c.check_references.new.slots.keys c.in_ok-slots.slots c.requires.words c.in_ok-slots.ensures c.new-slots.ensures.empty c.in_ok-start.ensures.meant c.in_ok-note_entry_slot.ensures (c.deref.ensures.value ∙ c.in_ok-asked.ensures) c.in_ok-check_names.ensures.slots c.in_ok-check_references.ensures.slots

pub returns-clause-accepted : goal.returns-clause-accepted
returns-clause-accepted c =
    all_meant (options_said c.args.options.now) c.args.names.now c.in_ok-start.ensures.accepted
    (ap (names_fault c.args.names.now None) (sym (c.deref.ensures.value ∙ c.in_ok-asked.ensures)) ∙ c.in_ok-check_names.ensures.accepted) c.in_ok-check_references.ensures.accepted

pub returns-in_err-asked-clause-refused : goal.returns-in_err-asked-clause-refused
returns-in_err-asked-clause-refused c =
    let given = err_from_is_err_and c.from_residual-in_err-asked.result c.from_residual-in_err-asked.ensures.1 in
    rw (given.1, given.2) tt
