-- The stages of a plan, one after the other, and the piece of the entry.
use Rattle.std.proofs.Common.{◌≡◌, List, Some, None, refl, sym, ap, ◌∙◌}
use Rattle.std.specs.Option.{option_or}
use Rattle.link_base.specs.Refusals.{RefusesFor}
use Rattle.link_base.specs.declared.stop.Refusal.{Refusal}
use Rattle.link_base.proofs.RefusalLemmas.{neither_stands, refuses_first, refuses_later}
use Rattle.link_base.specs.declared.fault.Fault.{Fault}
use Rattle.module_view.specs.Module.{ModuleView}
use Rattle.link_pieces.specs.LinkParts.{LinkParts}
use Rattle.link_words.specs.Outcome.{LinkOptions}
use Rattle.link_plan.specs.References.{names_fault, references_fault, entry_meaning_fault}
use Rattle.link_fields.specs.Entry.{entry_meant}
use Rattle.link_fields.specs.Places.{places_fault}
use Rattle.lib_search.specs.LinkOf.{asked_names}
use Rattle.link_fields.specs.Fixes.{fixes_fault}
use Rattle.link_pieces.specs.ChoiceFaults.{conflict_fault, clash_fault}
use Rattle.link_plan.specs.PlanFaults.{mismatch_fault, choice_fault, meaning_fault, fields_fault, plan_fault}

-- ---- the first stage that has a fault

pub mismatch_stage : (options : LinkOptions) (link : LinkParts) (r : Refusal) → RefusesFor (mismatch_fault link.modules) r → RefusesFor (plan_fault options link) r
unfolding plan_fault
mismatch_stage options link r refused =
    refuses_first (mismatch_fault link.modules) (option_or (choice_fault link) (option_or (meaning_fault options link) (fields_fault options link))) r refused

pub conflict_stage : (options : LinkOptions) (link : LinkParts) (r : Refusal) → mismatch_fault link.modules ≡ None → RefusesFor (conflict_fault link.modules) r → RefusesFor (plan_fault options link) r
unfolding plan_fault
conflict_stage options link r agreed refused =
    let rest = option_or (meaning_fault options link) (fields_fault options link) in
    refuses_later (mismatch_fault link.modules) (option_or (choice_fault link) rest) r agreed
    (refuses_first (choice_fault link) rest r (refuses_first (conflict_fault link.modules) (clash_fault link.modules) r refused))

pub clash_stage : (options : LinkOptions) (link : LinkParts) (fault : Fault) → mismatch_fault link.modules ≡ None → conflict_fault link.modules ≡ None → clash_fault link.modules ≡ Some fault → plan_fault options link ≡ Some fault
unfolding plan_fault
clash_stage options link fault agreed conflict is = rw (agreed, conflict, is) refl

-- no key has two values, and no choice is at fault
pub record AreChosen (link : LinkParts) : Type 0 where
  pub agreed : mismatch_fault link.modules ≡ None
  pub chosen : choice_fault link ≡ None

pub chosen_well : (link : LinkParts) → mismatch_fault link.modules ≡ None → conflict_fault link.modules ≡ None → clash_fault link.modules ≡ None → AreChosen link
chosen_well link agreed conflict clash = record {
  agreed = agreed;
  chosen = neither_stands (conflict_fault link.modules) (clash_fault link.modules) conflict clash;
}

pub meaning_stage : (options : LinkOptions) (link : LinkParts) (r : Refusal) → AreChosen link → RefusesFor (meaning_fault options link) r → RefusesFor (plan_fault options link) r
unfolding plan_fault
meaning_stage options link r well refused =
    let rest = option_or (meaning_fault options link) (fields_fault options link) in
    refuses_later (mismatch_fault link.modules) (option_or (choice_fault link) rest) r well.agreed
    (refuses_later (choice_fault link) rest r well.chosen (refuses_first (meaning_fault options link) (fields_fault options link) r refused))

pub fields_stage : (options : LinkOptions) (link : LinkParts) (r : Refusal) → AreChosen link → meaning_fault options link ≡ None → RefusesFor (fields_fault options link) r → RefusesFor (plan_fault options link) r
unfolding plan_fault
fields_stage options link r well meant refused =
    let rest = option_or (meaning_fault options link) (fields_fault options link) in
    refuses_later (mismatch_fault link.modules) (option_or (choice_fault link) rest) r well.agreed
    (refuses_later (choice_fault link) rest r well.chosen (refuses_later (meaning_fault options link) (fields_fault options link) r meant refused))

pub no_stage : (options : LinkOptions) (link : LinkParts) → AreChosen link → meaning_fault options link ≡ None → fields_fault options link ≡ None → plan_fault options link ≡ None
unfolding plan_fault
no_stage options link well meant laid =
    neither_stands (mismatch_fault link.modules) (option_or (choice_fault link) (option_or (meaning_fault options link) (fields_fault options link))) well.agreed
    (neither_stands (choice_fault link) (option_or (meaning_fault options link) (fields_fault options link)) well.chosen
    (neither_stands (meaning_fault options link) (fields_fault options link) meant laid))

-- ---- in the stage of meaning

pub entry_refused : (options : LinkOptions) (link : LinkParts) (fault : Fault) → entry_meaning_fault link options.entry_name ≡ Some fault → meaning_fault options link ≡ Some fault
entry_refused options link fault is = rw is refl

pub names_refused : (options : LinkOptions) (link : LinkParts) (r : Refusal) → entry_meaning_fault link options.entry_name ≡ None → RefusesFor (names_fault link None (asked_names options)) r → RefusesFor (meaning_fault options link) r
names_refused options link r entry refused =
    refuses_later (entry_meaning_fault link options.entry_name) (option_or (names_fault link None (asked_names options)) (references_fault link)) r entry
    (refuses_first (names_fault link None (asked_names options)) (references_fault link) r refused)

pub references_refused : (options : LinkOptions) (link : LinkParts) (r : Refusal) → entry_meaning_fault link options.entry_name ≡ None → names_fault link None (asked_names options) ≡ None → RefusesFor (references_fault link) r → RefusesFor (meaning_fault options link) r
references_refused options link r entry included refused =
    refuses_later (entry_meaning_fault link options.entry_name) (option_or (names_fault link None (asked_names options)) (references_fault link)) r entry
    (refuses_later (names_fault link None (asked_names options)) (references_fault link) r included refused)

pub all_meant : (options : LinkOptions) (link : LinkParts) → entry_meaning_fault link options.entry_name ≡ None → names_fault link None (asked_names options) ≡ None → references_fault link ≡ None → meaning_fault options link ≡ None
all_meant options link entry included referred =
    neither_stands (entry_meaning_fault link options.entry_name) (option_or (names_fault link None (asked_names options)) (references_fault link)) entry
    (neither_stands (names_fault link None (asked_names options)) (references_fault link) included referred)

-- ---- in the stage of fields

pub places_refused : (options : LinkOptions) (link : LinkParts) (r : Refusal) → RefusesFor (places_fault link (entry_meant link options.entry_name)) r → RefusesFor (fields_fault options link) r
places_refused options link r refused =
    refuses_first (places_fault link (entry_meant link options.entry_name)) (fixes_fault link options.large) r refused

pub fixes_refused : (options : LinkOptions) (link : LinkParts) (r : Refusal) → places_fault link (entry_meant link options.entry_name) ≡ None → RefusesFor (fixes_fault link options.large) r → RefusesFor (fields_fault options link) r
fixes_refused options link r placed refused =
    refuses_later (places_fault link (entry_meant link options.entry_name)) (fixes_fault link options.large) r placed refused

pub all_laid : (options : LinkOptions) (link : LinkParts) → places_fault link (entry_meant link options.entry_name) ≡ None → fixes_fault link options.large ≡ None → fields_fault options link ≡ None
all_laid options link placed fixed =
    neither_stands (places_fault link (entry_meant link options.entry_name)) (fixes_fault link options.large) placed fixed

-- ---- as the code has them

pub chosen_so : (link names : LinkParts) (first second : List ModuleView) → names ≡ link → first ≡ link.modules → mismatch_fault first ≡ None → second ≡ link.modules → conflict_fault second ≡ None → clash_fault names.modules ≡ None → AreChosen link
chosen_so link names first second names_are first_is agreed second_is apart one =
    chosen_well link (ap mismatch_fault (sym first_is) ∙ agreed) (ap conflict_fault (sym second_is) ∙ apart)
    (ap (λ (l : LinkParts). clash_fault l.modules) (sym names_are) ∙ one)
