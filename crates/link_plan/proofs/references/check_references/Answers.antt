use Rattle.std.proofs.Common.{◌≡◌, ℕ, List, Option, None, length, refl, sym, ap, subst, ◌∙◌, arith}
use Rattle.std.specs.List.{flat_map, range_with_len}
use Rattle.std.proofs.lemmas.Result.{err_from_is_err_and}
use Rattle.link_base.specs.Refusals.{RefusesFor, first_refusal_below}
use Rattle.link_base.specs.declared.fault.Fault.{Fault}
use Rattle.link_base.proofs.RefusalLemmas.{first_refusal_below-more}
use Rattle.module_view.specs.Module.{module_at}
use Rattle.link_pieces.specs.LocalSlots.{names_asked, with_meant}
use Rattle.link_plan.specs.References.{references_fault_at}
use Rattle.link_fields.proofs.StandingLemmas.{refuses_at}
use Rattle.link_plan.proofs.ReferenceLemmas.{module_here, bytes_here, meant_module}
use Rattle.link_plan.proofs.StandingNameLemmas.{no_references_fault, no_more_meant}
use Rattle.link_plan.proofs.references.check_references.Goals as goal

pub returns-then-all_stand-clause-accepted : goal.returns-then-all_stand-clause-accepted
returns-then-all_stand-clause-accepted c = no_references_fault c.args.names.now (c.all_stand.ensures c.if-all_stand.true)

pub returns-then-all_stand-clause-slots : goal.returns-then-all_stand-clause-slots
returns-then-all_stand-clause-slots c = no_more_meant c.args.names.now c.args.slots.now.keys (c.all_stand.ensures c.if-all_stand.true)

pub loop-position-init : goal.loop-position-init
unfolding first_refusal_below
loop-position-init c = record { none = refl; noted = refl }

pub check_module-requires : goal.check_module-requires
check_module-requires c =
    bytes_here c.args.names.now c.args.modules.now c.loop-position.position c.index-modules-position.result c.requires.same (omega arith) c.index-modules-position.is

pub returns-in_err-check_module-clause-refused : goal.returns-in_err-check_module-clause-refused
returns-in_err-check_module-clause-refused c =
    let link = c.args.names.now in
    let k = c.loop-position.position in
    let here = module_here link c.args.modules.now k c.index-modules-position.result c.requires.same (omega arith) c.index-modules-position.is in
    let given = err_from_is_err_and c.from_residual.result c.from_residual.ensures.1 in
    rw (given.1, given.2)
    (refuses_at (length link.modules) k (references_fault_at link) c.in_err-check_module.field-0.0 (omega (arith, ap length c.requires.same)) c.loop-position.invariant.none
    (subst (λ (o : Option Fault). RefusesFor o c.in_err-check_module.field-0.0) (sym here) c.in_err-check_module.ensures.refused))

pub loop-position-preserved : goal.loop-position-preserved
loop-position-preserved c =
    let link = c.args.names.now in
    let k = c.loop-position.position in
    let here = module_here link c.args.modules.now k c.index-modules-position.result c.requires.same (omega arith) c.index-modules-position.is in
    let bytes = bytes_here link c.args.modules.now k c.index-modules-position.result c.requires.same (omega arith) c.index-modules-position.is in
    let names = λ (j : ℕ). names_asked link j (module_at link.modules j).bytes in
    record {
      none = first_refusal_below-more k (references_fault_at link) c.loop-position.invariant.none (here ∙ c.in_ok-check_module.ensures.accepted);
      noted =
          c.in_ok-check_module.ensures.slots
          ∙ ap (λ (b : List ℕ). with_meant link c.loop-position.slots.keys (names_asked link k b)) bytes
          ∙ ap (λ (before : List (List ℕ)). with_meant link before (names k)) c.loop-position.invariant.noted
          ∙ meant_module link c.args.slots.now.keys names k;
    }

pub returns-clause-accepted : goal.returns-clause-accepted
returns-clause-accepted c =
    let link = c.args.names.now in
    let all : c.loop-position.position ≡ length link.modules = omega (arith, ap length c.requires.same) in
    subst (λ (n : ℕ). first_refusal_below n (references_fault_at link) ≡ None) all c.loop-position.invariant.none

pub returns-clause-slots : goal.returns-clause-slots
returns-clause-slots c =
    let link = c.args.names.now in
    let names = λ (j : ℕ). names_asked link j (module_at link.modules j).bytes in
    let all : c.loop-position.position ≡ length link.modules = omega (arith, ap length c.requires.same) in
    c.loop-position.invariant.noted
    ∙ ap (λ (n : ℕ). with_meant link c.args.slots.now.keys (flat_map names (range_with_len 0 n))) all
