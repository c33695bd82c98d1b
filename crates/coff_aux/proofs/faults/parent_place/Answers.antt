use Rattle.std.proofs.Common.{ℕ, List, Option, length, subst, sym, ap, ◌∙◌}
use Rattle.link_base.specs.Bytes.{first_below}
use Rattle.coff_object.specs.ObjectFaults.{least_place}
use Rattle.coff_aux.specs.AuxFaults.{has_no_parent}
use Rattle.coff_aux.specs.Parents.{AreParents, comes_back}
use Rattle.coff_aux.specs.Steps.{first_record, parent_place_in}
use Rattle.coff_aux.proofs.RecordLemmas.{are_parents}
use Rattle.coff_aux.proofs.faults.parent_place.Goals as goal

pub first_circle-requires-clause-parents : goal.first_circle-requires-clause-parents
first_circle-requires-clause-parents c =
    subst (λ (parents : List ℕ). AreParents parents) (sym (c.deref.ensures.value ∙ c.in_ok-parents.ensures)) (are_parents c.args.records.now)

pub returns : goal.returns
unfolding parent_place_in
returns c =
    let records = c.args.records.now in
    let parents = c.deref.ensures.value ∙ c.in_ok-parents.ensures in
    c.least_place.ensures
    ∙ ap (λ (o : Option ℕ). least_place o c.in_ok-circle.circle) c.missing_parent-missing.ensures
    ∙ ap (least_place (first_record records (has_no_parent (length records)))) (c.in_ok-circle.ensures ∙ ap (λ (ps : List ℕ). first_below (length ps) (comes_back ps)) parents)
