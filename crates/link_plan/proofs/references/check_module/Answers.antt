use Rattle.std.proofs.Common.{◌≡◌, ℕ, List, map, ap, ◌∙◌, sym, subst}
use Rattle.std.proofs.lemmas.Option.{same_Some, none-some}
use Rattle.std.specs.Prelude.{filter_map, OnOk}
use Rattle.std.specs.BTreeSet.{BTreeSet}
use Rattle.directives.specs.Said.{said}
use Rattle.module_view.specs.ModuleDirectives.{module_directives}
use Rattle.coff_records.specs.ObjectFile.{symbol_entries}
use Rattle.symbol_names.specs.References.{name_said}
use Rattle.link_pieces.specs.LocalSlots.{name_asked, with_meant}
use Rattle.link_plan.proofs.ReferenceLemmas.{meant_append}
use Rattle.link_plan.proofs.references.check_module.Goals as goal
use Rattle.link_plan.proofs.references.check_module.Goals.{in-Some+in_ok-check_object, in_default}

pub returns-clause-slots : goal.returns-clause-slots
returns-clause-slots c =
    let link = c.args.names.now in
    let bytes = c.args.module.now.bytes in
    let asked = λ (b : List ℕ). filter_map (name_asked link c.args.position) (symbol_entries b) in
    let included = filter_map name_said (map said c.directives.result.now) in
    let before = c.args.slots.now.keys in
    let noted : c.match-object.slots.keys ≡ with_meant link before (asked bytes) = elim c.match-object.branch [
      | in-Some+in_ok-check_object w ↦
          let same = same_Some w.in-Some.object.now bytes w.in-Some.ensures.object in
          ap (λ (s : BTreeSet (List ℕ)). s.keys) w.slots-is ∙ w.in_ok-check_object.ensures.slots ∙ ap (λ (b : List ℕ). with_meant link before (asked b)) same
      | in_default w ↦ absurd (none-some bytes w.in_default.ensures.object)
    ] in
    subst (λ (keys : List (List ℕ)). OnOk c.check_directives.result (c.check_directives.new.slots.keys ≡ keys))
    (ap (λ (slots : List (List ℕ)). with_meant link slots included) noted
    ∙ ap (with_meant link (with_meant link before (asked bytes))) (ap (filter_map name_said) c.directives.ensures.directives)
    ∙ sym (meant_append link before (asked bytes) (filter_map name_said (module_directives bytes))))
    c.check_directives.ensures.slots
