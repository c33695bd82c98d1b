use Rattle.std.proofs.Common.{◌≡◌, Bool, List, None, refl, sym, ◌∙◌, subst}
use Rattle.section_group.specs.declared.piece.OutSection.{OutSection}
use Rattle.base_reloc.specs.PageBlocks.{IsAscending}
use Rattle.link_words.specs.Outcome.{options_said}
use Rattle.link_plan.specs.Plan.{kept_parts}
use Rattle.link_image.specs.BaseFields.{AreBaseFields}
use Rattle.link_image.specs.LinkedImage.{ArePlaced}
use Rattle.address_fields.specs.AddressFields.{all_fields}
use Rattle.link_image.proofs.SectionLemmas.{placed_alone}
use Rattle.link_image.proofs.PlanLemmas.{plan_fit, plan_fields, plan_within, plan_fixes}
use Rattle.link_image.proofs.placement.place_all.Goals as goal

pub returns-then-not-relocated-clause-placed : goal.returns-then-not-relocated-clause-placed
returns-then-not-relocated-clause-placed c =
    let sections = c.in_ok-sections.sections in
    let layout = c.in_ok-layout.layout in
    let placed = subst (λ (ss : List OutSection). ArePlaced c.args.plan.now.pieces.items ss c.is_relocated-relocated.result layout) c.deref.ensures.value c.in_ok-layout.ensures.placed in
    placed_alone (options_said c.args.options.now) c.args.plan.now (record { sections = sections; layout = layout; table = None }) c.requires c.in_ok-sections.ensures.grouped
    (subst (λ (r : Bool). ArePlaced c.args.plan.now.pieces.items sections.items r layout) c.if-not-relocated.true placed)
    (sym c.is_relocated-relocated.ensures ∙ c.if-not-relocated.true) refl

pub base_fields-requires-clause-rvas : goal.base_fields-requires-clause-rvas
base_fields-requires-clause-rvas c =
    let sections = c.in_ok-sections.sections in
    let layout = c.in_ok-layout.layout in
    let placed = subst (λ (ss : List OutSection). ArePlaced c.args.plan.now.pieces.items ss c.is_relocated-relocated.result layout) c.deref.ensures.value c.in_ok-layout.ensures.placed in
    rw (c.deref-2.ensures.value, c.deref-3.ensures.value) (plan_within (options_said c.args.options.now) c.args.plan.now sections.items c.is_relocated-relocated.result layout c.requires c.in_ok-sections.ensures.grouped placed)

pub base_fields-requires-clause-fixes : goal.base_fields-requires-clause-fixes
base_fields-requires-clause-fixes c =
    let sections = c.in_ok-sections.sections in
    let layout = c.in_ok-layout.layout in
    let placed = subst (λ (ss : List OutSection). ArePlaced c.args.plan.now.pieces.items ss c.is_relocated-relocated.result layout) c.deref.ensures.value c.in_ok-layout.ensures.placed in
    rw (c.deref-2.ensures.value, c.deref-4.ensures.value) (plan_fixes (options_said c.args.options.now) c.args.plan.now sections.items c.is_relocated-relocated.result layout c.requires c.in_ok-sections.ensures.grouped placed)

pub base_fields-requires-clause-fit : goal.base_fields-requires-clause-fit
base_fields-requires-clause-fit c =
    let sections = c.in_ok-sections.sections in
    let layout = c.in_ok-layout.layout in
    let placed = subst (λ (ss : List OutSection). ArePlaced c.args.plan.now.pieces.items ss c.is_relocated-relocated.result layout) c.deref.ensures.value c.in_ok-layout.ensures.placed in
    rw (c.deref-2.ensures.value, c.deref-3.ensures.value, c.deref-4.ensures.value) (plan_fit (options_said c.args.options.now) c.args.plan.now sections.items c.is_relocated-relocated.result layout c.requires c.in_ok-sections.ensures.grouped placed)

pub blocks-requires : goal.blocks-requires
blocks-requires c =
    let sections = c.in_ok-sections.sections in
    let layout = c.in_ok-layout.layout in
    let placed = subst (λ (ss : List OutSection). ArePlaced c.args.plan.now.pieces.items ss c.is_relocated-relocated.result layout) c.deref.ensures.value c.in_ok-layout.ensures.placed in
    let are = plan_fields (options_said c.args.options.now) c.args.plan.now sections.items c.is_relocated-relocated.result layout c.requires c.in_ok-sections.ensures.grouped placed in
    let listed : c.in_ok-fields.fields.items ≡ all_fields layout.pieces.items c.args.plan.now.fixes.items sections.items =
    rw (← c.deref-2.ensures.value, ← c.deref-3.ensures.value, ← c.deref-4.ensures.value) c.in_ok-fields.ensures in
    subst IsAscending (sym (c.deref-5.ensures.value ∙ listed)) are.ascending

pub append_table-requires-clause-table : goal.append_table-requires-clause-table
append_table-requires-clause-table c =
    let sections = c.in_ok-sections.sections in
    let layout = c.in_ok-layout.layout in
    let placed = subst (λ (ss : List OutSection). ArePlaced c.args.plan.now.pieces.items ss c.is_relocated-relocated.result layout) c.deref.ensures.value c.in_ok-layout.ensures.placed in
    let are = plan_fields (options_said c.args.options.now) c.args.plan.now sections.items c.is_relocated-relocated.result layout c.requires c.in_ok-sections.ensures.grouped placed in
    let listed : c.in_ok-fields.fields.items ≡ all_fields layout.pieces.items c.args.plan.now.fixes.items sections.items =
    rw (← c.deref-2.ensures.value, ← c.deref-3.ensures.value, ← c.deref-4.ensures.value) c.in_ok-fields.ensures in
    record {
      fields = c.deref-5.result.now;
      based = subst (AreBaseFields (kept_parts c.args.plan.now) layout.pieces.items) (sym (c.deref-5.ensures.value ∙ listed)) are;
      is = c.in_ok-table.ensures;
    }
