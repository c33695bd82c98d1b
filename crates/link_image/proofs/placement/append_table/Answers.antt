use Rattle.std.proofs.Common.{◌≡◌, ◌<◌, ◌^◌, ℕ, List, [], ◌∷◌, length, Some, ap, ◌∙◌, subst}
use Rattle.address_layout.specs.declared.layout.LayoutError.TheVariants as bad
use Rattle.address_layout.specs.Growth.{Appends, IsGrowRefusal}
use Rattle.base_reloc.specs.PageBlocks.{blocks_of}
use Rattle.link_words.specs.Outcome.{options_said}
use Rattle.link_plan.specs.Plan.{kept_parts}
use Rattle.link_image.specs.Steps.{EndsWithTable}
use Rattle.link_image.proofs.SectionLemmas.{large_table, placed_with_table}
use Rattle.link_image.proofs.placement.append_table.Goals as goal

pub returns-in-Err-ImageTooLarge-clause-refused : goal.returns-in-Err-ImageTooLarge-clause-refused
returns-in-Err-ImageTooLarge-clause-refused c =
    let table = c.requires.table in
    let len : c.in_ok-len.len ≡ length (blocks_of table.fields) = c.in_ok-len.ensures.len ∙ ap length (c.deref.ensures.value ∙ table.is) in
    rw (c.in-Err-ImageTooLarge.size-is) (large_table (options_said c.args.options.now) (kept_parts c.args.plan.now) c.args.plan.now.pieces.items c.args.sections.items c.args.layout table.fields c.in-Err-ImageTooLarge.size c.requires.plan.pieces_are c.requires.grouped c.requires.placed c.requires.relocated table.based
    (subst (λ (n : ℕ). IsGrowRefusal c.args.layout n (bad.ImageTooLarge c.in-Err-ImageTooLarge.size)) len (subst (IsGrowRefusal c.args.layout c.in_ok-len.len) c.in-Err-ImageTooLarge.field-0-is c.in-Err-ImageTooLarge.ensures.refused)))

pub returns-clause-placed : goal.returns-clause-placed
returns-clause-placed c =
    let table = c.requires.table in
    let len : c.in_ok-len.len ≡ length (blocks_of table.fields) = c.in_ok-len.ensures.len ∙ ap length (c.deref.ensures.value ∙ table.is) in
    let piece : c.len.result ≡ length c.args.plan.now.pieces.items = c.len.ensures ∙ c.args.plan.now.pieces.ok.0 in
    placed_with_table (options_said c.args.options.now) c.args.plan.now c.args.sections.items c.args.layout table.fields (record { sections = c.push_table.new.sections; layout = c.append_reloc.new.layout; table = Some c.args.table }) c.requires.plan c.requires.grouped c.requires.placed c.requires.relocated table.based
    (subst (EndsWithTable c.args.sections.items c.push_table.new.sections.items) piece c.in_ok-push_table.ensures)
    (subst (Appends c.args.layout c.append_reloc.new.layout) len c.in-Ok.ensures.added)
    c.in-Ok.ensures.within
    (ap (λ (t : List ℕ). t ∷ []) table.is)
    (subst (λ (t : List ℕ). length t < 2 ^ 32) (c.deref.ensures.value ∙ table.is) c.in_ok-len.ensures.small)
