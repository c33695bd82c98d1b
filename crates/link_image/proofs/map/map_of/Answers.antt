use Rattle.std.proofs.Common.{ℕ, Bool, not, ◌||◌, List, Some, string_bytes, ap, ◌∙◌}
use Rattle.section_group.specs.Uniqueness.{rows_of}
use Rattle.link_words.specs.Outcome.{options_said}
use Rattle.link_plan.specs.Plan.{kept_parts}
use Rattle.debug_rows.specs.ImageMap.{Mapped, image_map}
use Rattle.link_image.specs.LinkMap.{link_map}
use Rattle.link_image.proofs.MapLemmas.{text_there, is_asked, map_there}
use Rattle.link_image.proofs.map.map_of.Goals as goal

pub returns : goal.returns
returns c =
    let options = options_said c.args.options.now in
    let plan = c.args.plan.now in
    let placement = c.args.placement.now in
    let rows = rows_of placement.sections.items in
    let some = c.is_none.ensures ∙ ap not c.if-is_none.false in
    let text = link_map options (kept_parts plan) rows placement.layout in
    let asked = is_asked c.args.options.now.map string_bytes some in
    let made = c.in_ok-text.ensures
    ∙ ap (λ (image : Mapped). image_map image c.args.options.now.base c.args.entry) c.listed_image-image.ensures.listed
    ∙ map_there options plan rows placement.layout c.args.entry c.requires.plan (ap (λ (b : Bool). b || options.debug) asked) c.requires.entry in
    ap (λ (t : List ℕ). Some t) made ∙ text_there c.args.options.now.map string_bytes text some
