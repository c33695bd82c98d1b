use Rattle.std.proofs.Common.{◌≡◌, ◌<◌, ℕ, refl, sym, ap, ◌∙◌, arith}
use Rattle.link_base.specs.Bytes.{all_below}
use Rattle.link_base.proofs.CallerLemmas.{all_below-more}
use Rattle.pe_loader.specs.LoadedImage.{section_count, is_section_placed, has_sections}
use Rattle.pe_loader.proofs.FaultLemmas.{floor_next, section_unplaced}
use Rattle.pe_loader.proofs.file_judging.has_sections.Goals as goal

pub loop-index-init : goal.loop-index-init
unfolding all_below
loop-index-init c = (c.headers_size-floor.ensures, refl)

pub returns-then-not-is_section_placed : goal.returns-then-not-is_section_placed
returns-then-not-is_section_placed c =
    let lt : c.loop-index.index < section_count c.args.image.now = omega arith in
    sym (section_unplaced c.args.image.now c.loop-index.index lt (sym c.is_section_placed.ensures ∙ c.if-not-is_section_placed.true))

pub loop-index-preserved : goal.loop-index-preserved
loop-index-preserved c = (
  omega (arith, floor_next c.args.image.now c.loop-index.index, c.section_end-floor.ensures),
  all_below-more c.loop-index.index (is_section_placed c.args.image.now) c.loop-index.invariant.1 (sym c.is_section_placed.ensures ∙ c.if-not-is_section_placed.false),
)

pub returns : goal.returns
unfolding has_sections
returns c =
    let last : c.loop-index.index ≡ section_count c.args.image.now = omega arith in
    sym c.loop-index.invariant.1 ∙ ap (λ (n : ℕ). all_below n (is_section_placed c.args.image.now)) last
