use Rattle.std.proofs.Common.{◌≡◌, ◌<◌, ℕ, refl, sym, ap, ◌∙◌, arith}
use Rattle.link_base.specs.Bytes.{all_below}
use Rattle.link_base.proofs.CallerLemmas.{all_below-more}
use Rattle.pe_loader.specs.LoadedImage.{section_count, is_section_in_file, has_raw_bytes}
use Rattle.pe_loader.proofs.FaultLemmas.{raw_outside}
use Rattle.pe_loader.proofs.file_judging.has_raw_bytes.Goals as goal

pub loop-index-init : goal.loop-index-init
unfolding all_below
loop-index-init c = refl

pub returns-then-not-is_section_in_file : goal.returns-then-not-is_section_in_file
returns-then-not-is_section_in_file c =
    let lt : c.loop-index.index < section_count c.args.image.now = omega arith in
    sym (raw_outside c.args.image.now c.loop-index.index lt (sym c.is_section_in_file.ensures ∙ c.if-not-is_section_in_file.true))

pub loop-index-preserved : goal.loop-index-preserved
loop-index-preserved c =
    all_below-more c.loop-index.index (is_section_in_file c.args.image.now) c.loop-index.invariant (sym c.is_section_in_file.ensures ∙ c.if-not-is_section_in_file.false)

pub returns : goal.returns
unfolding has_raw_bytes
returns c =
    let last : c.loop-index.index ≡ section_count c.args.image.now = omega arith in
    sym c.loop-index.invariant ∙ ap (λ (n : ℕ). all_below n (is_section_in_file c.args.image.now)) last
