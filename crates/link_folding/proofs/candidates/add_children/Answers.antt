use Rattle.std.proofs.Common.{◌≡◌, ℕ, ◌+◌, ◌-◌, ◌<◌, List, length, get_or, map, ap, subst, ◌∙◌, arith}
use Rattle.std.specs.List.{range_with_len}
use Rattle.std.proofs.lemmas.List.FromFn.{length-map-range_with_len, get_or-map-range_with_len}
use Rattle.coff_records.specs.ObjectFile.{section_total}
use Rattle.coff_aux.specs.Comdats.{parents_of}
use Rattle.module_view.specs.Module.{ModuleView, module_at}
use Rattle.comdat.specs.Chains.{chain_end}
use Rattle.link_folding.specs.Steps.{AreGathered}
use Rattle.link_folding.proofs.candidates.add_children.Goals as goal

-- an end, as it is read
end_read : (f : ℕ → ℕ) (ends : List ℕ) (total section end : ℕ) → ends ≡ map f (range_with_len 0 total) → section < total → end ≡ get_or ends section end → end ≡ f section
end_read f ends total section end is lt at =
    at ∙ ap (λ (xs : List ℕ). get_or xs section end) is ∙ get_or-map-range_with_len f 0 total section section end lt (omega arith)

pub add_child-requires-clause-end : goal.add_child-requires-clause-end
add_child-requires-clause-end c =
    let bytes = c.args.«module».now.bytes in
    let section = c.loop-section.section in
    let ends = c.in_ok-ends.ends in
    let count = ap length c.in_ok-ends.ensures.ends ∙ length-map-range_with_len (chain_end (parents_of bytes)) 0 (section_total bytes + 1) in
    end_read (chain_end (parents_of bytes)) ends.items (section_total bytes + 1) section c.index.result.now c.in_ok-ends.ensures.ends (omega (arith, count, c.loop-section-test.true, c.len-section-end.ensures, ends.ok.0)) c.index.ensures
    ∙ ap (λ (view : ModuleView). chain_end (parents_of view.bytes) section) c.requires.here

pub returns : goal.returns
returns c =
    let bytes = c.args.«module».now.bytes in
    let here = module_at c.args.names.now.modules c.args.position in
    let ends = c.in_ok-ends.ends in
    let count = ap length c.in_ok-ends.ensures.ends ∙ length-map-range_with_len (chain_end (parents_of bytes)) 0 (section_total bytes + 1) in
    let same = ap (λ (view : ModuleView). section_total view.bytes) c.requires.here in
    let all : c.loop-section.section - 1 ≡ section_total here.bytes = omega (arith, count, c.len-section-end.ensures, ends.ok.0, same) in
    subst (λ (n : ℕ). AreGathered c.args.names.now c.args.kept.now c.args.position n c.loop-section.found) all c.loop-section.invariant
