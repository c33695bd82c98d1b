use Rattle.std.proofs.Common.{◌+◌, ◌<◌, ◌++◌, ℕ, List, length, drop, map, sym, ap, ◌∙◌, subst, arith}
use Rattle.std.proofs.lemmas.List.{append-nil, drop_all, length-map}
use Rattle.section_group.specs.Uniqueness.{SectionRow as OutRow, row_of, rows_of}
use Rattle.address_layout.specs.declared.layout.Placed.{Placed}
use Rattle.address_layout.specs.Layout.{placed_at}
use Rattle.section_group.specs.PieceContents.{piece_contents}
use Rattle.image_writer.specs.RawData.{section_bytes}
use Rattle.image_writer.specs.RawData.{laid, laid_all, Ascend}
use Rattle.image_writer.proofs.LaidOutLemmas.{all_here, have_room, ascends_there}
use Rattle.image_writer.proofs.StepLemmas.{kept, place_here, all_step}
use Rattle.image_writer.proofs.raw_data.push_sections.Goals as goal

pub push_section-requires-clause-within : goal.push_section-requires-clause-within
push_section-requires-clause-within c =
    all_here (λ k. k < length c.args.pieces.now) c.args.sections.now c.loop-i.i c.index-sections-i.result c.loop-i-test.true c.index-sections-i.is c.requires.laid_out.within

pub push_section-requires-clause-ascending : goal.push_section-requires-clause-ascending
push_section-requires-clause-ascending c =
    let out = c.requires.laid_out in
    let i = c.loop-i.i in
    let section = c.index-sections-i.result in
    let placed = c.args.layout.now.sections.items in
    let contents = map piece_contents c.args.pieces.now in
    let lt = c.loop-i-test.true in
    let there = ascends_there c.args.pieces.now c.args.sections.now c.args.layout.now contents i section out (have_room c.args.pieces.now c.args.sections.now c.requires.contents) lt c.index-sections-i.is in
    let here = place_here placed i c.index.result.now (omega (arith, lt, out.section_for_each)) c.index.ensures in
    subst (λ (rvas : List ℕ). Ascend (section_bytes rvas contents section.pieces.items) (c.index.result.now.rva + c.index.result.now.raw) c.index.result.now.rva) (sym c.deref.ensures.value)
    (subst (λ (place : Placed). Ascend (section_bytes c.args.layout.now.pieces.items contents section.pieces.items) (place.rva + place.raw) place.rva) here there)

pub loop-i-preserved : goal.loop-i-preserved
loop-i-preserved c =
    let out = c.requires.laid_out in
    let i = c.loop-i.i in
    let sections = c.args.sections.now in
    let section = c.index-sections-i.result in
    let placed = c.args.layout.now.sections.items in
    let rvas = c.args.layout.now.pieces.items in
    let contents = map piece_contents c.args.pieces.now in
    let lt = c.loop-i-test.true in
    let here = place_here placed i c.index.result.now (omega (arith, lt, out.section_for_each)) c.index.ensures in
    let filled : List ℕ → Placed → List ℕ = λ rs place. laid (section_bytes rs contents section.pieces.items) (place.rva + place.raw) place.rva in
    kept c.push_section.new.out.items c.loop-i.out.items (filled rvas (placed_at placed i)) (laid_all rvas contents (drop (i + 1) (rows_of sections)) (drop (i + 1) placed)) (laid_all rvas contents (drop i (rows_of sections)) (drop i placed)) _
    (c.in_ok-push_section.ensures ∙ ap (λ (rs : List ℕ). c.loop-i.out.items ++ filled rs c.index.result.now) c.deref.ensures.value ∙ ap (λ (place : Placed). c.loop-i.out.items ++ filled rvas place) (sym here))
    c.loop-i.invariant
    (all_step rvas contents sections placed i section out.section_for_each lt c.index-sections-i.is)

pub returns : goal.returns
unfolding laid_all
returns c =
    let sections = c.args.sections.now in
    let placed = c.args.layout.now.sections.items in
    let i = c.loop-i.i in
    let none = drop_all i (rows_of sections) (omega (arith, length-map sections row_of, c.loop-i-test.false)) in
    sym (append-nil c.loop-i.out.items)
    ∙ ap (λ (rows : List OutRow). c.loop-i.out.items ++ laid_all c.args.layout.now.pieces.items (map piece_contents c.args.pieces.now) rows (drop i placed)) (sym none)
    ∙ c.loop-i.invariant
