use Rattle.std.proofs.Common.{◌+◌, List, length, take, sym, ap, subst, arith, ◌∙◌, length-append}
use Rattle.address_layout.specs.declared.layout.Placed.{Placed}
use Rattle.address_layout.specs.Layout.{all_pieces}
use Rattle.address_layout.specs.Rounded.{AreSections}
use Rattle.address_layout.proofs.StandingLemmas.{stands, pieces_few, pieces_fewer, pieces_more}
use Rattle.address_layout.proofs.SectionsLemmas.{sections_begin, sections_more}
use Rattle.address_layout.proofs.places.place_all.Goals as goal

pub loop-section-init : goal.loop-section-init
loop-section-init c =
    subst (λ (placed : List Placed). AreSections c.args.pieces.now c.args.sections.now c.args.headers 0 c.args.headers c.args.headers placed c.args.rvas.now) (sym c.in_ok-placed.ensures.items)
    (sections_begin c.args.pieces.now c.args.sections.now c.args.headers c.args.rvas.now c.requires.small c.requires.room c.requires.zero)

pub place_section-spot-requires-clause-few : goal.place_section-spot-requires-clause-few
place_section-spot-requires-clause-few c =
    let pieces = c.args.pieces.now in
    let sections = c.args.sections.now in
    let i = c.loop-section.section-index in
    let section = c.section-item.result in
    let grown = ap length (pieces_more sections i section c.loop-section-test.true c.section-item.is) ∙ length-append (all_pieces (take i sections)) section.pieces.items in
    omega (arith, grown, pieces_fewer sections (i + 1), pieces_few pieces sections c.requires.standing, c.requires.few, c.requires.some_sections, c.loop-section-test.true, c.loop-section.invariant.end_bound)

pub place_section-spot-requires-clause-within : goal.place_section-spot-requires-clause-within
place_section-spot-requires-clause-within c =
    (stands c.args.pieces.now c.args.sections.now c.loop-section.section-index c.section-item.result c.requires.standing c.loop-section-test.true c.section-item.is).within

pub place_section-spot-requires-clause-once : goal.place_section-spot-requires-clause-once
place_section-spot-requires-clause-once c =
    (stands c.args.pieces.now c.args.sections.now c.loop-section.section-index c.section-item.result c.requires.standing c.loop-section-test.true c.section-item.is).once

pub overflow_add-file : goal.overflow_add-file
overflow_add-file c =
    let pieces = c.args.pieces.now in
    let sections = c.args.sections.now in
    let i = c.loop-section.section-index in
    let section = c.section-item.result in
    let grown = ap length (pieces_more sections i section c.loop-section-test.true c.section-item.is) ∙ length-append (all_pieces (take i sections)) section.pieces.items in
    omega (arith, grown, pieces_fewer sections (i + 1), pieces_few pieces sections c.requires.standing, c.requires.few, c.requires.some_sections, c.loop-section-test.true, c.loop-section.invariant.file_bound, c.place_section-spot.ensures.raw_bound)

pub loop-section-preserved : goal.loop-section-preserved
loop-section-preserved c =
    let pieces = c.args.pieces.now in
    let sections = c.args.sections.now in
    let i = c.loop-section.section-index in
    let spot = c.place_section-spot.ensures in
    subst (λ (placed : List Placed). AreSections pieces sections c.args.headers (i + 1) c.place_section-spot.result.end (c.loop-section.file + c.place_section-spot.result.raw) placed c.place_section-spot.new.rvas) (sym c.in_ok-push.ensures.items)
    (sections_more pieces sections c.args.headers i c.loop-section.end c.loop-section.file c.loop-section.placed.items c.loop-section.rvas c.section-item.result c.place_section-spot.result.placed c.place_section-spot.result.end c.place_section-spot.result.raw c.place_section-spot.new.rvas c.requires.standing c.loop-section-test.true c.section-item.is c.loop-section.invariant spot.placed spot.end spot.raw spot.end_bound spot.raw_bound spot.room spot.written spot.others)
