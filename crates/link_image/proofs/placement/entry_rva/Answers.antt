use Rattle.std.proofs.Common.{◌≡◌, ◌<◌, length, get_or, sym, ◌∙◌, arith}
use Rattle.std.proofs.lemmas.List.{get_or_default}
use Rattle.link_words.specs.Outcome.{options_said}
use Rattle.link_image.proofs.UsedLemmas.{place_used}
use Rattle.link_image.proofs.placement.entry_rva.Goals as goal

pub index-requires : goal.index-requires
index-requires c =
    let stand = c.requires.plan.stands c.in-Some.place c.in-Some.is in
    omega (arith, stand.within, c.requires.placed.room)

pub rva_in-requires : goal.rva_in-requires
rva_in-requires c =
    let layout = c.args.placement.now.layout in
    let place = c.in-Some.place in
    let stand = c.requires.plan.stands place c.in-Some.is in
    let within : place.piece < length layout.pieces.items = omega (arith, stand.within, c.requires.placed.room) in
    let read : get_or layout.pieces.items place.piece 0 ≡ c.index.result.now = get_or_default layout.pieces.items place.piece 0 c.index.result.now within ∙ sym c.index.ensures in
    let used = place_used (options_said c.args.options.now) c.args.plan.now c.requires.plan place stand.within c.in-Some.is in
    rw (← read) (c.requires.placed.fits place stand used)

pub returns-in-Some : goal.returns-in-Some
returns-in-Some c =
    let layout = c.args.placement.now.layout in
    let place = c.in-Some.place in
    let stand = c.requires.plan.stands place c.in-Some.is in
    let within : place.piece < length layout.pieces.items = omega (arith, stand.within, c.requires.placed.room) in
    let read : get_or layout.pieces.items place.piece 0 ≡ c.index.result.now = get_or_default layout.pieces.items place.piece 0 c.index.result.now within ∙ sym c.index.ensures in
    rw (c.in-Some.is, read) c.rva_in.ensures
