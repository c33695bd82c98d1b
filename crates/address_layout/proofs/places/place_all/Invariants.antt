use Rattle.address_layout.specs.Rounded.{AreSections}
use Rattle.address_layout.proofs.places.place_all.Given as goal

abbrev pub invariant-loop-section : goal.invariant-loop-section
invariant-loop-section l =
    AreSections l.pieces l.sections l.headers l.section-index l.end l.file l.placed.items l.rvas
