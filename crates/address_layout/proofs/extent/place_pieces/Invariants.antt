use Rattle.address_layout.specs.Places.{section_row}
use Rattle.address_layout.specs.Rounded.{ArePlaced}
use Rattle.address_layout.proofs.extent.place_pieces.Given as goal

abbrev pub invariant-loop-index : goal.invariant-loop-index
invariant-loop-index l = ArePlaced l.pieces (section_row l.section) l.start l.index-index l.extent l.initial.rvas l.rvas
