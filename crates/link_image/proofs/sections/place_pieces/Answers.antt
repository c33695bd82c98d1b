use Rattle.std.proofs.Common.{List, sym, subst}
use Rattle.section_group.specs.declared.piece.Piece.{Piece}
use Rattle.address_layout.specs.declared.layout.LayoutError.TheVariants as bad
use Rattle.address_layout.specs.Layout.{StandOnce, IsPlaceRefusal}
use Rattle.link_words.specs.Outcome.{options_said}
use Rattle.link_plan.specs.Plan.{kept_parts}
use Rattle.link_image.proofs.SectionLemmas.{standing, too_many, too_large}
use Rattle.link_image.proofs.sections.place_pieces.Goals as goal

pub place-requires-clause-standing : goal.place-requires-clause-standing
place-requires-clause-standing c =
    subst (λ (ps : List Piece). StandOnce ps c.args.sections.now) (sym c.deref.ensures.value)
    (standing (options_said c.args.options.now) (kept_parts c.args.plan.now) c.args.plan.now.pieces.items c.args.sections.now c.requires.grouped)

pub returns-in-Err-TooManySections-clause-refused : goal.returns-in-Err-TooManySections-clause-refused
returns-in-Err-TooManySections-clause-refused c =
    too_many (options_said c.args.options.now) (kept_parts c.args.plan.now) c.args.plan.now.pieces.items c.args.sections.now c.args.reloc c.in-Err-TooManySections.count c.requires.plan.pieces_are c.requires.grouped c.requires.reloc
    (subst (λ (ps : List Piece). IsPlaceRefusal ps c.args.sections.now c.args.reloc (bad.TooManySections c.in-Err-TooManySections.count)) c.deref.ensures.value
    (subst (IsPlaceRefusal c.deref.result.now c.args.sections.now c.args.reloc) c.in-Err-TooManySections.field-0-is c.in-Err-TooManySections.ensures.refused))

pub returns-in-Err-ImageTooLarge-clause-refused : goal.returns-in-Err-ImageTooLarge-clause-refused
returns-in-Err-ImageTooLarge-clause-refused c =
    too_large (options_said c.args.options.now) (kept_parts c.args.plan.now) c.args.plan.now.pieces.items c.args.sections.now c.args.reloc c.in-Err-ImageTooLarge.size c.requires.plan.pieces_are c.requires.grouped c.requires.reloc
    (subst (λ (ps : List Piece). IsPlaceRefusal ps c.args.sections.now c.args.reloc (bad.ImageTooLarge c.in-Err-ImageTooLarge.size)) c.deref.ensures.value
    (subst (IsPlaceRefusal c.deref.result.now c.args.sections.now c.args.reloc) c.in-Err-ImageTooLarge.field-0-is c.in-Err-ImageTooLarge.ensures.refused))
