use Rattle.std.proofs.Common.{◌≡◌, Bool, ◌&&◌, not, length, List, sym, ap, ◌∙◌}
use Rattle.std.proofs.lemmas.List.{length-map}
use Rattle.section_group.specs.declared.piece.Piece.{Piece}
use Rattle.section_group.specs.BarePieces.{bare}
use Rattle.link_pieces.specs.TablePieces.{whole_pieces}
use Rattle.link_words.specs.Outcome.{options_said}
use Rattle.link_plan.proofs.CallerLemmas.{plan_count}
use Rattle.link_plan.specs.Plan.{kept_parts}
use Rattle.link_image.specs.BaseFields.{holds_address}
use Rattle.link_image.proofs.AddressLemmas.{held_addresses}
use Rattle.link_image.proofs.placement.is_relocated.Goals as goal

pub returns-then-not-options : goal.returns-then-not-options
returns-then-not-options c =
    let link = kept_parts c.args.plan.now in
    let pieces = c.args.plan.now.pieces.items in
    let count : length pieces ≡ length (whole_pieces link) = sym (length-map pieces bare) ∙ ap (λ (ps : List Piece). length ps) c.requires.pieces_are ∙ plan_count (options_said c.args.options.now) link in
    c.hold_address.ensures
    ∙ rw (c.deref.ensures.value) (held_addresses link c.args.plan.now.fixes.items (length pieces) count c.requires.fields)
    ∙ sym (ap (λ (b : Bool). not b && holds_address link) c.if-not-options.true)
