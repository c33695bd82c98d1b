-- The entry stands in a piece that is named, and inside it, and so does what the loader of a program looks for.
use Rattle.std.proofs.Common.{◌≡◌, ℕ, ◌<◌, ◌||◌, true, List, length, map, get_or, sym, ap, ◌∙◌, arith}
use Rattle.std.specs.List.{All, Contains}
use Rattle.std.specs.Option.{ForSome}
use Rattle.std.proofs.lemmas.Bool.{or_right, or_left}
use Rattle.std.proofs.lemmas.List.{length-map, length-append}
use Rattle.std.proofs.Math.ListN.{get_or-map}
use Rattle.section_group.specs.declared.piece.Piece.{Piece}
use Rattle.section_group.specs.BarePieces.{bare}
use Rattle.section_group.specs.SectionOrder.{no_piece}
use Rattle.module_view.specs.Opening.{IsOpened}
use Rattle.link_words.specs.Outcome.{LinkOptions}
use Rattle.link_pieces.specs.Pieces.{link_pieces}
use Rattle.link_pieces.specs.TablePieces.{KeptParts, tables_of}
use Rattle.link_fields.specs.declared.entry.EntryPlace.{EntryPlace}
use Rattle.link_fields.specs.Entry.{entry_place}
use Rattle.link_fields.specs.LoaderPlaces.{loader_place}
use Rattle.link_fields.specs.Fixes.{piece_at}
use Rattle.link_fields.proofs.EntryLemmas.{IsInside, entry_inside, loader_inside}
use Rattle.relocate.specs.Redirected.{place_of}
use Rattle.link_keeping.specs.Reach.{loader_names}
use Rattle.link_keeping.specs.Standing.{AreStanding}
use Rattle.link_keeping.proofs.CallerLemmas.{place_inside, place_as_long}
use Rattle.link_plan.specs.Planned.{is_meant, is_sought, is_shared, planned_piece, plan_pieces, placed_entry, planned_entry, planned_loader}
use Rattle.link_plan.specs.Laid.{StandsNamed}
use Rattle.link_plan.proofs.PlacedLemmas.{placed_some}
use Rattle.link_plan.proofs.CallerLemmas.{is_named, planned_at, plan_count, entry_used, loader_used}

-- a place inside a piece of the link, where that stands, which is sought
place_stands : (options : LinkOptions) (link : KeptParts) (pieces : List Piece) (place own : EntryPlace) → map bare pieces ≡ plan_pieces options link → AreStanding options link → placed_entry link.places own ≡ place → IsInside link.parts own → is_sought options link place.piece ≡ true → StandsNamed pieces place
place_stands options link pieces place own are kept placed stands sought =
    let k = place.piece in
    let same : place_of link.places own.piece ≡ k = ap (λ (e : EntryPlace). e.piece) placed in
    let value : own.value ≡ place.value = ap (λ (e : EntryPlace). e.value) placed in
    let within : k < length (link_pieces link.parts) = omega (arith, same, place_inside options link own.piece kept stands.within) in
    let here : bare (get_or pieces k no_piece) ≡ planned_piece options link k =
    sym (get_or-map bare pieces k no_piece) ∙ ap (λ (ps : List Piece). get_or ps k no_piece) are ∙ planned_at options link k within in
    let size : (get_or pieces k no_piece).size ≡ (piece_at link.parts own.piece).size =
    ap (λ (p : Piece). p.size) here
    ∙ ap (λ (n : ℕ). (piece_at link.parts n).size) (sym same)
    ∙ place_as_long options link own.piece kept stands.within in
    record {
      within = omega (arith, within, length-map pieces bare, ap (λ (ps : List Piece). length ps) are, plan_count options link, length-append (link_pieces link.parts) (tables_of link));
      named = ap (λ (p : Piece). p.named) here ∙ or_right (piece_at link.parts k).named (is_named options link k) (or_right (is_meant link k) (is_sought options link k || is_shared link k) (or_left (is_sought options link k) (is_shared link k) sought));
      inside = omega (arith, stands.inside, size, value);
    }

-- where it is inside the piece that it is in
inside_placed : (options : LinkOptions) (link : KeptParts) (place own : EntryPlace) → AreStanding options link → placed_entry link.places own ≡ place → IsInside link.parts own → place.piece < length (link_pieces link.parts)
inside_placed options link place own kept placed stands =
    omega (arith, ap (λ (e : EntryPlace). e.piece) placed, place_inside options link own.piece kept stands.within)

pub entry_stands : (options : LinkOptions) (link : KeptParts) (pieces : List Piece) → map bare pieces ≡ plan_pieces options link → AreStanding options link → All IsOpened link.parts.modules → ForSome (planned_entry options link) (StandsNamed pieces)
entry_stands options link pieces are kept opened = λ place e.
    let placed = placed_some link.places (entry_place link.parts options.entry_name) place e in
    let stands = entry_inside link.parts options.entry_name placed.own opened placed.is in
    place_stands options link pieces place placed.own are kept placed.placed stands
    (entry_used options link place kept (inside_placed options link place placed.own kept placed.placed stands) e).1

pub loader_stands : (options : LinkOptions) (link : KeptParts) (pieces : List Piece) (name : List ℕ) → Contains loader_names name → map bare pieces ≡ plan_pieces options link → AreStanding options link → All IsOpened link.parts.modules → ForSome (planned_loader link name) (StandsNamed pieces)
loader_stands options link pieces name among are kept opened = λ place e.
    let placed = placed_some link.places (loader_place link.parts name) place e in
    let stands = loader_inside link.parts name placed.own opened placed.is in
    place_stands options link pieces place placed.own are kept placed.placed stands
    (loader_used options link name place among kept (inside_placed options link place placed.own kept placed.placed stands) e).1
