use Rattle.std.proofs.Common.{◌≡◌, ◌≤◌, ◌<◌, ◌+◌, ◌-◌, ℕ, List, length, map, get_or, cond, Option, None, Some, refl, sym, ap, subst, ◌∙◌, arith}
use Rattle.std.specs.List.{All}
use Rattle.std.proofs.lemmas.List.{length-map}
use Rattle.section_group.specs.declared.piece.Piece.{Piece}
use Rattle.section_group.specs.BarePieces.{bare}
use Rattle.link_base.specs.Bytes.{first_below}
use Rattle.module_view.specs.Module.{ModuleView}
use Rattle.link_pieces.specs.LinkParts.{LinkParts}
use Rattle.link_pieces.specs.Commons.{FIRST_COMMON}
use Rattle.link_pieces.specs.PieceIndex.{holds, is_numbered, is_section_of, is_common_of, linker_indexed, linker_index}
use Rattle.std.specs.Option.{option_and_then}
use Rattle.synthetic_sections.specs.LinkerPieces.{FIRST_LOCAL_SLOT}
use Rattle.link_imports.specs.Imports.{is_import}
use Rattle.link_pieces.specs.LocalSlots.{slot_names, slot_number}
use Rattle.link_pieces.specs.Pieces.{link_pieces}
use Rattle.link_pieces.specs.Rows.{section_places, common_places, HasPlace, HasSomePlace}
use Rattle.link_pieces.proofs.IndexLemmas.{AreNoted, none_noted, noted_more, noted_same, of_section, no_section, of_common, no_common, rows_are, in_section_rows, in_common_rows, not_of_modules, of_module, of_linker}
use Rattle.link_pieces.proofs.LinkerRowLemmas.{AreLinkerNoted, no_linker_noted, linker_more, linker_same}
use Rattle.link_pieces.proofs.piece_index.PieceIndex.new.Goals as goal
use Rattle.link_pieces.proofs.piece_index.PieceIndex.new.Goals.{then-piece-modules, else-piece-modules+then-piece-lt-FIRST_COMMON, else-piece-modules+else-piece-lt-FIRST_COMMON}

pub loop-index-init : goal.loop-index-init
loop-index-init c = record {
  sections = none_noted section_places c.args.modules.now (is_section_of (length c.args.modules.now)) c.args.pieces.now c.in_ok-sections.sections c.in_ok-sections.ensures;
  commons = none_noted common_places c.args.modules.now is_common_of c.args.pieces.now c.in_ok-commons.commons c.in_ok-commons.ensures;
  linker = no_linker_noted c.args.modules.now (length c.args.slots) c.args.pieces.now c.in_ok-linker.linker c.in_ok-linker.ensures (omega arith) c.len.ensures.len;
}

here : (modules : List ModuleView) (slots : ℕ) (pieces : List Piece) (k : ℕ) (piece : Piece) → k < length pieces → piece ≡ get_or pieces k piece → All (λ (p : Piece). HasSomePlace modules slots p.«module» p.number) pieces → HasSomePlace modules slots piece.«module» piece.number
here modules slots pieces k piece lt read placed =
    subst (λ (p : Piece). HasSomePlace modules slots p.«module» p.number) (sym read) (placed k piece lt)

pub note-requires-then-piece-lt-FIRST_COMMON-clause-rows :
    goal.note-requires-then-piece-lt-FIRST_COMMON-clause-rows
note-requires-then-piece-lt-FIRST_COMMON-clause-rows c =
    rows_are section_places c.args.modules.now c.loop-index.sections c.loop-index.invariant.sections.starts

own_place : (modules : List ModuleView) (slots : ℕ) (pieces : List Piece) (k : ℕ) (piece : Piece) → k < length pieces → piece ≡ get_or pieces k piece → All (λ (p : Piece). HasSomePlace modules slots p.«module» p.number) pieces → (piece.«module» ≡ length modules → ⊥) → HasPlace modules piece.«module» piece.number
own_place modules slots pieces k piece lt read placed other =
    of_module modules slots piece.«module» piece.number other (here modules slots pieces k piece lt read placed)

pub note-requires-then-piece-lt-FIRST_COMMON-clause-place :
    goal.note-requires-then-piece-lt-FIRST_COMMON-clause-place
note-requires-then-piece-lt-FIRST_COMMON-clause-place c =
    in_section_rows c.args.modules.now c.loop-index.sections c.index-pieces-index.result.«module» c.index-pieces-index.result.number c.loop-index.invariant.sections.starts (own_place c.args.modules.now (length c.args.slots) c.args.pieces.now c.loop-index.index c.index-pieces-index.result (omega arith) c.index-pieces-index.is c.requires.placed (λ same. omega (arith, same, c.if-piece-modules.false))) (omega arith)

pub note-requires-else-piece-lt-FIRST_COMMON-clause-rows :
    goal.note-requires-else-piece-lt-FIRST_COMMON-clause-rows
note-requires-else-piece-lt-FIRST_COMMON-clause-rows c =
    rows_are common_places c.args.modules.now c.loop-index.commons c.loop-index.invariant.commons.starts

pub note-requires-else-piece-lt-FIRST_COMMON-clause-place :
    goal.note-requires-else-piece-lt-FIRST_COMMON-clause-place
note-requires-else-piece-lt-FIRST_COMMON-clause-place c =
    in_common_rows c.args.modules.now c.loop-index.commons c.index-pieces-index.result.«module» c.index-pieces-index.result.number c.loop-index.invariant.commons.starts (own_place c.args.modules.now (length c.args.slots) c.args.pieces.now c.loop-index.index c.index-pieces-index.result (omega arith) c.index-pieces-index.is c.requires.placed (λ same. omega (arith, same, c.if-piece-modules.false))) (omega arith)

pub loop-index-preserved : goal.loop-index-preserved
loop-index-preserved c =
    let modules = c.args.modules.now in
    let slots = length c.args.slots in
    let pieces = c.args.pieces.now in
    let k = c.loop-index.index in
    let piece = c.index-pieces-index.result in
    let read = c.index-pieces-index.is in
    let was = c.loop-index.invariant in
    elim c.if-piece-modules.branch [
      | then-piece-modules w ↦
          let same : piece.«module» ≡ length modules = omega (arith, w.if-piece-modules.true) in
          let place = of_linker modules slots piece.«module» piece.number same (here modules slots pieces k piece (omega arith) read c.requires.placed) in
          record {
            sections =
                subst (AreNoted section_places modules (is_section_of (length modules)) pieces (k + 1)) (sym w.sections-is)
                (noted_same section_places modules (is_section_of (length modules)) pieces k piece c.loop-index.sections (omega arith) read (λ m s. not_of_modules (length modules) m s (bare piece) same) was.sections);
            commons =
                subst (AreNoted common_places modules is_common_of pieces (k + 1)) (sym w.commons-is)
                (noted_same common_places modules is_common_of pieces k piece c.loop-index.commons (omega arith) read (λ m j. no_common m j (bare piece) place.few) was.commons);
            linker =
                subst (AreLinkerNoted modules slots pieces (k + 1)) (sym w.linker-is)
                (linker_more modules slots pieces k piece c.loop-index.linker w.note.new.self (omega arith) read same w.note.ensures.made w.note.ensures.slots w.note.ensures.noted was.linker);
          }
      | else-piece-modules+then-piece-lt-FIRST_COMMON w ↦
          let other : piece.«module» ≡ length modules → ⊥ = λ same. omega (arith, same, w.if-piece-modules.false) in
          let place = own_place modules slots pieces k piece (omega arith) read c.requires.placed other in
          record {
            sections =
                subst (AreNoted section_places modules (is_section_of (length modules)) pieces (k + 1)) (sym w.sections-is)
                (noted_more section_places modules (is_section_of (length modules)) pieces k piece piece.number c.loop-index.sections w.note-then-piece-lt-FIRST_COMMON.new.self (omega arith) read (λ m s. of_section (length modules) m s (bare piece) place.within w.if-piece-lt-FIRST_COMMON.true) w.note-then-piece-lt-FIRST_COMMON.ensures.starts w.note-then-piece-lt-FIRST_COMMON.ensures.len w.note-then-piece-lt-FIRST_COMMON.ensures.noted was.sections);
            commons =
                subst (AreNoted common_places modules is_common_of pieces (k + 1)) (sym w.commons-is)
                (noted_same common_places modules is_common_of pieces k piece c.loop-index.commons (omega arith) read (λ m j. no_common m j (bare piece) w.if-piece-lt-FIRST_COMMON.true) was.commons);
            linker = subst (AreLinkerNoted modules slots pieces (k + 1)) (sym w.linker-is) (linker_same modules slots pieces k piece c.loop-index.linker (omega arith) read other was.linker);
          }
      | else-piece-modules+else-piece-lt-FIRST_COMMON w ↦
          let other : piece.«module» ≡ length modules → ⊥ = λ same. omega (arith, same, w.if-piece-modules.false) in
          let note = w.note-else-piece-lt-FIRST_COMMON in
          let large : FIRST_COMMON ≤ piece.number = omega (arith, w.if-piece-lt-FIRST_COMMON.false) in
          record {
            sections =
                subst (AreNoted section_places modules (is_section_of (length modules)) pieces (k + 1)) (sym w.sections-is)
                (noted_same section_places modules (is_section_of (length modules)) pieces k piece c.loop-index.sections (omega arith) read (λ m s. no_section (length modules) m s (bare piece) large) was.sections);
            commons =
                subst (AreNoted common_places modules is_common_of pieces (k + 1)) (sym w.commons-is)
                (noted_more common_places modules is_common_of pieces k piece (piece.number - FIRST_COMMON) c.loop-index.commons note.new.self (omega arith) read (λ m j. of_common m j (bare piece) large) note.ensures.starts note.ensures.len note.ensures.noted was.commons);
            linker = subst (AreLinkerNoted modules slots pieces (k + 1)) (sym w.linker-is) (linker_same modules slots pieces k piece c.loop-index.linker (omega arith) read other was.linker);
          }
    ]

pub returns : goal.returns
returns c =
    let modules = c.args.modules.now in
    let pieces = c.args.pieces.now in
    let all : c.loop-index.index ≡ length (map bare pieces) = omega (arith, length-map pieces bare) in
    λ link same names are. record {
      sections = λ m s.
          c.loop-index.invariant.sections.noted m s
          ∙ ap (λ (n : ℕ). first_below n (holds (is_section_of (length modules) m s) (map bare pieces))) all
          ∙ ap (λ (ps : List Piece). first_below (length ps) (holds (is_section_of (length modules) m s) ps)) are
          ∙ ap (λ (ms : List ModuleView). first_below (length (link_pieces link)) (holds (is_section_of (length ms) m s) (link_pieces link))) (sym same);
      commons = λ m j.
          c.loop-index.invariant.commons.noted m j
          ∙ ap (λ (n : ℕ). first_below n (holds (is_common_of m j) (map bare pieces))) all
          ∙ ap (λ (ps : List Piece). first_below (length ps) (holds (is_common_of m j) ps)) are;
      linker = linker_is link same are;
      imports = λ position.
          c.in_ok-imports.ensures position
          ∙ ap (λ (n : ℕ). cond (is_import modules position) (Some (n + position)) None) (omega (arith, c.len.ensures.len, length-map pieces bare, ap length are))
          ∙ ap (λ (ms : List ModuleView). cond (is_import ms position) (Some (length (link_pieces link) + position)) None) (sym same);
      names = sym names;
      slots = λ name.
          ap (λ (number : Option ℕ). option_and_then (λ slot. linker_indexed c.loop-index.linker (FIRST_LOCAL_SLOT + slot)) number) (ap (λ (slots : List (List ℕ)). slot_number slots name) (sym names))
          ∙ each_slot (λ slot. linker_indexed c.loop-index.linker (FIRST_LOCAL_SLOT + slot)) (λ slot. linker_index link (FIRST_LOCAL_SLOT + slot)) (λ slot. linker_is link same are (FIRST_LOCAL_SLOT + slot)) (slot_number (slot_names link) name);
    }
  where
    linker_is : (link : LinkParts) → link.modules ≡ c.args.modules.now → map bare c.args.pieces.now ≡ link_pieces link → (number : ℕ) → linker_indexed c.loop-index.linker number ≡ linker_index link number
    linker_is link same are number =
        c.loop-index.invariant.linker.noted number
        ∙ ap (λ (m : ℕ). first_below m (holds (is_numbered (length c.args.modules.now) number) (map bare c.args.pieces.now))) (omega (arith, length-map c.args.pieces.now bare))
        ∙ ap (λ (ps : List Piece). first_below (length ps) (holds (is_numbered (length c.args.modules.now) number) ps)) are
        ∙ ap (λ (ms : List ModuleView). first_below (length (link_pieces link)) (holds (is_numbered (length ms) number) (link_pieces link))) (sym same)

    each_slot : (f g : ℕ → Option ℕ) → ((slot : ℕ) → f slot ≡ g slot) → (number : Option ℕ) → option_and_then f number ≡ option_and_then g number
    each_slot f g each None = refl
    each_slot f g each (Some slot) = each slot
