-- An entry that has a place stands in a piece of the link, and inside it, and so does what the loader of a program looks for.
use Rattle.std.proofs.Common.{◌≡◌, ℕ, ◌+◌, ◌<◌, ◌≤◌, Bool, List, length, Option, Some, None, Result, Ok, Err, inl, inr, refl, ap, subst, arith}
use Rattle.std.specs.Prelude.{nat_le}
use Rattle.std.specs.List.{All}
use Rattle.std.proofs.lemmas.Bool.{and_parts, leb-true}
use Rattle.std.proofs.lemmas.List.Elements.{All-contains}
use Rattle.coff_aux.specs.Comdats.{is_section_number}
use Rattle.coff_records.specs.ObjectFile.{section_total, raw_size_of}
use Rattle.section_group.specs.declared.piece.Piece.{Piece}
use Rattle.module_view.specs.Module.{module_at}
use Rattle.link_pieces.specs.LinkParts.{LinkParts, names_in}
use Rattle.module_view.specs.Opening.{IsOpened}
use Rattle.module_view.specs.ImportModule.{module_definitions}
use Rattle.module_view.specs.declared.definition.Definition.{Definition}
use Rattle.module_view.proofs.CallerLemmas.{IsPlaceIn, module_definitions_stand}
use Rattle.symbol_table.specs.declared.meaning.Meaning.{Meaning}
use Rattle.symbol_table.specs.declared.meaning.Meaning.TheVariants as meaning
use Rattle.symbol_table.specs.declared.meaning.NoMeaning.{NoMeaning}
use Rattle.synthetic_sections.specs.LinkerPieces.{FIRST_THUNK}
use Rattle.symbol_table.proofs.CallerLemmas.{MeansPlace, meaning_stands, module_opens}
use Rattle.comdat.specs.Selection.{chosen_sections}
use Rattle.link_pieces.specs.NameMeaning.{name_meaning}
use Rattle.link_pieces.specs.Pieces.{link_pieces}
use Rattle.link_pieces.specs.PieceIndex.{piece_index, common_index, linker_index}
use Rattle.link_pieces.proofs.CallerLemmas.{found_piece, found_common, found_linker}
use Rattle.link_fields.specs.declared.entry.EntryPlace.{EntryPlace}
use Rattle.link_fields.specs.Entry.{meant, place_in, meant_place, entry_place}
use Rattle.link_fields.specs.Fixes.{piece_at}
use Rattle.link_fields.specs.LoaderPlaces.{own_place, loader_place}
use Rattle.link_fields.specs.Targets.{target_in, meant_target}
use Rattle.relocate.specs.declared.fix.Target.TheVariants as target

-- ---- a place that a name means is inside its section

value_inside : (link : LinkParts) (chosen : List (List Bool)) (position section value : ℕ) → All IsOpened link.modules → MeansPlace link.modules chosen position section value → value ≤ raw_size_of (module_at link.modules position).bytes section
value_inside link chosen position section value opened means =
    let view = module_at link.modules position in
    let bytes = view.bytes in
    let opens = module_opens link.modules position opened means.within in
    elim means.stands [
      | inl defines ↦
          let stands = subst (IsPlaceIn bytes) defines.stands (All-contains (λ (d : Definition). IsPlaceIn bytes d.place) (module_definitions view) defines.definition (module_definitions_stand view opens) defines.own) in
          stands.value
      | inr says ↦
          let parts = and_parts (is_section_number (section_total bytes) section) (nat_le value (raw_size_of bytes section)) says.inside in
          leb-true value (raw_size_of bytes section) parts.1
    ]

-- ---- and inside the piece of the link

pub record IsInside (link : LinkParts) (place : EntryPlace) : Type 0 where
  pub within : place.piece < length (link_pieces link)
  pub inside : place.value ≤ (piece_at link place.piece).size

section_inside : (link : LinkParts) (position section value piece : ℕ) → value ≤ raw_size_of (module_at link.modules position).bytes section → piece_index link position section ≡ Some piece → IsInside link (record { piece = piece; value = value })
section_inside link position section value piece inside found =
    let stands = found_piece link position section piece found in
    let size = ap (λ (p : Piece). p.size) stands.is in
    record { within = stands.within; inside = omega (arith, inside, size) }

common_inside : (link : LinkParts) (position symbol piece : ℕ) → common_index link position symbol ≡ Some piece → IsInside link (record { piece = piece; value = 0 })
common_inside link position symbol piece found =
    record { within = found_common link position symbol piece found; inside = omega arith }

jump_inside : (link : LinkParts) (position piece : ℕ) → linker_index link (FIRST_THUNK + position) ≡ Some piece → IsInside link (record { piece = piece; value = 0 })
jump_inside link position piece found =
    record { within = found_linker link (FIRST_THUNK + position) piece found; inside = omega arith }

by_piece : (link : LinkParts) (value : ℕ) (place : EntryPlace) (found : Option ℕ) → ((piece : ℕ) → found ≡ Some piece → IsInside link (record { piece = piece; value = value })) → place_in value found ≡ Some place → IsInside link place
by_piece link value place None each e = absurd cc
by_piece link value place (Some piece) each e =
    let same : record { piece = piece; value = value } ≡ place = cc in
    subst (IsInside link) same (each piece refl)

by_meaning : (link : LinkParts) (name : List ℕ) (place : EntryPlace) (r : Result Meaning NoMeaning) → All IsOpened link.modules → name_meaning link name ≡ r → meant_place link (meant r) ≡ Some place → IsInside link place
by_meaning link name place (Ok (meaning.Section position section value)) opened is e =
    let inside = value_inside link (chosen_sections link.modules) position section value opened (meaning_stands (names_in link) (chosen_sections link.modules) name position section value is) in
    by_piece link value place (piece_index link position section) (λ piece found. section_inside link position section value piece inside found) e
by_meaning link name place (Ok (meaning.Common position symbol)) opened is e =
    by_piece link 0 place (common_index link position symbol) (λ piece found. common_inside link position symbol piece found) e
by_meaning link name place (Ok (meaning.Slot position)) opened is e = absurd cc
by_meaning link name place (Ok (meaning.Thunk position)) opened is e =
    by_piece link 0 place (linker_index link (FIRST_THUNK + position)) (λ piece found. jump_inside link position piece found) e
by_meaning link name place (Ok (meaning.LocalSlot pointed)) opened is e = absurd cc
by_meaning link name place (Ok (meaning.Absolute value)) opened is e = absurd cc
by_meaning link name place (Ok meaning.ImageBase) opened is e = absurd cc
by_meaning link name place (Err none) opened is e = absurd cc

pub entry_inside : (link : LinkParts) (entry : Option (List ℕ)) (place : EntryPlace) → All IsOpened link.modules → entry_place link entry ≡ Some place → IsInside link place
entry_inside link None place opened e = absurd cc
entry_inside link (Some name) place opened e = by_meaning link name place (name_meaning link name) opened refl e

-- ---- what the loader of a program looks for

-- a place of its own is that of an entry with the same meaning
own_meant : (link : LinkParts) (r : Result Meaning NoMeaning) (place : EntryPlace) → own_place link r ≡ Some place → meant_place link (meant r) ≡ Some place
own_meant link (Ok (meaning.Section position section value)) place e = e
own_meant link (Ok (meaning.Common position symbol)) place e = e
own_meant link (Ok (meaning.Slot position)) place e = absurd cc
own_meant link (Ok (meaning.Thunk position)) place e = absurd cc
own_meant link (Ok (meaning.LocalSlot pointed)) place e = absurd cc
own_meant link (Ok (meaning.Absolute value)) place e = absurd cc
own_meant link (Ok meaning.ImageBase) place e = absurd cc
own_meant link (Err none) place e = absurd cc

pub loader_inside : (link : LinkParts) (name : List ℕ) (place : EntryPlace) → All IsOpened link.modules → loader_place link name ≡ Some place → IsInside link place
loader_inside link name place opened e =
    by_meaning link name place (name_meaning link name) opened refl (own_meant link (name_meaning link name) place e)

target_there : (value : ℕ) (found : Option ℕ) (place : EntryPlace) → place_in value found ≡ Some place → target_in value found ≡ Ok (target.Piece place.piece place.value)
target_there value None place e = absurd cc
target_there value (Some piece) place e =
    let same : record { piece = piece; value = value } ≡ place = cc in
    subst (λ (p : EntryPlace). target_in value (Some piece) ≡ Ok (target.Piece p.piece p.value)) same refl

own_target : (link : LinkParts) (r : Result Meaning NoMeaning) (place : EntryPlace) → own_place link r ≡ Some place → meant_target link r ≡ Ok (target.Piece place.piece place.value)
own_target link (Ok (meaning.Section position section value)) place e = target_there value (piece_index link position section) place e
own_target link (Ok (meaning.Common position symbol)) place e = target_there 0 (common_index link position symbol) place e
own_target link (Ok (meaning.Slot position)) place e = absurd cc
own_target link (Ok (meaning.Thunk position)) place e = absurd cc
own_target link (Ok (meaning.LocalSlot pointed)) place e = absurd cc
own_target link (Ok (meaning.Absolute value)) place e = absurd cc
own_target link (Ok meaning.ImageBase) place e = absurd cc
own_target link (Err none) place e = absurd cc

-- it is what its name means to a relocation
pub loader_target : (link : LinkParts) (name : List ℕ) (place : EntryPlace) → loader_place link name ≡ Some place → meant_target link (name_meaning link name) ≡ Ok (target.Piece place.piece place.value)
loader_target link name place e = own_target link (name_meaning link name) place e
