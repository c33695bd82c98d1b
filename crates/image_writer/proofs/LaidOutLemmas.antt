-- What is laid out can be written: from each section by its index to the sections one after the other.
use Rattle.std.proofs.Common.{◌≡◌, ℕ, zero, suc, ◌+◌, ◌<◌, ◌≤◌, Bool, true, false, cond, IsTrue, List, [], ◌∷◌, length, get_or, map, refl, sym, ap, subst, inl, inr, arith}
use Rattle.std.specs.List.{All}
use Rattle.std.proofs.Math.ListN.{get_or-map}
use Rattle.std.proofs.lemmas.Bool.{cases_lt}
use Rattle.std.proofs.lemmas.List.Elements.{All-head, All-tail, All-weaker}
use Rattle.link_base.proofs.ListLemmas.{all_front, all_back}
use Rattle.section_group.specs.declared.piece.Piece.{Piece}
use Rattle.section_group.specs.declared.piece.OutSection.{OutSection}
use Rattle.section_group.specs.SectionOrder.{no_piece}
use Rattle.section_group.specs.Uniqueness.{row_of, rows_of}
use Rattle.address_layout.specs.declared.layout.Placed.{Placed}
use Rattle.address_layout.specs.declared.layout.Layout.{Layout}
use Rattle.address_layout.specs.Places.{row_at, piece_in, piece_end, piece_floor, end_before, file_before}
use Rattle.address_layout.specs.Layout.{all_pieces, placed_at}
use Rattle.address_layout.proofs.CallerLemmas.{row_here}
use Rattle.section_group.specs.PieceContents.{piece_contents, HasItsBytes}
use Rattle.image_writer.specs.WrittenImage.{place_in, IsSectionLaidOut, IsLaidOut, HasRoom, HaveRoom, HasContents}
use Rattle.image_writer.specs.RawData.{section_bytes}
use Rattle.image_writer.specs.RawData.{next_place, Ascend}
use Rattle.image_writer.proofs.RawLemmas.{Lie}
use Rattle.image_writer.proofs.ChainLemmas.{IsWritten, AreWritten}

-- ---- parts of a list of facts

-- what holds of all pieces that stand holds of those of a section
pub all_here : (P : ℕ → Type 0) (sections : List OutSection) (i : ℕ) (section : OutSection) → i < length sections → section ≡ get_or sections i section → All P (all_pieces sections) → All P section.pieces.items
all_here P [] i section lt is all = absurd (omega arith)
all_here P (s ∷ ss) zero section lt is all = subst (λ (x : OutSection). All P x.pieces.items) (sym is) (all_front P s.pieces.items (all_pieces ss) all)
all_here P (s ∷ ss) (suc i) section lt is all = all_here P ss i section (omega arith) is (all_back P s.pieces.items (all_pieces ss) all)

-- ---- the contents of a piece

of_piece : (piece : Piece) → (IsTrue piece.init → length (piece_contents piece) ≡ piece.size) → (length (piece_contents piece) ≤ piece.size) × (0 < length (piece_contents piece) → IsTrue piece.init)
of_piece piece has = go piece.init _ piece.size has
  where
    go : (b : Bool) (bytes : List ℕ) (size : ℕ) → (IsTrue b → length (cond b bytes []) ≡ size) → (length (cond b bytes []) ≤ size) × (0 < length (cond b bytes []) → IsTrue b)
    go true bytes size has = (omega (arith, has refl), λ some. refl)
    go false bytes size has = (omega arith, λ some. absurd (omega arith))

-- what an initialised piece has in its object has room where it has as many bytes as its size
pub room_of : (pieces : List Piece) (k : ℕ) → HasItsBytes pieces k → HasRoom pieces (map piece_contents pieces) k
room_of pieces k has =
    let P : List ℕ → Type 0 = λ bytes. (length bytes ≤ (get_or pieces k no_piece).size) × (0 < length bytes → IsTrue (get_or pieces k no_piece).init) in
    subst P (sym (get_or-map piece_contents pieces k no_piece)) (of_piece (get_or pieces k no_piece) has)

pub have_room : (pieces : List Piece) (sections : List OutSection) → HasContents pieces sections → HaveRoom pieces sections (map piece_contents pieces)
have_room pieces sections has = All-weaker (HasItsBytes pieces) (HasRoom pieces (map piece_contents pieces)) (λ k. room_of pieces k) (all_pieces sections) has

-- ---- the pieces of a section

next_low : (bytes : List ℕ) (rva place start size : ℕ) → place ≤ start → start ≤ rva → length bytes ≤ size → next_place bytes rva place ≤ rva + size
next_low [] rva place start size a b c = omega arith
next_low (byte ∷ bytes) rva place start size a b c = omega arith

next_end : (bytes : List ℕ) (rva place end size : ℕ) → place ≤ end → length bytes ≤ size → (0 < length bytes → rva + size ≤ end) → next_place bytes rva place ≤ end
next_end [] rva place end size a b c = a
next_end (byte ∷ bytes) rva place end size a b c = omega (arith, b, c (omega arith))

-- each piece stands at or above the end of the one before it
abbrev Climbs : List Piece → List ℕ → List ℕ → List ℕ → ℕ → Type 0
Climbs pieces rvas name indexes start =
    (j : ℕ) → j < length indexes → piece_floor pieces (name, indexes) start (place_in rvas (name, indexes)) j ≤ place_in rvas (name, indexes) j

climbs_on : (pieces : List Piece) (rvas name : List ℕ) (k : ℕ) (indexes : List ℕ) (start : ℕ) → Climbs pieces rvas name (k ∷ indexes) start → Climbs pieces rvas name indexes (get_or rvas k 0 + (get_or pieces k no_piece).size)
climbs_on pieces rvas name k indexes start up zero lt = up (suc zero) (omega arith)
climbs_on pieces rvas name k indexes start up (suc j) lt = up (suc (suc j)) (omega arith)

-- each piece of a kind ends at or before an end
abbrev EndBelow : List Piece → List ℕ → List ℕ → List ℕ → (Piece → Type 0) → ℕ → Type 0
EndBelow pieces rvas name indexes P end =
    (j : ℕ) → j < length indexes → P (piece_in pieces (name, indexes) j) → piece_end pieces (name, indexes) (place_in rvas (name, indexes)) j ≤ end

ascends : (pieces : List Piece) (contents : List (List ℕ)) (rvas name indexes : List ℕ) (start place end : ℕ) → place ≤ start → place ≤ end → All (HasRoom pieces contents) indexes → Climbs pieces rvas name indexes start → EndBelow pieces rvas name indexes (λ piece. IsTrue piece.init) end → Ascend (section_bytes rvas contents indexes) end place
unfolding Ascend
ascends pieces contents rvas name [] start place end low fits has up below = fits
ascends pieces contents rvas name (k ∷ indexes) start place end low fits has up below =
    let rva = get_or rvas k 0 in
    let size = (get_or pieces k no_piece).size in
    let bytes = get_or contents k [] in
    let first : start ≤ rva = up 0 (omega arith) in
    let content = All-head (HasRoom pieces contents) k indexes has in
    let inside : 0 < length bytes → rva + size ≤ end = λ some. below 0 (omega arith) (content.1 some) in (
      λ some. omega arith,
      ascends pieces contents rvas name indexes (rva + size) (next_place bytes rva place) end (next_low bytes rva place start size low first content.0) (next_end bytes rva place end size fits content.0 inside) (All-tail (HasRoom pieces contents) k indexes has) (climbs_on pieces rvas name k indexes start up) (λ j lt init. below (suc j) (omega arith) init),
    )

lies : (pieces : List Piece) (contents : List (List ℕ)) (rvas name indexes : List ℕ) (start low high : ℕ) → low ≤ start → All (HasRoom pieces contents) indexes → Climbs pieces rvas name indexes start → EndBelow pieces rvas name indexes (λ piece. 0 < piece.size) high → Lie low high (section_bytes rvas contents indexes)
unfolding Lie
lies pieces contents rvas name [] start low high le has up below = tt
lies pieces contents rvas name (k ∷ indexes) start low high le has up below =
    let rva = get_or rvas k 0 in
    let size = (get_or pieces k no_piece).size in
    let bytes = get_or contents k [] in
    let first : start ≤ rva = up 0 (omega arith) in
    let content = All-head (HasRoom pieces contents) k indexes has in
    let short : length bytes ≤ size = content.0 in
    let inside : 0 < size → rva + size ≤ high = λ some. below 0 (omega arith) some in (
      λ some. (omega arith, omega (arith, inside (omega arith))),
      lies pieces contents rvas name indexes (rva + size) low high (omega arith) (All-tail (HasRoom pieces contents) k indexes has) (climbs_on pieces rvas name k indexes start up) (λ j lt has_bytes. below (suc j) (omega arith) has_bytes),
    )

pub section_ascends : (pieces : List Piece) (contents : List (List ℕ)) (rvas : List ℕ) (row : List ℕ × List ℕ) (before file : ℕ) (place : Placed) → IsSectionLaidOut pieces rvas row before file place → All (HasRoom pieces contents) row.1 → Ascend (section_bytes rvas contents row.1) (place.rva + place.raw) place.rva
section_ascends pieces contents rvas row before file place is has =
    ascends pieces contents rvas row.0 row.1 place.rva place.rva (place.rva + place.raw) (omega arith) (omega arith) has is.ascending is.in_raw

section_written : (pieces : List Piece) (contents : List (List ℕ)) (rvas : List ℕ) (section : OutSection) (before file : ℕ) (place : Placed) → IsSectionLaidOut pieces rvas (section.name, section.pieces.items) before file place → All (HasRoom pieces contents) section.pieces.items → IsWritten rvas contents (row_of section) place before file
section_written pieces contents rvas section before file place is has = record {
  aligned = is.aligned;
  above = is.above;
  ascending = section_ascends pieces contents rvas (section.name, section.pieces.items) before file place is has;
  lying = lies pieces contents rvas section.name section.pieces.items place.rva place.rva (place.rva + place.size) (omega arith) has is.ascending is.in_size;
  file = is.file;
}

-- ---- all sections

end_shift : (start : ℕ) (place : Placed) (placed : List Placed) (i : ℕ) → end_before start (placed_at (place ∷ placed)) (suc i) ≡ end_before (place.rva + place.size) (placed_at placed) i
end_shift start place placed zero = refl
end_shift start place placed (suc i) = refl

file_shift : (start : ℕ) (place : Placed) (placed : List Placed) (i : ℕ) → file_before start (placed_at (place ∷ placed)) (suc i) ≡ file_before (start + place.raw) (placed_at placed) i
file_shift start place placed zero = refl
file_shift start place placed (suc i) = ap (λ (n : ℕ). n + (placed_at placed i).raw) (file_shift start place placed i)

pub file_rises : (start : ℕ) (placed : ℕ → Placed) (i n : ℕ) → i ≤ n → file_before start placed i ≤ file_before start placed n
file_rises start placed i zero le =
    let same : i ≡ 0 = omega arith in subst (λ (k : ℕ). file_before start placed k ≤ file_before start placed 0) (sym same) (omega arith)
file_rises start placed i (suc n) le =
    elim (cases_lt i (suc n)) [
      | inl before ↦ omega (arith, file_rises start placed i n (omega arith))
      | inr last ↦
          let same : i ≡ suc n = omega arith in
          subst (λ (k : ℕ). file_before start placed k ≤ file_before start placed (suc n)) (sym same) (omega arith)
    ]

chain : (pieces : List Piece) (contents : List (List ℕ)) (rvas : List ℕ) (image : ℕ) (sections : List OutSection) (placed : List Placed) (start file : ℕ) → length placed ≡ length sections → HaveRoom pieces sections contents → ((i : ℕ) → i < length sections → IsSectionLaidOut pieces rvas (row_at sections i) (end_before start (placed_at placed) i) (file_before file (placed_at placed) i) (placed_at placed i)) → end_before start (placed_at placed) (length placed) ≤ image → file_before file (placed_at placed) (length placed) < 4294967296 → AreWritten rvas contents image (rows_of sections) placed start file
unfolding AreWritten
chain pieces contents rvas image [] [] start file same has each inside fits = (inside, fits)
chain pieces contents rvas image [] (place ∷ placed) start file same has each inside fits = absurd (omega arith)
chain pieces contents rvas image (s ∷ ss) [] start file same has each inside fits = absurd (omega arith)
chain pieces contents rvas image (s ∷ ss) (place ∷ placed) start file same has each inside fits =
    let at : ℕ → ℕ → ℕ → Type 0 = λ i before file_before. IsSectionLaidOut pieces rvas (row_at ss i) before file_before (placed_at placed i) in (
      section_written pieces contents rvas s start file place (each 0 (omega arith)) (all_front (HasRoom pieces contents) s.pieces.items (all_pieces ss) has),
      chain pieces contents rvas image ss placed (place.rva + place.size) (file + place.raw) (omega arith) (all_back (HasRoom pieces contents) s.pieces.items (all_pieces ss) has)
          (λ i lt. subst (λ (n : ℕ). at i n (file_before (file + place.raw) (placed_at placed) i)) (end_shift start place placed i) (subst (at i (end_before start (placed_at (place ∷ placed)) (suc i))) (file_shift file place placed i) (each (suc i) (omega arith))))
          (subst (λ (n : ℕ). n ≤ image) (end_shift start place placed (length placed)) inside)
          (subst (λ (n : ℕ). n < 4294967296) (file_shift file place placed (length placed)) fits),
    )

pub laid_out_written : (pieces : List Piece) (sections : List OutSection) (layout : Layout) (contents : List (List ℕ)) → IsLaidOut pieces sections layout → HaveRoom pieces sections contents → AreWritten layout.pieces.items contents layout.image (rows_of sections) layout.sections.items layout.headers layout.headers
laid_out_written pieces sections layout contents out has =
    chain pieces contents layout.pieces.items layout.image sections layout.sections.items layout.headers layout.headers out.section_for_each has out.each out.inside out.file

-- the pieces of a section by its index ascend
pub ascends_there : (pieces : List Piece) (sections : List OutSection) (layout : Layout) (contents : List (List ℕ)) (i : ℕ) (section : OutSection) → IsLaidOut pieces sections layout → HaveRoom pieces sections contents → i < length sections → section ≡ get_or sections i section → Ascend (section_bytes layout.pieces.items contents section.pieces.items) ((placed_at layout.sections.items i).rva + (placed_at layout.sections.items i).raw) (placed_at layout.sections.items i).rva
ascends_there pieces sections layout contents i section out has lt is =
    let place = placed_at layout.sections.items i in
    let before = end_before layout.headers (placed_at layout.sections.items) i in
    let file = file_before layout.headers (placed_at layout.sections.items) i in
    section_ascends pieces contents layout.pieces.items (section.name, section.pieces.items) before file place
    (subst (λ (row : List ℕ × List ℕ). IsSectionLaidOut pieces layout.pieces.items row before file place) (row_here sections i section lt is) (out.each i lt))
    (all_here (HasRoom pieces contents) sections i section lt is has)
