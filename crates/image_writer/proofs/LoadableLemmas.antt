-- The plan of what is laid out loads, and so does its file.
use Rattle.std.proofs.Common.{◌≡◌, ℕ, ◌<◌, ◌≤◌, true, IsTrue, List, [], ◌∷◌, length, get_or, map, sym, ap, ◌∙◌, subst, arith}
use Rattle.std.specs.List.{All, flat_map}
use Rattle.std.proofs.lemmas.List.Elements.{All-get_or, All-nil, All-cons, All-append}
use Rattle.section_group.specs.declared.piece.Piece.{Piece}
use Rattle.section_group.specs.declared.piece.OutSection.{OutSection}
use Rattle.section_group.specs.SectionOrder.{no_piece}
use Rattle.section_group.specs.Uniqueness.{SectionRow as OutRow, rows_of}
use Rattle.address_layout.specs.declared.layout.Layout.{Layout}
use Rattle.address_layout.specs.Layout.{all_pieces}
use Rattle.image_writer.specs.declared.headers.Headers.{Headers}
use Rattle.image_writer.specs.HeaderTable.{size_of_headers}
use Rattle.image_writer.specs.ExpectedImage.{PlacedBytes, permits}
use Rattle.image_writer.specs.LoadablePlan.{HasOneLength, IsRelocatable, IsWritable, IsLoadable, AreRowsPlaced, AreInRows}
use Rattle.section_group.specs.PieceContents.{piece_contents}
use Rattle.image_writer.specs.MovedContents.{HaveOneLength}
use Rattle.image_writer.specs.WrittenImage.{placed_piece, section_pieces, section_rows, written_plan, layout_plan, HaveRoom, IsLaidOut, HasContents}
use Rattle.image_writer.proofs.PlanBytes.{written_bytes}
use Rattle.image_writer.proofs.ChainLemmas.{start_inside, rows_placed, pieces_in_rows}
use Rattle.image_writer.proofs.LaidOutLemmas.{laid_out_written}
use Rattle.image_writer.proofs.TableLemmas.{length-section_rows}

-- ---- contents

-- where each initialised piece has as many bytes as its size, those of the sections have
pub has_contents : (pieces : List Piece) (sections : List OutSection) (layout : Layout) → All (λ piece. IsTrue piece.init → length (piece_contents piece) ≡ piece.size) pieces → IsLaidOut pieces sections layout → HasContents pieces sections
has_contents pieces sections layout filled out =
    λ i d lt. All-get_or (λ (piece : Piece). IsTrue piece.init → length (piece_contents piece) ≡ piece.size) pieces (get_or (all_pieces sections) i d) no_piece (out.within i d lt) filled

-- ---- the lengths of the pieces

lengths_of : (rvas : List ℕ) (contents : ℕ → List (List ℕ)) (indexes : List ℕ) → HaveOneLength contents → All HasOneLength (map (placed_piece rvas contents) indexes)
lengths_of rvas contents [] same = All-nil HasOneLength
lengths_of rvas contents (k ∷ ks) same =
    All-cons HasOneLength (placed_piece rvas contents k) (map (placed_piece rvas contents) ks) (λ base other. same base other k) (lengths_of rvas contents ks same)

all_lengths : (rvas : List ℕ) (contents : ℕ → List (List ℕ)) (rows : List OutRow) → HaveOneLength contents → All HasOneLength (flat_map (section_pieces rvas contents) rows)
all_lengths rvas contents [] same = All-nil HasOneLength
all_lengths rvas contents (row ∷ rows) same =
    All-append HasOneLength (section_pieces rvas contents row) (flat_map (section_pieces rvas contents) rows) (lengths_of rvas contents row.pieces same) (all_lengths rvas contents rows same)

-- ---- the plan

-- what is laid out can be written
pub written_writable : (headers : Headers) (pieces : List Piece) (sections : List OutSection) (layout : Layout) (contents : ℕ → List (List ℕ)) → IsLaidOut pieces sections layout → HaveRoom pieces sections (contents headers.base) → length headers.directories ≡ 16 → IsWritable (layout_plan headers sections layout contents)
unfolding written_plan
written_writable headers pieces sections layout contents out room directories =
    let rvas = layout.pieces.items in
    let own = contents headers.base in
    let placed = layout.sections.items in
    let are = laid_out_written pieces sections layout own out room in
    let count = length-section_rows pieces sections layout out in
    let len : layout.headers ≡ size_of_headers (length (section_rows (rows_of sections) placed)) = out.headers ∙ ap size_of_headers (sym count) in
    record {
      directories = directories;
      rows = subst (λ (n : ℕ). AreRowsPlaced (section_rows (rows_of sections) placed) n n layout.image) len (rows_placed rvas own layout.image (rows_of sections) placed layout.headers layout.headers are);
    }

pub written_loadable : (headers : Headers) (pieces : List Piece) (sections : List OutSection) (layout : Layout) (contents : ℕ → List (List ℕ)) → IsLaidOut pieces sections layout → HaveRoom pieces sections (contents headers.base) → HaveOneLength contents → length headers.directories ≡ 16 → permits (layout_plan headers sections layout contents) headers.base ≡ true → IsRelocatable (layout_plan headers sections layout contents) → IsLoadable (layout_plan headers sections layout contents)
unfolding written_plan
written_loadable headers pieces sections layout contents out room same directories permitted relocatable =
    let rvas = layout.pieces.items in
    let own = contents headers.base in
    let placed = layout.sections.items in
    let are = laid_out_written pieces sections layout own out room in
    let count = length-section_rows pieces sections layout out in
    let len : layout.headers ≡ size_of_headers (length (section_rows (rows_of sections) placed)) = out.headers ∙ ap size_of_headers (sym count) in
    let inside : layout.headers ≤ layout.image = start_inside rvas own layout.image (rows_of sections) placed layout.headers layout.headers are in
    record {
      writable = written_writable headers pieces sections layout contents out room directories;
      few = omega (arith, count, out.few);
      some_size = some (length sections) layout.headers layout.image out.headers inside;
      size_fits = out.small;
      headers_inside = subst (λ (n : ℕ). n ≤ layout.image) len inside;
      permitted = permitted;
      lengths = all_lengths rvas contents (rows_of sections) same;
      pieces = subst (λ (ps : List PlacedBytes). AreInRows ps (section_rows (rows_of sections) placed)) (sym (written_bytes headers (rows_of sections) placed rvas layout.image contents headers.base)) (pieces_in_rows rvas own layout.image (rows_of sections) placed layout.headers layout.headers are);
      relocatable = relocatable;
    }
  where
    some : (count len image : ℕ) → len ≡ size_of_headers count → len ≤ image → 0 < image
    some count len image is le = omega arith
