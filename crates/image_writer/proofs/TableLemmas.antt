-- The section table and the raw data of what is laid out.
use Rattle.std.proofs.Common.{◌≡◌, ℕ, ◌+◌, ◌*◌, ◌<◌, ◌≤◌, List, [], ◌∷◌, length, refl, arith}
use Rattle.std.specs.List.{flat_map}
use Rattle.std.proofs.lemmas.List.{length-map}
use Rattle.section_group.specs.declared.piece.Piece.{Piece}
use Rattle.section_group.specs.declared.piece.OutSection.{OutSection}
use Rattle.section_group.specs.Uniqueness.{SectionRow as OutRow, row_of, rows_of}
use Rattle.address_layout.specs.declared.layout.Placed.{Placed}
use Rattle.address_layout.specs.declared.layout.Layout.{Layout}
use Rattle.image_writer.specs.HeaderTable.{size_of_code, size_of_initialized_data, size_of_uninitialized_data}
use Rattle.image_writer.specs.ExpectedImage.{raw_bytes}
use Rattle.image_writer.specs.WrittenImage.{section_rows, HaveRoom, IsLaidOut}
use Rattle.image_writer.specs.RawData.{all_bytes}
use Rattle.image_writer.specs.RawData.{laid_all}
use Rattle.image_writer.proofs.RawLemmas.{Lie}
use Rattle.image_writer.proofs.ChainLemmas.{all_raw, code_fits, initialized_fits}
use Rattle.image_writer.proofs.UninitialisedLemmas.{uninitialized_fits}
use Rattle.image_writer.proofs.LaidOutLemmas.{laid_out_written}

length-rows : (rows : List OutRow) (placed : List Placed) → length placed ≡ length rows → length (section_rows rows placed) ≡ length rows
length-rows [] placed same = refl
length-rows (row ∷ rows) [] same = absurd (omega arith)
length-rows (row ∷ rows) (place ∷ placed) same = omega (arith, length-rows rows placed (omega arith))

pub length-section_rows : (pieces : List Piece) (sections : List OutSection) (layout : Layout) → IsLaidOut pieces sections layout → length (section_rows (rows_of sections) layout.sections.items) ≡ length sections
length-section_rows pieces sections layout out =
    omega (arith, length-rows (rows_of sections) layout.sections.items (omega (arith, out.section_for_each, length-map sections row_of)), length-map sections row_of)

pub few_rows : (pieces : List Piece) (sections : List OutSection) (layout : Layout) → IsLaidOut pieces sections layout → length (section_rows (rows_of sections) layout.sections.items) < 65536
few_rows pieces sections layout out = omega (arith, length-section_rows pieces sections layout out, out.few)

pub code_small : (pieces : List Piece) (sections : List OutSection) (layout : Layout) (contents : List (List ℕ)) → IsLaidOut pieces sections layout → HaveRoom pieces sections contents → size_of_code (section_rows (rows_of sections) layout.sections.items) < 4294967296
code_small pieces sections layout contents out has =
    omega (arith, code_fits layout.pieces.items contents layout.image (rows_of sections) layout.sections.items layout.headers layout.headers (laid_out_written pieces sections layout contents out has))

pub initialized_small : (pieces : List Piece) (sections : List OutSection) (layout : Layout) (contents : List (List ℕ)) → IsLaidOut pieces sections layout → HaveRoom pieces sections contents → size_of_initialized_data (section_rows (rows_of sections) layout.sections.items) < 4294967296
initialized_small pieces sections layout contents out has =
    omega (arith, initialized_fits layout.pieces.items contents layout.image (rows_of sections) layout.sections.items layout.headers layout.headers (laid_out_written pieces sections layout contents out has))

pub uninitialized_small : (pieces : List Piece) (sections : List OutSection) (layout : Layout) (contents : List (List ℕ)) → IsLaidOut pieces sections layout → HaveRoom pieces sections contents → size_of_uninitialized_data (section_rows (rows_of sections) layout.sections.items) < 4294967296
uninitialized_small pieces sections layout contents out has =
    small (size_of_uninitialized_data (section_rows (rows_of sections) layout.sections.items)) layout.headers layout.image (length (rows_of sections)) (length sections) (length-map sections row_of) out.few out.small
    (uninitialized_fits layout.pieces.items contents layout.image (rows_of sections) layout.sections.items layout.headers layout.headers (laid_out_written pieces sections layout contents out has))
  where
    small : (sum start image count sections : ℕ) → count ≡ sections → sections ≤ 96 → image ≤ 536870912 → start + sum ≤ image + 511 * count → sum < 4294967296
    small sum start image count sections same few fits le = omega arith

pub all_raw_here : (pieces : List Piece) (sections : List OutSection) (layout : Layout) (contents : List (List ℕ)) → IsLaidOut pieces sections layout → HaveRoom pieces sections contents → laid_all layout.pieces.items contents (rows_of sections) layout.sections.items ≡ flat_map (raw_bytes (all_bytes layout.pieces.items contents (rows_of sections))) (section_rows (rows_of sections) layout.sections.items)
unfolding Lie
all_raw_here pieces sections layout contents out has =
    all_raw layout.pieces.items contents layout.image (rows_of sections) layout.sections.items layout.headers layout.headers [] (laid_out_written pieces sections layout contents out has) tt
