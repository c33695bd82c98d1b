-- The bytes of a piece in the memory that a layout means, and the directories in its file.
use Rattle.std.proofs.Common.{◌≡◌, ℕ, zero, suc, ◌+◌, ◌*◌, ◌^◌, ◌<◌, ◌≤◌, nat_lt, false, List, [], ◌∷◌, ◌++◌, length, get_or, slice_index, slice_get, Some, refl, sym, ap, ◌∙◌, subst, le-ltb, arith}
use Rattle.std.proofs.lemmas.Bool.{cond-false}
use Rattle.std.proofs.lemmas.List.{length-map}
use Rattle.std.proofs.lemmas.List.FromFn.{get_or-map-range_with_len, length-map-range_with_len}
use Rattle.link_base.specs.Bytes.{bytes_at, number_bytes}
use Rattle.section_group.specs.declared.piece.Piece.{Piece}
use Rattle.section_group.specs.declared.piece.OutSection.{OutSection}
use Rattle.section_group.specs.Uniqueness.{SectionRow as OutRow, row_of, rows_of}
use Rattle.address_layout.specs.declared.layout.Placed.{Placed}
use Rattle.address_layout.specs.declared.layout.Layout.{Layout}
use Rattle.address_layout.specs.Layout.{placed_at}
use Rattle.address_layout.specs.Places.{row_at}
use Rattle.pe_loader.specs.LoadedImage.{directory_rva, directory_size}
use Rattle.image_writer.specs.declared.headers.Headers.{Headers}
use Rattle.image_writer.specs.ExpectedImage.{ImagePlan, PlacedBytes, piece_byte, expected_byte, expected_image, image_file}
use Rattle.image_writer.specs.HeaderTable.{size_of_headers, directory_fields}
use Rattle.image_writer.specs.PieceInFile.{piece_at}
use Rattle.image_writer.specs.RawData.{all_bytes}
use Rattle.image_writer.specs.WrittenImage.{written_plan, layout_plan, HaveRoom, IsLaidOut}
use Rattle.image_writer.proofs.ChainLemmas.{AreWritten, start_inside}
use Rattle.image_writer.proofs.HeaderFields.{signature_place}
use Rattle.image_writer.proofs.HeaderParts.{length-directory_fields, parts_stand}
use Rattle.image_writer.proofs.LaidOutLemmas.{laid_out_written}
use Rattle.image_writer.proofs.PatchLemmas.{bytes_are}
use Rattle.image_writer.proofs.PieceInFileLemmas.{pieces_link}
use Rattle.image_writer.proofs.PieceLemmas.{lies_in, low_in, owner}
use Rattle.image_writer.proofs.PlanBytes.{written_bytes}
use Rattle.image_writer.proofs.StandsAt.{StandsAt, part_at, reads, behind}
use Rattle.image_writer.proofs.TableLemmas.{length-section_rows}

-- ---- a directory

pub directory_reads : (plan : ImagePlan) (number : ℕ) (directory : ℕ × ℕ) → slice_get plan.headers.directories number ≡ Some directory → directory.0 < 2 ^ 32 → directory_rva (image_file plan) number ≡ directory.0
unfolding directory_rva
directory_reads plan number directory is fits =
    let here : StandsAt (directory_fields directory) (200 + 8 * number) (image_file plan) = part_at directory_fields 8 length-directory_fields plan.headers.directories number directory 200 (image_file plan) (parts_stand plan).directories_at is in
    rw (signature_place plan) (reads _ _ _ (200 + 8 * number) here refl fits)

pub directory_sized : (plan : ImagePlan) (number : ℕ) (directory : ℕ × ℕ) → slice_get plan.headers.directories number ≡ Some directory → directory.1 < 2 ^ 32 → directory_size (image_file plan) number ≡ directory.1
unfolding directory_size
directory_sized plan number directory is fits =
    let here : StandsAt (directory_fields directory) (200 + 8 * number) (image_file plan) = part_at directory_fields 8 length-directory_fields plan.headers.directories number directory 200 (image_file plan) (parts_stand plan).directories_at is in
    let at : 200 + 8 * number + 4 ≡ 204 + 8 * number = omega arith in
    rw (signature_place plan) (reads _ _ _ (204 + 8 * number) (subst (λ (o : ℕ). StandsAt (number_bytes 4 directory.1 ++ []) o (image_file plan)) at (behind _ _ _ here)) refl fits)

-- ---- a section ends inside the image

ends_inside : (rvas : List ℕ) (contents : List (List ℕ)) (image : ℕ) (rows : List OutRow) (placed : List Placed) (start file i : ℕ) → AreWritten rvas contents image rows placed start file → i < length rows → (placed_at placed i).rva + (placed_at placed i).size ≤ image
unfolding AreWritten
ends_inside rvas contents image [] placed start file i are lt = absurd (omega arith)
ends_inside rvas contents image (row ∷ rows) [] start file i are lt = absurd are
ends_inside rvas contents image (row ∷ rows) (place ∷ placed) start file zero are lt = start_inside rvas contents image rows placed (place.rva + place.size) (file + place.raw) are.1
ends_inside rvas contents image (row ∷ rows) (place ∷ placed) start file (suc i) are lt = ends_inside rvas contents image rows placed (place.rva + place.size) (file + place.raw) i are.1 (omega arith)

-- ---- a piece

module _ (headers : Headers) (pieces : List Piece) (sections : List OutSection) (layout : Layout) (contents : ℕ → List (List ℕ)) (base : ℕ) (out : IsLaidOut pieces sections layout) (room : HaveRoom pieces sections (contents base)) where
  abbrev plan : ImagePlan
  plan = layout_plan headers sections layout contents

  abbrev bytes_of : ℕ → List ℕ
  bytes_of k = get_or (contents base) k []

  abbrev rva_at : ℕ → ℕ
  rva_at k = get_or layout.pieces.items k 0

  written : AreWritten layout.pieces.items (contents base) layout.image (rows_of sections) layout.sections.items layout.headers layout.headers
  written = laid_out_written pieces sections layout (contents base) out room

  rows_count : length (rows_of sections) ≡ length sections
  rows_count = length-map sections row_of

  -- it stands behind the headers and ends inside the image
  pub above_headers : (i j : ℕ) → i < length sections → j < length (row_at sections i).1 → 0 < length (get_or (contents base) (piece_at sections i j) []) → layout.headers ≤ get_or layout.pieces.items (piece_at sections i j) 0
  above_headers i j lt =
      subst (λ (ks : List ℕ). j < length ks → 0 < length (get_or (contents base) (get_or ks j 0) []) → layout.headers ≤ get_or layout.pieces.items (get_or ks j 0) 0) (pieces_link sections i)
      (low_in layout.pieces.items (contents base) layout.image (rows_of sections) layout.sections.items layout.headers layout.headers i j written (omega (arith, lt, rows_count)))

  ends_in_image : (i j : ℕ) → i < length sections → j < length (row_at sections i).1 → 0 < length (get_or (contents base) (piece_at sections i j) []) → get_or layout.pieces.items (piece_at sections i j) 0 + length (get_or (contents base) (piece_at sections i j) []) ≤ layout.image
  ends_in_image i j lt =
      subst (λ (ks : List ℕ). j < length ks → 0 < length (get_or (contents base) (get_or ks j 0) []) → get_or layout.pieces.items (get_or ks j 0) 0 + length (get_or (contents base) (get_or ks j 0) []) ≤ layout.image) (pieces_link sections i)
      (λ below some.
      let within : i < length (rows_of sections) = omega (arith, lt, rows_count) in
      let lies = lies_in layout.pieces.items (contents base) layout.image (rows_of sections) layout.sections.items layout.headers layout.headers i j written within below some in
      omega (arith, lies.in_size, ends_inside layout.pieces.items (contents base) layout.image (rows_of sections) layout.sections.items layout.headers layout.headers i written within))

  -- each of its bytes stands at its address
  owned : (i j t : ℕ) → i < length sections → j < length (row_at sections i).1 → t < length (get_or (contents base) (piece_at sections i j) []) → piece_byte (all_bytes layout.pieces.items (contents base) (rows_of sections)) (get_or layout.pieces.items (piece_at sections i j) 0 + t) ≡ get_or (get_or (contents base) (piece_at sections i j) []) t 0
  owned i j t lt =
      subst (λ (ks : List ℕ). j < length ks → t < length (get_or (contents base) (get_or ks j 0) []) → piece_byte (all_bytes layout.pieces.items (contents base) (rows_of sections)) (get_or layout.pieces.items (get_or ks j 0) 0 + t) ≡ get_or (get_or (contents base) (get_or ks j 0) []) t 0) (pieces_link sections i)
      (owner layout.pieces.items (contents base) layout.image (rows_of sections) layout.sections.items layout.headers layout.headers i j t written (omega (arith, lt, rows_count)))

  plan_size : (layout_plan headers sections layout contents).size ≡ layout.image
  unfolding written_plan
  plan_size = refl

  plan_rows : length (layout_plan headers sections layout contents).rows ≡ length sections
  unfolding written_plan
  plan_rows = length-section_rows pieces sections layout out

  behind_headers : (rva : ℕ) → layout.headers ≤ rva → nat_lt rva (size_of_headers (length (layout_plan headers sections layout contents).rows)) ≡ false
  behind_headers rva le =
      let size : layout.headers ≡ size_of_headers (length (layout_plan headers sections layout contents).rows) = out.headers ∙ ap size_of_headers (sym plan_rows) in
      le-ltb rva (size_of_headers (length (layout_plan headers sections layout contents).rows)) (subst (λ (n : ℕ). n ≤ rva) size le)

  byte_expected : (rva : ℕ) → layout.headers ≤ rva → expected_byte (layout_plan headers sections layout contents) base rva ≡ piece_byte (all_bytes layout.pieces.items (contents base) (rows_of sections)) rva
  unfolding expected_byte
  byte_expected rva le =
      cond-false (nat_lt rva (size_of_headers (length (layout_plan headers sections layout contents).rows))) _ _ (behind_headers rva le)
      ∙ ap (λ (ps : List PlacedBytes). piece_byte ps rva) (written_bytes headers (rows_of sections) layout.sections.items layout.pieces.items layout.image contents base)

  image_length : length (expected_image (layout_plan headers sections layout contents) base) ≡ layout.image
  unfolding expected_image
  image_length = length-map-range_with_len (expected_byte (layout_plan headers sections layout contents) base) 0 (layout_plan headers sections layout contents).size ∙ plan_size

  image_byte : (rva : ℕ) → rva < layout.image → slice_index (expected_image (layout_plan headers sections layout contents) base) rva ≡ expected_byte (layout_plan headers sections layout contents) base rva
  unfolding expected_image
  image_byte rva lt = get_or-map-range_with_len (expected_byte (layout_plan headers sections layout contents) base) 0 (layout_plan headers sections layout contents).size rva rva 0 (omega (arith, lt, plan_size)) (omega arith)

  pub in_memory : (i j : ℕ) → i < length sections → j < length (row_at sections i).1 → bytes_at (expected_image (layout_plan headers sections layout contents) base) (get_or layout.pieces.items (piece_at sections i j) 0) (length (get_or (contents base) (piece_at sections i j) [])) ≡ get_or (contents base) (piece_at sections i j) []
  in_memory i j lt below =
      let rva = get_or layout.pieces.items (piece_at sections i j) 0 in
      let bytes = get_or (contents base) (piece_at sections i j) [] in
      bytes_are (expected_image (layout_plan headers sections layout contents) base) rva bytes
      (λ some. omega (arith, ends_in_image i j lt below some, image_length))
      (λ t inside.
      let low = above_headers i j lt below (omega (arith, inside)) in
      let high = ends_in_image i j lt below (omega (arith, inside)) in
      image_byte (rva + t) (omega (arith, high, inside))
      ∙ byte_expected (rva + t) (omega (arith, low))
      ∙ owned i j t lt below inside)
