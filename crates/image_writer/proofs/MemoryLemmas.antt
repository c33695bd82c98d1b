-- What stands in the memory of a layout at a base: the bytes of each piece at its RVA.
use Rattle.std.proofs.Common.{◌≡◌, ℕ, zero, suc, ◌+◌, ◌-◌, ◌<◌, ◌≤◌, nat_lt, nat_le, ◌&&◌, Bool, true, false, cond, List, [], ◌∷◌, ◌++◌, length, get_or, slice_index, refl, sym, ap, ◌∙◌, subst, inl, inr, arith, le-ltb}
use Rattle.std.proofs.Math.Nat.{add-sub_of_le}
use Rattle.std.proofs.lemmas.Bool.{cases_lt, cond-true, cond-false, and_parts, leb-true, ltb-true}
use Rattle.std.proofs.lemmas.List.{length-map, get_or_past}
use Rattle.std.proofs.lemmas.List.FromFn.{get_or-map-range_with_len, length-map-range_with_len}
use Rattle.section_group.specs.declared.piece.Piece.{Piece}
use Rattle.section_group.specs.declared.piece.OutSection.{OutSection}
use Rattle.section_group.specs.Uniqueness.{SectionRow as OutRow, row_of, rows_of}
use Rattle.address_layout.specs.declared.layout.Placed.{Placed}
use Rattle.address_layout.specs.declared.layout.Layout.{Layout}
use Rattle.address_layout.specs.Places.{row_at}
use Rattle.image_writer.specs.declared.headers.Headers.{Headers}
use Rattle.image_writer.specs.HeaderTable.{size_of_headers}
use Rattle.image_writer.specs.ExpectedImage.{PlacedBytes, ImagePlan, holds, piece_byte, plan_bytes, plan_headers, expected_byte, expected_image}
use Rattle.image_writer.specs.WrittenImage.{section_rows, written_plan, layout_plan, HaveRoom, IsLaidOut}
use Rattle.image_writer.specs.RawData.{piece_bytes, section_bytes, all_bytes}
use Rattle.image_writer.specs.PieceInFile.{piece_at}
use Rattle.image_writer.proofs.ChainLemmas.{AreWritten, start_inside}
use Rattle.image_writer.proofs.LaidOutLemmas.{laid_out_written}
use Rattle.image_writer.proofs.PieceLemmas.{pieces_of, lies_in, low_in, owner}
use Rattle.image_writer.proofs.PieceInFileLemmas.{pieces_link}
use Rattle.image_writer.proofs.PlanBytes.{written_bytes}
use Rattle.image_writer.proofs.TableLemmas.{length-section_rows}

-- ---- a piece ends inside the image

high_in : (rvas : List ℕ) (contents : List (List ℕ)) (image : ℕ) (rows : List OutRow) (placed : List Placed) (start file i j : ℕ) → AreWritten rvas contents image rows placed start file → i < length rows → j < length (pieces_of rows i) → 0 < length (get_or contents (get_or (pieces_of rows i) j 0) []) → get_or rvas (get_or (pieces_of rows i) j 0) 0 + length (get_or contents (get_or (pieces_of rows i) j 0) []) ≤ image
unfolding AreWritten
high_in rvas contents image [] placed start file i j are lt below some = absurd (omega arith)
high_in rvas contents image (row ∷ rows) [] start file i j are lt below some = absurd are
high_in rvas contents image (row ∷ rows) (place ∷ placed) start file zero j are lt below some =
    let lies = lies_in rvas contents image (row ∷ rows) (place ∷ placed) start file 0 j are lt below some in
    let later = start_inside rvas contents image rows placed (place.rva + place.size) (file + place.raw) are.1 in
    omega (arith, lies.in_size, later)
high_in rvas contents image (row ∷ rows) (place ∷ placed) start file (suc i) j are lt below some =
    high_in rvas contents image rows placed (place.rva + place.size) (file + place.raw) i j are.1 (omega arith) below some

-- ---- contents that agree at an RVA

-- each piece is as long in both, and has one byte at the RVA where it has one there
pub record Agree (rvas : List ℕ) (old new : List (List ℕ)) (rva k : ℕ) : Type 0 where
  pub same_length : length (get_or new k []) ≡ length (get_or old k [])
  pub same_byte : (t : ℕ) → get_or rvas k 0 + t ≡ rva → t < length (get_or old k []) → get_or (get_or new k []) t 0 ≡ get_or (get_or old k []) t 0

one_agrees : (rvas : List ℕ) (old new : List (List ℕ)) (rva k : ℕ) (xs ys : List PlacedBytes) → Agree rvas old new rva k → piece_byte xs rva ≡ piece_byte ys rva → piece_byte (piece_bytes rvas new k ∷ xs) rva ≡ piece_byte (piece_bytes rvas old k ∷ ys) rva
one_agrees rvas old new rva k xs ys agree same = go (holds (piece_bytes rvas old k) rva) refl
  where
    start : ℕ
    start = get_or rvas k 0

    held : holds (piece_bytes rvas new k) rva ≡ holds (piece_bytes rvas old k) rva
    held = ap (λ (n : ℕ). nat_le (get_or rvas k 0) rva && nat_lt rva (get_or rvas k 0 + n)) agree.same_length

    go : (b : Bool) → holds (piece_bytes rvas old k) rva ≡ b → piece_byte (piece_bytes rvas new k ∷ xs) rva ≡ piece_byte (piece_bytes rvas old k ∷ ys) rva
    go false e = cond-false (holds (piece_bytes rvas new k) rva) _ _ (held ∙ e) ∙ same ∙ sym (cond-false (holds (piece_bytes rvas old k) rva) _ _ e)
    go true e =
        let both = and_parts (nat_le (get_or rvas k 0) rva) (nat_lt rva (get_or rvas k 0 + length (get_or old k []))) e in
        let low : get_or rvas k 0 ≤ rva = leb-true _ _ both.0 in
        let high : rva < get_or rvas k 0 + length (get_or old k []) = ltb-true _ _ both.1 in
        cond-true (holds (piece_bytes rvas new k) rva) _ _ (held ∙ e)
        ∙ agree.same_byte (rva - get_or rvas k 0) (add-sub_of_le low) (omega (arith, low, high))
        ∙ sym (cond-true (holds (piece_bytes rvas old k) rva) _ _ e)

section_agrees : (rvas : List ℕ) (old new : List (List ℕ)) (rva : ℕ) (indexes : List ℕ) (xs ys : List PlacedBytes) → ((k : ℕ) → Agree rvas old new rva k) → piece_byte xs rva ≡ piece_byte ys rva → piece_byte (section_bytes rvas new indexes ++ xs) rva ≡ piece_byte (section_bytes rvas old indexes ++ ys) rva
section_agrees rvas old new rva [] xs ys agree same = same
section_agrees rvas old new rva (k ∷ ks) xs ys agree same =
    one_agrees rvas old new rva k (section_bytes rvas new ks ++ xs) (section_bytes rvas old ks ++ ys) (agree k) (section_agrees rvas old new rva ks xs ys agree same)

all_agree : (rvas : List ℕ) (old new : List (List ℕ)) (rva : ℕ) (rows : List OutRow) → ((k : ℕ) → Agree rvas old new rva k) → piece_byte (all_bytes rvas new rows) rva ≡ piece_byte (all_bytes rvas old rows) rva
all_agree rvas old new rva [] agree = refl
all_agree rvas old new rva (row ∷ rows) agree =
    section_agrees rvas old new rva row.pieces (all_bytes rvas new rows) (all_bytes rvas old rows) agree (all_agree rvas old new rva rows agree)

-- ---- the memory of a layout

module _ (headers : Headers) (pieces : List Piece) (sections : List OutSection) (layout : Layout) (contents : ℕ → List (List ℕ)) (out : IsLaidOut pieces sections layout) where
  abbrev plan : ImagePlan
  plan = layout_plan headers sections layout contents

  abbrev memory : ℕ → List ℕ
  memory base = expected_image (layout_plan headers sections layout contents) base

  pub length_memory : (base : ℕ) → length (memory base) ≡ layout.image
  unfolding expected_image written_plan
  length_memory base = length-map-range_with_len (expected_byte (layout_plan headers sections layout contents) base) 0 layout.image

  memory_read : (base rva : ℕ) → rva < layout.image → slice_index (memory base) rva ≡ expected_byte (layout_plan headers sections layout contents) base rva
  unfolding expected_image written_plan
  memory_read base rva lt = get_or-map-range_with_len (expected_byte (layout_plan headers sections layout contents) base) 0 layout.image rva rva 0 lt (omega arith)

  headers_end : layout.headers ≡ size_of_headers (length (section_rows (rows_of sections) layout.sections.items))
  headers_end = out.headers ∙ ap size_of_headers (sym (length-section_rows pieces sections layout out))

  bytes_of : (base rva : ℕ) → piece_byte (plan_bytes (layout_plan headers sections layout contents) base) rva ≡ piece_byte (all_bytes layout.pieces.items (contents base) (rows_of sections)) rva
  bytes_of base rva = ap (λ (ps : List PlacedBytes). piece_byte ps rva) (written_bytes headers (rows_of sections) layout.sections.items layout.pieces.items layout.image contents base)

  -- after the headers stands what the pieces hold
  behind_headers : (base rva : ℕ) → layout.headers ≤ rva → expected_byte (layout_plan headers sections layout contents) base rva ≡ piece_byte (all_bytes layout.pieces.items (contents base) (rows_of sections)) rva
  unfolding expected_byte written_plan
  behind_headers base rva le =
      cond-false (nat_lt rva (size_of_headers (length (section_rows (rows_of sections) layout.sections.items)))) _ _ (le-ltb _ _ (omega (arith, le, headers_end)))
      ∙ bytes_of base rva

  module _ (base : ℕ) (room : HaveRoom pieces sections (contents base)) where
    written : AreWritten layout.pieces.items (contents base) layout.image (rows_of sections) layout.sections.items layout.headers layout.headers
    written = laid_out_written pieces sections layout (contents base) out room

    -- where piece j of section i has bytes: between the headers and the end of the image
    pub record IsInMemory (k : ℕ) : Type 0 where
      pub low : layout.headers ≤ get_or layout.pieces.items k 0
      pub high : get_or layout.pieces.items k 0 + length (get_or (contents base) k []) ≤ layout.image

    pub piece_inside_memory : (i j : ℕ) → i < length sections → j < length (row_at sections i).1 → 0 < length (get_or (contents base) (piece_at sections i j) []) → IsInMemory (piece_at sections i j)
    piece_inside_memory i j there below some =
        let Said : List ℕ → Type 0 = λ ks. j < length ks → 0 < length (get_or (contents base) (get_or ks j 0) []) → IsInMemory (get_or ks j 0) in
        subst Said (pieces_link sections i)
        (λ below some.
        let lt : i < length (rows_of sections) = omega (arith, length-map sections row_of, there) in
        record {
          low = low_in layout.pieces.items (contents base) layout.image (rows_of sections) layout.sections.items layout.headers layout.headers i j written lt below some;
          high = high_in layout.pieces.items (contents base) layout.image (rows_of sections) layout.sections.items layout.headers layout.headers i j written lt below some;
        })
        below some

    pub piece_in_memory : (i j t : ℕ) → i < length sections → j < length (row_at sections i).1 → t < length (get_or (contents base) (piece_at sections i j) []) → slice_index (memory base) (get_or layout.pieces.items (piece_at sections i j) 0 + t) ≡ get_or (get_or (contents base) (piece_at sections i j) []) t 0
    piece_in_memory i j t there below inside =
        let at = piece_inside_memory i j there below (omega (arith, inside)) in
        let rvas = layout.pieces.items in
        let own = contents base in
        let Said : List ℕ → Type 0 = λ ks. j < length ks → t < length (get_or own (get_or ks j 0) []) → piece_byte (all_bytes rvas own (rows_of sections)) (get_or rvas (get_or ks j 0) 0 + t) ≡ get_or (get_or own (get_or ks j 0) []) t 0 in
        memory_read base (get_or rvas (piece_at sections i j) 0 + t) (omega (arith, at.high, inside))
        ∙ behind_headers base (get_or rvas (piece_at sections i j) 0 + t) (omega (arith, at.low))
        ∙ subst Said (pieces_link sections i)
        (λ below inside. owner rvas own layout.image (rows_of sections) layout.sections.items layout.headers layout.headers i j t written (omega (arith, length-map sections row_of, there)) below inside)
        below inside

  -- memories of contents that agree at an RVA
  pub same_in_memory : (base other rva : ℕ) → ((k : ℕ) → Agree layout.pieces.items (contents base) (contents other) rva k) → slice_index (memory other) rva ≡ slice_index (memory base) rva
  unfolding expected_byte
  same_in_memory base other rva agree =
      elim (cases_lt rva layout.image) [
        | inr past ↦ get_or_past (memory other) rva 0 (omega (arith, length_memory other, past)) ∙ sym (get_or_past (memory base) rva 0 (omega (arith, length_memory base, past)))
        | inl lt ↦ memory_read other rva lt ∙ one_byte ∙ sym (memory_read base rva lt)
      ]
    where
      one_byte : expected_byte (layout_plan headers sections layout contents) other rva ≡ expected_byte (layout_plan headers sections layout contents) base rva
      one_byte =
          ap (cond (nat_lt rva (size_of_headers (length (layout_plan headers sections layout contents).rows))) (slice_index (plan_headers (layout_plan headers sections layout contents)) rva))
          (bytes_of other rva ∙ all_agree layout.pieces.items (contents base) (contents other) rva (rows_of sections) agree ∙ sym (bytes_of base rva))
