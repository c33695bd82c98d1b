-- Where the bytes of a piece stand in the file of a layout, and what other bytes there change.
use Rattle.std.proofs.Common.{◌≡◌, ℕ, zero, suc, ◌+◌, ◌-◌, ◌<◌, ◌≤◌, ◌⊎◌, nat_lt, Bool, true, false, eqb, List, [], ◌∷◌, length, get_or, slice_index, slice_get, Some, refl, sym, ap, ◌∙◌, subst, inl, inr, eq-eqb, lt-ltb, le-ltb, arith}
use Rattle.std.proofs.lemmas.Bool.{cases_lt, cond-true, cond-false, eqb-true, false≢true}
use Rattle.std.proofs.lemmas.Grind.{same_number_lists}
use Rattle.std.proofs.lemmas.List.{length-map}
use Rattle.std.proofs.lemmas.List.Elements.{All-weaker}
use Rattle.link_base.specs.Bytes.{bytes_at}
use Rattle.section_group.specs.declared.piece.Piece.{Piece}
use Rattle.section_group.specs.declared.piece.OutSection.{OutSection}
use Rattle.section_group.specs.Uniqueness.{SectionRow as OutRow, row_of, rows_of}
use Rattle.address_layout.specs.declared.layout.Placed.{Placed}
use Rattle.address_layout.specs.declared.layout.Layout.{Layout}
use Rattle.address_layout.specs.Places.{row_at, end_before}
use Rattle.address_layout.specs.Layout.{all_pieces, placed_at}
use Rattle.image_writer.specs.declared.headers.Headers.{Headers}
use Rattle.image_writer.specs.declared.headers.SectionHeader.{SectionHeader}
use Rattle.image_writer.specs.HeaderTable.{size_of_headers}
use Rattle.image_writer.specs.ExpectedImage.{PlacedBytes, own_bytes, piece_byte, raw_byte, image_file}
use Rattle.image_writer.specs.LoadablePlan.{IsWritable}
use Rattle.image_writer.specs.WrittenImage.{header_row, section_rows, written_plan, layout_plan, HasRoom, HaveRoom, IsLaidOut}
use Rattle.image_writer.specs.RawData.{all_bytes}
use Rattle.image_writer.specs.PieceInFile.{piece_at, piece_place, patched, DiffersAt}
use Rattle.image_writer.proofs.PlanBytes.{written_bytes}
use Rattle.image_writer.proofs.LaidOutLemmas.{laid_out_written}
use Rattle.image_writer.proofs.TableLemmas.{length-section_rows}
use Rattle.image_writer.proofs.LoadableLemmas.{written_writable}
use Rattle.image_writer.proofs.RowPlaces.{holder, file_after}
use Rattle.image_writer.proofs.FileBytes.{file_length, header_byte, offset_is_place, raw_byte_reads, raw_in_file}
use Rattle.image_writer.proofs.PieceLemmas.{pieces_of, LiesIn, lies_in, owner, IsApart, all_changed}
use Rattle.image_writer.proofs.PatchLemmas.{bytes_are, length-patched, patched_before, patched_inside, patched_after}

-- ---- a section by its number

pub pieces_link : (sections : List OutSection) (i : ℕ) → pieces_of (rows_of sections) i ≡ (row_at sections i).1
pieces_link [] i = refl
pieces_link (s ∷ ss) zero = refl
pieces_link (s ∷ ss) (suc i) = pieces_link ss i

record HeaderAt (rows : List SectionHeader) (i : ℕ) (place : Placed) : Type 0 where
  row : SectionHeader
  there : slice_get rows i ≡ Some row
  rva : row.rva ≡ place.rva
  size : row.size ≡ place.size
  raw : row.raw_size ≡ place.raw
  file : row.file_offset ≡ place.file

header_at : (rows : List OutRow) (placed : List Placed) (i : ℕ) → i < length rows → length placed ≡ length rows → HeaderAt (section_rows rows placed) i (placed_at placed i)
header_at [] placed i lt same = absurd (omega arith)
header_at (row ∷ rows) [] i lt same = absurd (omega arith)
header_at (row ∷ rows) (place ∷ placed) zero lt same =
    record { row = header_row row place; there = refl; rva = refl; size = refl; raw = refl; file = refl }
header_at (row ∷ rows) (place ∷ placed) (suc i) lt same =
    let h = header_at rows placed i (omega arith) (omega arith) in
    record { row = h.row; there = h.there; rva = h.rva; size = h.size; raw = h.raw; file = h.file }

-- ---- a byte of a piece

-- what is asked of the contents
record CanWrite (headers : Headers) (pieces : List Piece) (sections : List OutSection) (layout : Layout) (contents : ℕ → List (List ℕ)) : Type 0 where
  out : IsLaidOut pieces sections layout
  room : HaveRoom pieces sections (contents headers.base)
  directories : length headers.directories ≡ 16

can_be : (headers : Headers) (pieces : List Piece) (sections : List OutSection) (layout : Layout) (contents : ℕ → List (List ℕ)) → CanWrite headers pieces sections layout contents → IsWritable (layout_plan headers sections layout contents)
can_be headers pieces sections layout contents can = written_writable headers pieces sections layout contents can.out can.room can.directories

head_of : (headers : Headers) (pieces : List Piece) (sections : List OutSection) (layout : Layout) (contents : ℕ → List (List ℕ)) (i : ℕ) → CanWrite headers pieces sections layout contents → i < length sections → HeaderAt (layout_plan headers sections layout contents).rows i (placed_at layout.sections.items i)
unfolding written_plan
head_of headers pieces sections layout contents i can lt =
    header_at (rows_of sections) layout.sections.items i (omega (arith, length-map sections row_of, lt)) (omega (arith, length-map sections row_of, can.out.section_for_each))

lies_of : (headers : Headers) (pieces : List Piece) (sections : List OutSection) (layout : Layout) (contents : ℕ → List (List ℕ)) (i j : ℕ) → CanWrite headers pieces sections layout contents → i < length sections → j < length (row_at sections i).1 → 0 < length (get_or (contents headers.base) (piece_at sections i j) []) → LiesIn layout.pieces.items (contents headers.base) (piece_at sections i j) (placed_at layout.sections.items i)
lies_of headers pieces sections layout contents i j can lt =
    let own = contents headers.base in
    let rvas = layout.pieces.items in
    let place = placed_at layout.sections.items i in
    let Said : List ℕ → Type 0 = λ ks. j < length ks → 0 < length (get_or own (get_or ks j 0) []) → LiesIn rvas own (get_or ks j 0) place in
    subst Said (pieces_link sections i)
    (λ below some. lies_in rvas own layout.image (rows_of sections) layout.sections.items layout.headers layout.headers i j (laid_out_written pieces sections layout own can.out can.room) (omega (arith, length-map sections row_of, lt)) below some)

owner_of : (headers : Headers) (pieces : List Piece) (sections : List OutSection) (layout : Layout) (contents : ℕ → List (List ℕ)) (i j t : ℕ) → CanWrite headers pieces sections layout contents → i < length sections → j < length (row_at sections i).1 → t < length (get_or (contents headers.base) (piece_at sections i j) []) → piece_byte (own_bytes (layout_plan headers sections layout contents)) (get_or layout.pieces.items (piece_at sections i j) 0 + t) ≡ get_or (get_or (contents headers.base) (piece_at sections i j) []) t 0
unfolding written_plan
owner_of headers pieces sections layout contents i j t can lt below inside =
    let own = contents headers.base in
    let rvas = layout.pieces.items in
    let Said : List ℕ → Type 0 = λ ks. j < length ks → t < length (get_or own (get_or ks j 0) []) → piece_byte (all_bytes rvas own (rows_of sections)) (get_or rvas (get_or ks j 0) 0 + t) ≡ get_or (get_or own (get_or ks j 0) []) t 0 in
    ap (λ (ps : List PlacedBytes). piece_byte ps (get_or rvas (piece_at sections i j) 0 + t)) (written_bytes headers (rows_of sections) layout.sections.items rvas layout.image contents headers.base)
    ∙ subst Said (pieces_link sections i)
    (λ below some. owner rvas own layout.image (rows_of sections) layout.sections.items layout.headers layout.headers i j t (laid_out_written pieces sections layout own can.out can.room) (omega (arith, length-map sections row_of, lt)) below some)
    below inside

byte_in_file : (headers : Headers) (pieces : List Piece) (sections : List OutSection) (layout : Layout) (contents : ℕ → List (List ℕ)) (i j t : ℕ) → CanWrite headers pieces sections layout contents → i < length sections → j < length (row_at sections i).1 → t < length (get_or (contents headers.base) (piece_at sections i j) []) → slice_index (image_file (layout_plan headers sections layout contents)) (piece_place layout i (piece_at sections i j) + t) ≡ slice_index (get_or (contents headers.base) (piece_at sections i j) []) t
byte_in_file headers pieces sections layout contents i j t can lt below inside =
    let plan = layout_plan headers sections layout contents in
    let k = piece_at sections i j in
    let rva = get_or layout.pieces.items k 0 in
    let place = placed_at layout.sections.items i in
    let head = head_of headers pieces sections layout contents i can lt in
    let lies = lies_of headers pieces sections layout contents i j can lt below (omega (arith, inside)) in
    let x = rva - place.rva + t in
    ap (slice_index (image_file plan)) (moved place.file head.row.file_offset (rva - place.rva) t head.file)
    ∙ raw_byte_reads plan i x head.row (can_be headers pieces sections layout contents can) head.there (omega (arith, head.raw, lies.in_raw, lies.above, inside))
    ∙ cond-true (nat_lt x head.row.size) _ 0 (lt-ltb x head.row.size (omega (arith, head.size, lies.in_size, lies.above, inside)))
    ∙ ap (piece_byte (own_bytes plan)) (back place.rva head.row.rva rva t head.rva lies.above)
    ∙ owner_of headers pieces sections layout contents i j t can lt below inside
  where
    moved : (file offset a t : ℕ) → offset ≡ file → file + a + t ≡ offset + (a + t)
    moved file offset a t e = omega arith

    back : (start row rva t : ℕ) → row ≡ start → start ≤ rva → row + (rva - start + t) ≡ rva + t
    back start row rva t e le = omega arith

-- the bytes of a piece end inside the file
inside_file : (headers : Headers) (pieces : List Piece) (sections : List OutSection) (layout : Layout) (contents : ℕ → List (List ℕ)) (i j : ℕ) → CanWrite headers pieces sections layout contents → i < length sections → j < length (row_at sections i).1 → 0 < length (get_or (contents headers.base) (piece_at sections i j) []) → piece_place layout i (piece_at sections i j) + length (get_or (contents headers.base) (piece_at sections i j) []) ≤ length (image_file (layout_plan headers sections layout contents))
inside_file headers pieces sections layout contents i j can lt below some =
    let plan = layout_plan headers sections layout contents in
    let head = head_of headers pieces sections layout contents i can lt in
    let lies = lies_of headers pieces sections layout contents i j can lt below some in
    let raw = raw_in_file plan i head.row (can_be headers pieces sections layout contents can) head.there (omega (arith, head.raw, lies.in_raw, lies.above, some)) in
    omega (arith, raw, head.raw, head.file, lies.in_raw, lies.above, some)

-- where a piece that has bytes stands in its section, and that these end inside the file
pub record IsInFile (headers : Headers) (sections : List OutSection) (layout : Layout) (contents : ℕ → List (List ℕ)) (i k : ℕ) : Type 0 where
  pub lies : LiesIn layout.pieces.items (contents headers.base) k (placed_at layout.sections.items i)
  pub inside : piece_place layout i k + length (get_or (contents headers.base) k []) ≤ length (image_file (layout_plan headers sections layout contents))

pub piece_inside : (headers : Headers) (pieces : List Piece) (sections : List OutSection) (layout : Layout) (contents : ℕ → List (List ℕ)) (i j : ℕ) → IsLaidOut pieces sections layout → HaveRoom pieces sections (contents headers.base) → length headers.directories ≡ 16 → i < length sections → j < length (row_at sections i).1 → 0 < length (get_or (contents headers.base) (piece_at sections i j) []) → IsInFile headers sections layout contents i (piece_at sections i j)
piece_inside headers pieces sections layout contents i j out room directories lt below some =
    let can : CanWrite headers pieces sections layout contents = record { out = out; room = room; directories = directories } in
    record {
      lies = lies_of headers pieces sections layout contents i j can lt below some;
      inside = inside_file headers pieces sections layout contents i j can lt below some;
    }

-- the bytes of a piece stand at its place in the file
pub piece_stands : (headers : Headers) (pieces : List Piece) (sections : List OutSection) (layout : Layout) (contents : ℕ → List (List ℕ)) (i j : ℕ) → IsLaidOut pieces sections layout → HaveRoom pieces sections (contents headers.base) → length headers.directories ≡ 16 → i < length sections → j < length (row_at sections i).1 → bytes_at (image_file (layout_plan headers sections layout contents)) (piece_place layout i (piece_at sections i j)) (length (get_or (contents headers.base) (piece_at sections i j) [])) ≡ get_or (contents headers.base) (piece_at sections i j) []
piece_stands headers pieces sections layout contents i j out room directories lt below =
    let can : CanWrite headers pieces sections layout contents = record { out = out; room = room; directories = directories } in
    bytes_are (image_file (layout_plan headers sections layout contents)) (piece_place layout i (piece_at sections i j)) (get_or (contents headers.base) (piece_at sections i j) [])
    (inside_file headers pieces sections layout contents i j can lt below)
    (λ t inside. byte_in_file headers pieces sections layout contents i j t can lt below inside)

-- ---- sections do not meet

ends_rise : (pieces : List Piece) (sections : List OutSection) (layout : Layout) (m n : ℕ) → IsLaidOut pieces sections layout → m ≤ n → n ≤ length sections → end_before layout.headers (placed_at layout.sections.items) m ≤ end_before layout.headers (placed_at layout.sections.items) n
ends_rise pieces sections layout m zero out le fits =
    let same : m ≡ 0 = omega arith in
    subst (λ (k : ℕ). end_before layout.headers (placed_at layout.sections.items) k ≤ end_before layout.headers (placed_at layout.sections.items) 0) (sym same) (omega arith)
ends_rise pieces sections layout m (suc n) out le fits =
    let before = end_before layout.headers (placed_at layout.sections.items) in
    elim (cases_lt m (suc n)) [
      | inl less ↦
          let up = ends_rise pieces sections layout m n out (omega arith) (omega arith) in
          let above = (out.each n (omega arith)).above in
          omega (arith, up, above)
      | inr last ↦
          let same : m ≡ suc n = omega arith in subst (λ (k : ℕ). before k ≤ before (suc n)) (sym same) (omega arith)
    ]

-- an earlier section ends at or before a later one
apart : (pieces : List Piece) (sections : List OutSection) (layout : Layout) (m n : ℕ) → IsLaidOut pieces sections layout → m < n → n < length sections → (placed_at layout.sections.items m).rva + (placed_at layout.sections.items m).size ≤ (placed_at layout.sections.items n).rva
apart pieces sections layout m n out lt fits =
    let up = ends_rise pieces sections layout (suc m) n out lt (omega arith) in
    omega (arith, up, (out.each n fits).above)

-- ---- other contents at one piece

lengths_same : (k : ℕ) (old new : List (List ℕ)) (m : ℕ) → DiffersAt k old new → length (get_or new m []) ≡ length (get_or old m [])
lengths_same k old new m differs = go (eqb m k) refl
  where
    go : (b : Bool) → eqb m k ≡ b → length (get_or new m []) ≡ length (get_or old m [])
    go true e = subst (λ (n : ℕ). length (get_or new n []) ≡ length (get_or old n [])) (sym (eqb-true m k e)) differs.same_length
    go false e = ap length (differs.others m (λ is. false≢true (sym e ∙ eq-eqb m k is)))

room_kept : (pieces : List Piece) (sections : List OutSection) (k : ℕ) (old new : List (List ℕ)) → DiffersAt k old new → HaveRoom pieces sections old → HaveRoom pieces sections new
room_kept pieces sections k old new differs room =
    All-weaker (HasRoom pieces old) (HasRoom pieces new) (λ m has.
    let same = lengths_same k old new m differs in
    (omega (arith, same, has.0), λ some. has.1 (omega (arith, same, some)))) (all_pieces sections) room

-- an address of a section that is none of the piece's where the offset in the file is none of the piece's
address_apart : (rvas : List ℕ) (old : List (List ℕ)) (k i m y o : ℕ) (mine other : Placed) → LiesIn rvas old k mine ⊎ (length (get_or old k []) ≡ 0) → (m < i → other.rva + other.size ≤ mine.rva) → (i < m → mine.rva + mine.size ≤ other.rva) → (m ≡ i → other ≡ mine) → y < other.size → o ≡ other.file + y → (o < mine.file + (get_or rvas k 0 - mine.rva)) ⊎ (mine.file + (get_or rvas k 0 - mine.rva) + length (get_or old k []) ≤ o) → IsApart rvas old k (other.rva + y)
address_apart rvas old k i m y o mine other lies before after here lt at out =
    elim (cases_lt (other.rva + y) (get_or rvas k 0)) [
      | inl low ↦ inl low
      | inr above ↦
          (elim (cases_lt (other.rva + y) (get_or rvas k 0 + length (get_or old k []))) [
            | inr past ↦ inr past
            | inl under ↦
                (elim lies [
                  | inr none ↦ absurd (omega (arith, none, above, under))
                  | inl is ↦
                      (elim (cases_lt m i) [
                        | inl earlier ↦ absurd (omega (arith, before earlier, is.above, above, lt))
                        | inr behind ↦
                            (elim (cases_lt i m) [
                              | inl later ↦ absurd (omega (arith, after later, is.in_size, under))
                              | inr same ↦
                                  let e : other ≡ mine = here (omega arith) in
                                  let rva = ap (λ (p : Placed). p.rva) e in
                                  let file = ap (λ (p : Placed). p.file) e in
                                  elim out [
                                    | inl low ↦ absurd (omega (arith, low, at, rva, file, above, is.above))
                                    | inr high ↦ absurd (omega (arith, high, at, rva, file, under, is.above))
                                  ]
                            ])
                      ])
                ])
          ])
    ]

byte_same : (headers : Headers) (sections : List OutSection) (layout : Layout) (old new : ℕ → List (List ℕ)) (k rva : ℕ) → DiffersAt k (old headers.base) (new headers.base) → IsApart layout.pieces.items (old headers.base) k rva → piece_byte (own_bytes (layout_plan headers sections layout new)) rva ≡ piece_byte (own_bytes (layout_plan headers sections layout old)) rva
unfolding written_plan
byte_same headers sections layout old new k rva differs out =
    let placed = layout.sections.items in
    let rvas = layout.pieces.items in
    let rows = rows_of sections in
    ap (λ (ps : List PlacedBytes). piece_byte ps rva) (written_bytes headers rows placed rvas layout.image new headers.base)
    ∙ all_changed rvas (old headers.base) (new headers.base) k rows rva differs out
    ∙ sym (ap (λ (ps : List PlacedBytes). piece_byte ps rva) (written_bytes headers rows placed rvas layout.image old headers.base))

header_same : (headers : Headers) (pieces : List Piece) (sections : List OutSection) (layout : Layout) (old new : ℕ → List (List ℕ)) (o : ℕ) → CanWrite headers pieces sections layout old → CanWrite headers pieces sections layout new → o < size_of_headers (length (layout_plan headers sections layout old).rows) → slice_index (image_file (layout_plan headers sections layout new)) o ≡ slice_index (image_file (layout_plan headers sections layout old)) o
unfolding written_plan
header_same headers pieces sections layout old new o can could lt =
    header_byte (layout_plan headers sections layout new) o (can_be headers pieces sections layout new could) lt
    ∙ sym (header_byte (layout_plan headers sections layout old) o (can_be headers pieces sections layout old can) lt)

-- a byte of a section's raw data that is none of the piece's
raw_same : (headers : Headers) (pieces : List Piece) (sections : List OutSection) (layout : Layout) (old new : ℕ → List (List ℕ)) (i j m y : ℕ) → CanWrite headers pieces sections layout old → CanWrite headers pieces sections layout new → i < length sections → j < length (row_at sections i).1 → m < length sections → DiffersAt (piece_at sections i j) (old headers.base) (new headers.base) → y < (placed_at layout.sections.items m).raw
    → (let o = (placed_at layout.sections.items m).file + y in let p = piece_place layout i (piece_at sections i j) in (o < p) ⊎ (p + length (get_or (old headers.base) (piece_at sections i j) []) ≤ o))
    → slice_index (image_file (layout_plan headers sections layout new)) ((placed_at layout.sections.items m).file + y) ≡ slice_index (image_file (layout_plan headers sections layout old)) ((placed_at layout.sections.items m).file + y)
raw_same headers pieces sections layout old new i j m y can could lt below less differs fits out =
    let k = piece_at sections i j in
    let before = layout_plan headers sections layout old in
    let after = layout_plan headers sections layout new in
    let placed = placed_at layout.sections.items in
    let head = head_of headers pieces sections layout old m can less in
    let tail = head_of headers pieces sections layout new m could less in
    let read = raw_byte_reads before m y head.row (can_be headers pieces sections layout old can) head.there (omega (arith, fits, head.raw)) in
    let reads = raw_byte_reads after m y tail.row (can_be headers pieces sections layout new could) tail.there (omega (arith, fits, tail.raw)) in
    ap (λ (n : ℕ). slice_index (image_file after) (n + y)) (sym tail.file)
    ∙ reads
    ∙ of_numbers (own_bytes after) (own_bytes before) tail.row head.row y (tail.rva ∙ sym head.rva) (tail.size ∙ sym head.size) (λ inside.
    byte_same headers sections layout old new k (head.row.rva + y) differs
    (subst (λ (n : ℕ). IsApart layout.pieces.items (old headers.base) k (n + y)) (sym head.rva)
    (address_apart layout.pieces.items (old headers.base) k i m y ((placed m).file + y) (placed i) (placed m)
    (elim (cases_lt 0 (length (get_or (old headers.base) k []))) [
      | inl some ↦ inl (lies_of headers pieces sections layout old i j can lt below some)
      | inr none ↦ inr (omega (arith, none))
    ])
    (λ earlier. apart pieces sections layout m i can.out earlier lt)
    (λ later. apart pieces sections layout i m can.out later less)
    (λ same. ap placed same)
    (omega (arith, inside, head.size))
    refl
    out)))
    ∙ sym read
    ∙ ap (λ (n : ℕ). slice_index (image_file before) (n + y)) head.file
  where
    of_numbers : (xs ys : List PlacedBytes) (first second : SectionHeader) (y : ℕ) → first.rva ≡ second.rva → first.size ≡ second.size → (y < second.size → piece_byte xs (second.rva + y) ≡ piece_byte ys (second.rva + y)) → raw_byte xs first y ≡ raw_byte ys second y
    of_numbers xs ys first second y rva size same =
        elim (cases_lt y second.size) [
          | inl inner ↦
              cond-true (nat_lt y first.size) _ 0 (lt-ltb y first.size (omega (arith, size, inner)))
              ∙ ap (λ (n : ℕ). piece_byte xs (n + y)) rva
              ∙ same inner
              ∙ sym (cond-true (nat_lt y second.size) _ 0 (lt-ltb y second.size inner))
          | inr past ↦
              let none : first.size ≤ y = omega (arith, size, past) in
              cond-false (nat_lt y first.size) _ 0 (le-ltb _ _ none) ∙ sym (cond-false (nat_lt y second.size) _ 0 (le-ltb _ _ past))
        ]

-- the section whose raw data hold an offset, and the place in them
record HeldBy (sections : List OutSection) (layout : Layout) (o : ℕ) : Type 0 where
  section : ℕ
  y : ℕ
  less : section < length sections
  fits : y < (placed_at layout.sections.items section).raw
  is : (placed_at layout.sections.items section).file + y ≡ o

rows_counted : (headers : Headers) (pieces : List Piece) (sections : List OutSection) (layout : Layout) (contents : ℕ → List (List ℕ)) → IsLaidOut pieces sections layout → length (layout_plan headers sections layout contents).rows ≡ length sections
unfolding written_plan
rows_counted headers pieces sections layout contents out = length-section_rows pieces sections layout out

held_by : (headers : Headers) (pieces : List Piece) (sections : List OutSection) (layout : Layout) (contents : ℕ → List (List ℕ)) (o : ℕ) → CanWrite headers pieces sections layout contents → size_of_headers (length (layout_plan headers sections layout contents).rows) ≤ o → o < length (image_file (layout_plan headers sections layout contents)) → HeldBy sections layout o
held_by headers pieces sections layout contents o can low high =
    let plan = layout_plan headers sections layout contents in
    let writable = can_be headers pieces sections layout contents can in
    let found = holder plan.rows (length plan.rows) (size_of_headers (length plan.rows)) o (omega arith) low (omega (arith, high, file_length plan writable)) in
    let m = found.0 in
    let less : m < length sections = omega (arith, found.1.0, rows_counted headers pieces sections layout contents can.out) in
    let head = head_of headers pieces sections layout contents m can less in
    let next = file_after plan.rows m (size_of_headers (length plan.rows)) head.row head.there in
    let some : 0 < head.row.raw_size = omega (arith, next, found.1.1.0, found.1.1.1) in
    let at = offset_is_place plan m head.row writable head.there some in
    record {
      section = m;
      y = o - (placed_at layout.sections.items m).file;
      less = less;
      fits = omega (arith, next, at, head.file, head.raw, found.1.1.0, found.1.1.1);
      is = omega (arith, at, head.file, found.1.1.0);
    }

outside_same : (headers : Headers) (pieces : List Piece) (sections : List OutSection) (layout : Layout) (old new : ℕ → List (List ℕ)) (i j o : ℕ) → CanWrite headers pieces sections layout old → CanWrite headers pieces sections layout new → i < length sections → j < length (row_at sections i).1 → DiffersAt (piece_at sections i j) (old headers.base) (new headers.base) → o < length (image_file (layout_plan headers sections layout old)) → (o < piece_place layout i (piece_at sections i j)) ⊎ (piece_place layout i (piece_at sections i j) + length (get_or (old headers.base) (piece_at sections i j) []) ≤ o) → slice_index (image_file (layout_plan headers sections layout new)) o ≡ slice_index (image_file (layout_plan headers sections layout old)) o
outside_same headers pieces sections layout old new i j o can could lt below differs inside out =
    let p = piece_place layout i (piece_at sections i j) in
    let n = length (get_or (old headers.base) (piece_at sections i j) []) in
    elim (cases_lt o (size_of_headers (length (layout_plan headers sections layout old).rows))) [
      | inl front ↦ header_same headers pieces sections layout old new o can could front
      | inr raw ↦
          let held = held_by headers pieces sections layout old o can raw inside in
          subst (λ (q : ℕ). slice_index (image_file (layout_plan headers sections layout new)) q ≡ slice_index (image_file (layout_plan headers sections layout old)) q) held.is
          (raw_same headers pieces sections layout old new i j held.section held.y can could lt below held.less differs held.fits
          (subst (λ (q : ℕ). (q < p) ⊎ (p + n ≤ q)) (sym held.is) out))
    ]

files_as_long : (headers : Headers) (pieces : List Piece) (sections : List OutSection) (layout : Layout) (old new : ℕ → List (List ℕ)) → CanWrite headers pieces sections layout old → CanWrite headers pieces sections layout new → length (image_file (layout_plan headers sections layout new)) ≡ length (image_file (layout_plan headers sections layout old))
unfolding written_plan
files_as_long headers pieces sections layout old new can could =
    file_length (layout_plan headers sections layout new) (can_be headers pieces sections layout new could)
    ∙ sym (file_length (layout_plan headers sections layout old) (can_be headers pieces sections layout old can))

-- other bytes of the same length at the place of a piece give the file of the plan with these bytes
pub patched_file : (headers : Headers) (pieces : List Piece) (sections : List OutSection) (layout : Layout) (old new : ℕ → List (List ℕ)) (i j : ℕ) → IsLaidOut pieces sections layout → HaveRoom pieces sections (old headers.base) → length headers.directories ≡ 16 → i < length sections → j < length (row_at sections i).1 → DiffersAt (piece_at sections i j) (old headers.base) (new headers.base) → patched (piece_place layout i (piece_at sections i j)) (get_or (new headers.base) (piece_at sections i j) []) (image_file (layout_plan headers sections layout old)) ≡ image_file (layout_plan headers sections layout new)
patched_file headers pieces sections layout old new i j out room directories lt below differs =
    let k = piece_at sections i j in
    let p = piece_place layout i k in
    let part = get_or (new headers.base) k [] in
    let before = image_file (layout_plan headers sections layout old) in
    let after = image_file (layout_plan headers sections layout new) in
    let can : CanWrite headers pieces sections layout old = record { out = out; room = room; directories = directories } in
    let could : CanWrite headers pieces sections layout new = record { out = out; room = room_kept pieces sections k (old headers.base) (new headers.base) differs room; directories = directories } in
    let long = files_as_long headers pieces sections layout old new can could in
    let fits : 0 < length part → p + length part ≤ length before = λ some. omega (arith, inside_file headers pieces sections layout new i j could lt below some, long) in
    let whole = length-patched p part before fits in
    same_number_lists (patched p part before) after (whole ∙ sym long) (λ o less.
    let there : o < length before = omega (arith, less, whole) in
    let len = differs.same_length in
    elim (cases_lt o p) [
      | inl front ↦ patched_before p part before o front there ∙ sym (outside_same headers pieces sections layout old new i j o can could lt below differs there (inl front))
      | inr high ↦
          (elim (cases_lt o (p + length part)) [
            | inl inner ↦
                patched_inside p part before o (fits (omega (arith, high, inner))) high inner
                ∙ sym (byte_in_file headers pieces sections layout new i j (o - p) could lt below (omega (arith, high, inner)))
                ∙ ap (slice_index after) (back p o high)
            | inr past ↦
                patched_after p part before o past there ∙ sym (outside_same headers pieces sections layout old new i j o can could lt below differs there (inr (omega (arith, past, len))))
          ])
    ])
  where
    back : (p o : ℕ) → p ≤ o → p + (o - p) ≡ o
    back p o le = omega arith
