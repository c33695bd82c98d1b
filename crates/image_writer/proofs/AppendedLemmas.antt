-- A layout that `place` made with room for one more section stays laid out with the section of base relocations behind it.
use Rattle.std.proofs.Common.{◌≡◌, ℕ, zero, suc, ◌+◌, ◌*◌, ◌%◌, ◌<◌, ◌≤◌, Bool, true, false, cond, IsTrue, eqb, List, [], ◌∷◌, ◌++◌, length, get_or, refl, sym, ap, ◌∙◌, subst, inl, inr, arith, length-append}
use Rattle.std.specs.Int.{next_multiple_of}
use Rattle.std.specs.List.{All}
use Rattle.std.proofs.Math.Seq.{get_or-append_seam}
use Rattle.std.proofs.lemmas.Bool.{cases_lt, eqb-true}
use Rattle.std.proofs.lemmas.Grind.{flat_map-append}
use Rattle.std.proofs.lemmas.List.{get_or_append_left}
use Rattle.std.proofs.lemmas.List.Elements.{All-append, All-cons, All-nil, All-weaker}
use Rattle.link_base.proofs.ListLemmas.{all_front, all_back}
use Rattle.section_group.specs.declared.piece.Piece.{Piece}
use Rattle.section_group.specs.declared.piece.OutSection.{OutSection}
use Rattle.section_group.specs.SectionOrder.{no_piece}
use Rattle.address_layout.specs.declared.layout.Placed.{Placed}
use Rattle.address_layout.specs.declared.layout.Layout.{Layout}
use Rattle.address_layout.specs.Places.{IsLeastMultiple, row_at, section_row, section_count, piece_in, piece_end, piece_floor, end_before, file_before}
use Rattle.address_layout.specs.Layout.{all_pieces, StandOnce, IsAlignment, HoldsArrangement, placed_at}
use Rattle.address_layout.specs.Growth.{last_end, raw_end, grown_size, Appends}
use Rattle.address_layout.proofs.CallerLemmas.{row_here}
use Rattle.image_writer.specs.HeaderTable.{size_of_headers}
use Rattle.image_writer.specs.WrittenImage.{place_in, IsSectionLaidOut, IsLaidOut}
use Rattle.image_writer.proofs.FileEndLemmas.{raw_end_small}
use Rattle.image_writer.proofs.PlaceLemmas.{least_is_next, section_laid_out}

-- ---- lists with one more

last_here : {X : Type 0} (xs : List X) (x d : X) (n : ℕ) → n ≡ length xs → get_or (xs ++ x ∷ []) n d ≡ x
last_here xs x d n same = ap (λ (k : ℕ). get_or (xs ++ x ∷ []) k d) same ∙ get_or-append_seam xs x [] d

place_kept : (placed : List Placed) (more : Placed) (i : ℕ) → i < length placed → placed_at (placed ++ more ∷ []) i ≡ placed_at placed i
place_kept placed more i lt = get_or_append_left placed (more ∷ []) _ i lt

end_kept : (start : ℕ) (placed : List Placed) (more : Placed) (i : ℕ) → i ≤ length placed → end_before start (placed_at (placed ++ more ∷ [])) i ≡ end_before start (placed_at placed) i
end_kept start placed more zero le = refl
end_kept start placed more (suc i) le = ap (λ (p : Placed). p.rva + p.size) (place_kept placed more i (omega arith))

file_kept : (start : ℕ) (placed : List Placed) (more : Placed) (i : ℕ) → i ≤ length placed → file_before start (placed_at (placed ++ more ∷ [])) i ≡ file_before start (placed_at placed) i
file_kept start placed more zero le = refl
file_kept start placed more (suc i) le =
    let before = file_kept start placed more i (omega arith) in
    let here = ap (λ (p : Placed). p.raw) (place_kept placed more i (omega arith)) in
    ap (λ (n : ℕ). n + (placed_at (placed ++ more ∷ []) i).raw) before ∙ ap (λ (n : ℕ). file_before start (placed_at placed) i + n) here

row_kept : (sections : List OutSection) (section : OutSection) (i : ℕ) → i < length sections → row_at (sections ++ section ∷ []) i ≡ row_at sections i
row_kept [] section i lt = absurd (omega arith)
row_kept (s ∷ ss) section zero lt = refl
row_kept (s ∷ ss) section (suc i) lt = row_kept ss section i (omega arith)

-- ---- a section

same_section : (pieces : List Piece) (rvas : List ℕ) (row other : List ℕ × List ℕ) (before before' file file' : ℕ) (place place' : Placed) → other ≡ row → before' ≡ before → file' ≡ file → place' ≡ place → IsSectionLaidOut pieces rvas row before file place → IsSectionLaidOut pieces rvas other before' file' place'
same_section pieces rvas row other before before' file file' place place' r b f p is =
    subst (λ (x : List ℕ × List ℕ). IsSectionLaidOut pieces rvas x before' file' place') (sym r)
    (subst (λ (x : ℕ). IsSectionLaidOut pieces rvas row x file' place') (sym b)
    (subst (λ (x : ℕ). IsSectionLaidOut pieces rvas row before x place') (sym f)
    (subst (IsSectionLaidOut pieces rvas row before file) (sym p) is)))

-- the pieces of a section stay where they are with one more behind all
section_kept : (pieces : List Piece) (piece : Piece) (rvas : List ℕ) (rva : ℕ) (row : List ℕ × List ℕ) (before file : ℕ) (place : Placed) → length rvas ≡ length pieces → All (λ k. k < length pieces) row.1 → IsSectionLaidOut pieces rvas row before file place → IsSectionLaidOut (pieces ++ piece ∷ []) (rvas ++ rva ∷ []) row before file place
section_kept pieces piece rvas rva row before file place same within is = record {
  aligned = is.aligned;
  above = is.above;
  ascending = ascending;
  in_raw = λ j lt init. omega (arith, is.in_raw j lt (subst (λ (p : Piece). IsTrue p.init) (held j lt) init), stands j lt, ap (λ (p : Piece). p.size) (held j lt));
  in_size = λ j lt some. omega (arith, is.in_size j lt (subst (λ (p : Piece). 0 < p.size) (held j lt) some), stands j lt, ap (λ (p : Piece). p.size) (held j lt));
  file = is.file;
}
  where
    held : (j : ℕ) → j < length row.1 → piece_in (pieces ++ piece ∷ []) row j ≡ piece_in pieces row j
    held j lt = get_or_append_left pieces (piece ∷ []) no_piece (get_or row.1 j 0) (within j 0 lt)

    stands : (j : ℕ) → j < length row.1 → place_in (rvas ++ rva ∷ []) row j ≡ place_in rvas row j
    stands j lt = get_or_append_left rvas (rva ∷ []) 0 (get_or row.1 j 0) (omega (arith, within j 0 lt, same))

    ascending : (j : ℕ) → j < length row.1 → piece_floor (pieces ++ piece ∷ []) row place.rva (place_in (rvas ++ rva ∷ []) row) j ≤ place_in (rvas ++ rva ∷ []) row j
    ascending zero lt = omega (arith, is.ascending 0 lt, stands 0 lt)
    ascending (suc j) lt =
        omega (arith, is.ascending (suc j) lt, stands (suc j) lt, stands j (omega arith), ap (λ (p : Piece). p.size) (held j (omega arith)))

-- the last section, of the last piece
section_last : (pieces : List Piece) (piece : Piece) (rvas : List ℕ) (name : List ℕ) (before file : ℕ) (place : Placed) → length rvas ≡ length pieces → place.rva % 4096 ≡ 0 → before ≤ place.rva → piece.size ≤ place.raw → piece.size ≤ place.size → place.file ≡ cond (eqb place.raw 0) 0 file → IsSectionLaidOut (pieces ++ piece ∷ []) (rvas ++ place.rva ∷ []) (name, length pieces ∷ []) before file place
section_last pieces piece rvas name before file place same aligned above raw size offset = record {
  aligned = aligned;
  above = above;
  ascending = ascending;
  in_raw = λ j lt init. ends j (place.rva + place.raw) lt (omega (arith, raw));
  in_size = λ j lt some. ends j (place.rva + place.size) lt (omega (arith, size));
  file = offset;
}
  where
    row : List ℕ × List ℕ
    row = (name, length pieces ∷ [])

    held : get_or (pieces ++ piece ∷ []) (length pieces) no_piece ≡ piece
    held = last_here pieces piece no_piece (length pieces) refl

    stands : get_or (rvas ++ place.rva ∷ []) (length pieces) 0 ≡ place.rva
    stands = last_here rvas place.rva 0 (length pieces) (sym same)

    ascending : (j : ℕ) → j < length (length pieces ∷ []) → piece_floor (pieces ++ piece ∷ []) (name, length pieces ∷ []) place.rva (place_in (rvas ++ place.rva ∷ []) (name, length pieces ∷ [])) j ≤ place_in (rvas ++ place.rva ∷ []) (name, length pieces ∷ []) j
    ascending zero lt = omega (arith, stands)
    ascending (suc j) lt = absurd (omega arith)

    ends : (j end : ℕ) → j < length (length pieces ∷ []) → place.rva + piece.size ≤ end → piece_end (pieces ++ piece ∷ []) (name, length pieces ∷ []) (place_in (rvas ++ place.rva ∷ []) (name, length pieces ∷ [])) j ≤ end
    ends zero end lt le = omega (arith, stands, ap (λ (p : Piece). p.size) held, le)
    ends (suc j) end lt le = absurd (omega arith)

grown_holds : (len size : ℕ) → size ≡ grown_size len → len ≤ size
grown_holds len size e = go (eqb len 0) refl e
  where
    go : (b : Bool) → eqb len 0 ≡ b → size ≡ cond b 1 len → len ≤ size
    go true none e = omega (arith, eqb-true len 0 none)
    go false some e = omega (arith, e)

-- ---- all sections

pieces_of_all : (sections : List OutSection) (section : OutSection) → all_pieces (sections ++ section ∷ []) ≡ all_pieces sections ++ all_pieces (section ∷ [])
pieces_of_all sections section = flat_map-append (λ (s : OutSection). s.pieces.items) sections (section ∷ [])

all_within : (count : ℕ) (sections : List OutSection) (section : OutSection) → section.pieces.items ≡ count ∷ [] → All (λ k. k < count) (all_pieces sections) → All (λ k. k < count + 1) (all_pieces (sections ++ section ∷ []))
all_within count sections section only within =
    let P : ℕ → Type 0 = λ k. k < count + 1 in
    let last : All P (all_pieces (section ∷ [])) = subst (λ (ks : List ℕ). All P (ks ++ [])) (sym only) (All-cons P count [] (omega arith) (All-nil P)) in
    subst (All P) (sym (pieces_of_all sections section))
    (All-append P (all_pieces sections) (all_pieces (section ∷ [])) (All-weaker (λ k. k < count) P (λ k lt. omega arith) (all_pieces sections) within) last)

-- what the appended layout says of a section by its index
abbrev LaidOutAt : List Piece → List ℕ → List OutSection → ℕ → List Placed → ℕ → Type 0
LaidOutAt pieces rvas sections headers placed i =
    IsSectionLaidOut pieces rvas (row_at sections i) (end_before headers (placed_at placed) i) (file_before headers (placed_at placed) i) (placed_at placed i)

earlier : (pieces : List Piece) (piece : Piece) (rvas : List ℕ) (rva : ℕ) (sections : List OutSection) (section : OutSection) (headers : ℕ) (placed : List Placed) (more : Placed) (i : ℕ) → length rvas ≡ length pieces → length placed ≡ length sections → All (λ k. k < length pieces) (row_at sections i).1 → i < length sections → LaidOutAt pieces rvas sections headers placed i → LaidOutAt (pieces ++ piece ∷ []) (rvas ++ rva ∷ []) (sections ++ section ∷ []) headers (placed ++ more ∷ []) i
earlier pieces piece rvas rva sections section headers placed more i same count within lt is =
    same_section (pieces ++ piece ∷ []) (rvas ++ rva ∷ []) (row_at sections i) (row_at (sections ++ section ∷ []) i) (end_before headers (placed_at placed) i) (end_before headers (placed_at (placed ++ more ∷ [])) i) (file_before headers (placed_at placed) i) (file_before headers (placed_at (placed ++ more ∷ [])) i) (placed_at placed i) (placed_at (placed ++ more ∷ []) i)
    (row_kept sections section i lt)
    (end_kept headers placed more i (omega arith))
    (file_kept headers placed more i (omega arith))
    (place_kept placed more i (omega arith))
    (section_kept pieces piece rvas rva (row_at sections i) (end_before headers (placed_at placed) i) (file_before headers (placed_at placed) i) (placed_at placed i) same within is)

row_last : (sections : List OutSection) (section : OutSection) → row_at (sections ++ section ∷ []) (length sections) ≡ section_row section
row_last sections section =
    row_here (sections ++ section ∷ []) (length sections) section (omega (arith, length-append sections (section ∷ []))) (sym (last_here sections section section (length sections) refl))

-- the pieces of a section by its index are pieces
row_within : (count : ℕ) (sections : List OutSection) (i : ℕ) → i < length sections → All (λ k. k < count) (all_pieces sections) → All (λ k. k < count) (row_at sections i).1
row_within count [] i lt within = absurd (omega arith)
row_within count (s ∷ ss) zero lt within = all_front (λ k. k < count) s.pieces.items (all_pieces ss) within
row_within count (s ∷ ss) (suc i) lt within = row_within count ss i (omega arith) (all_back (λ k. k < count) s.pieces.items (all_pieces ss) within)

last : (pieces : List Piece) (piece : Piece) (rvas : List ℕ) (sections : List OutSection) (section : OutSection) (headers : ℕ) (placed : List Placed) (more : Placed) → length rvas ≡ length pieces → length placed ≡ length sections → section.pieces.items ≡ length pieces ∷ [] → more.rva % 4096 ≡ 0 → end_before headers (placed_at placed) (length placed) ≤ more.rva → piece.size ≤ more.raw → piece.size ≤ more.size → more.file ≡ cond (eqb more.raw 0) 0 (file_before headers (placed_at placed) (length placed)) → LaidOutAt (pieces ++ piece ∷ []) (rvas ++ more.rva ∷ []) (sections ++ section ∷ []) headers (placed ++ more ∷ []) (length sections)
last pieces piece rvas sections section headers placed more same count only aligned above raw size offset =
    let n = length sections in
    same_section (pieces ++ piece ∷ []) (rvas ++ more.rva ∷ []) (section.name, length pieces ∷ []) (row_at (sections ++ section ∷ []) n) (end_before headers (placed_at placed) n) (end_before headers (placed_at (placed ++ more ∷ [])) n) (file_before headers (placed_at placed) n) (file_before headers (placed_at (placed ++ more ∷ [])) n) more (placed_at (placed ++ more ∷ []) n)
    (row_last sections section ∙ ap (λ (ks : List ℕ). (section.name, ks)) only)
    (end_kept headers placed more n (omega arith))
    (file_kept headers placed more n (omega arith))
    (last_here placed more _ n (omega arith))
    (section_last pieces piece rvas section.name (end_before headers (placed_at placed) n) (file_before headers (placed_at placed) n) more same aligned
    (subst (λ (k : ℕ). end_before headers (placed_at placed) k ≤ more.rva) count above)
    raw size
    (subst (λ (k : ℕ). more.file ≡ cond (eqb more.raw 0) 0 (file_before headers (placed_at placed) k)) count offset))

-- the sections of a layout with one more, of one piece that is the last of all
each_appended : (pieces : List Piece) (piece : Piece) (sections : List OutSection) (section : OutSection) (old : Layout) (len : ℕ) (more : Placed) → HoldsArrangement pieces sections true old → StandOnce pieces sections → section.pieces.items ≡ length pieces ∷ [] → piece.size ≡ len → more.rva % 4096 ≡ 0 → last_end old ≤ more.rva → len ≤ more.raw → len ≤ more.size → more.file ≡ cond (eqb more.raw 0) 0 (raw_end old) → (i : ℕ) → i < length (sections ++ section ∷ []) → LaidOutAt (pieces ++ piece ∷ []) (old.pieces.items ++ more.rva ∷ []) (sections ++ section ∷ []) old.headers (old.sections.items ++ more ∷ []) i
each_appended pieces piece sections section old len more is standing only size aligned above raw grown offset i lt =
    elim (cases_lt i (length sections)) [
      | inl before ↦
          earlier pieces piece old.pieces.items more.rva sections section old.headers old.sections.items more i is.rva_for_each is.section_for_each (row_within (length pieces) sections i before standing.within) before
          (section_laid_out pieces old.pieces.items (row_at sections i) (end_before old.headers (placed_at old.sections.items) i) (file_before old.headers (placed_at old.sections.items) i) (placed_at old.sections.items i) (is.place i) (is.arranged.each i before) (λ j below. is.written i j before below))
      | inr behind ↦
          let here : length sections ≡ i = omega (arith, length-append sections (section ∷ [])) in
          subst (LaidOutAt (pieces ++ piece ∷ []) (old.pieces.items ++ more.rva ∷ []) (sections ++ section ∷ []) old.headers (old.sections.items ++ more ∷ [])) here
          (last pieces piece old.pieces.items sections section old.headers old.sections.items more is.rva_for_each is.section_for_each only aligned above (omega (arith, size, raw)) (omega (arith, size, grown)) offset)
    ]

-- what `place` gave with room for one more section, and `append_reloc` extended, is laid out; the last piece is that of the
-- section of base relocations
pub appended_laid_out : (pieces : List Piece) (piece : Piece) (sections : List OutSection) (section : OutSection) (old new : Layout) (len : ℕ) → HoldsArrangement pieces sections true old → All (λ piece. IsAlignment piece.align) pieces → StandOnce pieces sections → section_count sections true ≤ 96 → Appends old new len → new.image ≤ 536870912 → section.pieces.items ≡ length pieces ∷ [] → piece.size ≡ len → IsLaidOut (pieces ++ piece ∷ []) (sections ++ section ∷ []) new
appended_laid_out pieces piece sections section old new len is alignments standing few more small only size =
    let sections' = sections ++ section ∷ [] in
    let count : length sections' ≡ section_count sections true = omega (arith, length-append sections (section ∷ [])) in
    let rvas = more.pieces in
    let placed = more.sections in
    let each = each_appended pieces piece sections section old len more.placed is standing only size more.start.multiple more.start.above more.raw.above (grown_holds len more.placed.size more.size) more.file in
    let pieces' = pieces ++ piece ∷ [] in
    let n = length new.sections.items in
    record {
      headers = more.headers ∙ least_is_next (328 + 40 * section_count sections true) old.headers is.arranged.of_headers ∙ ap size_of_headers (sym count);
      few = omega (arith, count, few);
      section_for_each = ap length placed ∙ length-append old.sections.items (more.placed ∷ []) ∙ ap (λ (k : ℕ). k + 1) is.section_for_each ∙ sym (length-append sections (section ∷ []));
      rva_for_each = ap length rvas ∙ length-append old.pieces.items (more.placed.rva ∷ []) ∙ ap (λ (k : ℕ). k + 1) is.rva_for_each ∙ sym (length-append pieces (piece ∷ []));
      within = subst (λ (k : ℕ). All (λ j. j < k) (all_pieces sections')) (sym (length-append pieces (piece ∷ []))) (all_within (length pieces) sections section only standing.within);
      each = λ i lt.
          subst (λ (ps : List Placed). LaidOutAt pieces' new.pieces.items sections' new.headers ps i) (sym placed)
          (subst (λ (ks : List ℕ). LaidOutAt pieces' ks sections' new.headers (old.sections.items ++ more.placed ∷ []) i) (sym rvas)
          (subst (λ (h : ℕ). LaidOutAt pieces' (old.pieces.items ++ more.placed.rva ∷ []) sections' h (old.sections.items ++ more.placed ∷ []) i) (sym more.headers) (each i lt)));
      inside = subst (λ (ps : List Placed). end_before new.headers (placed_at ps) (length ps) ≤ new.image) (sym placed) (ends_inside old.sections.items more.placed new.headers new.image more.image.above);
      small = small;
      file = subst (λ (ps : List Placed). file_before new.headers (placed_at ps) (length ps) < 4294967296) (sym placed)
          (subst (λ (h : ℕ). file_before h (placed_at (old.sections.items ++ more.placed ∷ [])) (length (old.sections.items ++ more.placed ∷ [])) < 4294967296) (sym more.headers)
          (file_inside old.sections.items more.placed old.headers
          (fits (raw_end old) (last_end old) (length sections) len more.placed.raw more.placed.rva more.placed.size new.image (raw_end_small pieces sections true old alignments standing is) (omega (arith, few)) (raw_near len more.placed.raw more.raw) more.start.above (grown_holds len more.placed.size more.size) more.image.above small)));
    }
  where
    raw_near : (len raw : ℕ) → IsLeastMultiple 512 len raw → raw ≤ len + 511
    raw_near len raw least =
        let near : next_multiple_of len 512 < len + 512 = omega arith in
        omega (arith, near, least.least (next_multiple_of len 512) (omega arith) (omega arith))

    fits : (file end count len raw rva size image : ℕ) → file ≤ end + count * 8702 → count ≤ 95 → raw ≤ len + 511 → end ≤ rva → len ≤ size → rva + size ≤ image → image ≤ 536870912 → file + raw < 4294967296
    fits file end count len raw rva size image a b c d e f g = omega arith

    file_inside : (placed : List Placed) (more : Placed) (headers : ℕ) → file_before headers (placed_at placed) (length placed) + more.raw < 4294967296 → file_before headers (placed_at (placed ++ more ∷ [])) (length (placed ++ more ∷ [])) < 4294967296
    file_inside placed more headers lt =
        let P : ℕ → Type 0 = λ n. file_before headers (placed_at (placed ++ more ∷ [])) n < 4294967296 in
        let here : suc (length placed) ≡ length (placed ++ more ∷ []) = omega (arith, length-append placed (more ∷ [])) in
        let none : Placed = record { rva = 0; size = 0; raw = 0; file = 0 } in
        let raw = ap (λ (p : Placed). p.raw) (last_here placed more none (length placed) refl) in
        subst P here (omega (arith, file_kept headers placed more (length placed) (omega arith), raw, lt))

    ends_inside : (placed : List Placed) (more : Placed) (headers image : ℕ) → more.rva + more.size ≤ image → end_before headers (placed_at (placed ++ more ∷ [])) (length (placed ++ more ∷ [])) ≤ image
    ends_inside placed more headers image le =
        let P : ℕ → Type 0 = λ n. end_before headers (placed_at (placed ++ more ∷ [])) n ≤ image in
        let here : suc (length placed) ≡ length (placed ++ more ∷ []) = omega (arith, length-append placed (more ∷ [])) in
        subst P here (subst (λ (p : Placed). p.rva + p.size ≤ image) (sym (last_here placed more _ (length placed) refl)) le)
