-- The sections, placed one after the other.
use Rattle.std.proofs.Common.{◌≡◌, ℕ, zero, suc, ◌+◌, ◌*◌, ◌<◌, ◌≤◌, List, [], ◌∷◌, ◌++◌, length, get_or, take, map, refl, sym, ap, ◌∙◌, subst, inl, inr, arith, add-one, length-append}
use Rattle.std.specs.List.{Contains, range_with_len}
use Rattle.std.proofs.lemmas.Bool.{cases_lt}
use Rattle.std.proofs.lemmas.List.Elements.{Contains-get_or, Contains-append_left, Contains-append_right}
use Rattle.std.proofs.lemmas.List.FromFn.{map-range_with_len_more}
use Rattle.section_group.specs.declared.piece.Piece.{Piece}
use Rattle.section_group.specs.declared.piece.OutSection.{OutSection}
use Rattle.address_layout.specs.declared.layout.Placed.{Placed}
use Rattle.address_layout.specs.Places.{section_row, row_at}
use Rattle.address_layout.specs.Layout.{all_pieces, StandOnce}
use Rattle.address_layout.specs.Rounded.{rounded, saturated, place_of, size_from, raw_from, floor_of, start_of, file_of, placed_from, saturated_placed, placed_of, AreSections}
use Rattle.address_layout.proofs.StandingLemmas.{pieces_more, row_here, stands}

pub sections_begin : (pieces : List Piece) (sections : List OutSection) (headers : ℕ) (rvas : List ℕ) → headers ≤ 4680 → length rvas ≡ length pieces → ((k : ℕ) → get_or rvas k 0 ≡ 0) → AreSections pieces sections headers 0 headers headers [] rvas
unfolding floor_of file_of
sections_begin pieces sections headers rvas small room blank = record {
  is_end = refl;
  is_file = refl;
  end_bound = omega arith;
  file_bound = omega arith;
  is_placed = refl;
  room = room;
  written = λ i j lt below. absurd (omega arith);
  unplaced = λ k apart. blank k;
}

in_row : (sections : List OutSection) (i j : ℕ) → i < length sections → j < length (row_at sections i).1 → Contains (row_at sections i).1 (get_or (row_at sections i).1 j 0)
in_row sections i j lt below = Contains-get_or (row_at sections i).1 j 0 below

-- a piece of an earlier section
pub earlier_piece : (sections : List OutSection) (count i k : ℕ) → i < count → count ≤ length sections → Contains (row_at sections i).1 k → Contains (all_pieces (take count sections)) k
earlier_piece sections zero i k lt le there = absurd (omega arith)
earlier_piece [] (suc count) i k lt le there = absurd (omega arith)
earlier_piece (s ∷ ss) (suc count) zero k lt le there = Contains-append_left s.pieces.items (all_pieces (take count ss)) k there
earlier_piece (s ∷ ss) (suc count) (suc i) k lt le there = Contains-append_right s.pieces.items (all_pieces (take count ss)) k (earlier_piece ss count i k (omega arith) (omega arith) there)

pub sections_more : (pieces : List Piece) (sections : List OutSection) (headers i end file : ℕ) (placed : List Placed) (rvas : List ℕ) (section : OutSection) (spot : Placed) (more raw : ℕ) (after : List ℕ) → StandOnce pieces sections → i < length sections → section ≡ get_or sections i section → AreSections pieces sections headers i end file placed rvas → spot ≡ saturated_placed (placed_from pieces (section_row section) (rounded 4096 end) file) → more ≡ rounded 4096 end + size_from pieces (section_row section) (rounded 4096 end) → raw ≡ raw_from pieces (section_row section) (rounded 4096 end) → more ≤ end + 4096 + length section.pieces.items * 4294975488 → raw ≤ 511 + length section.pieces.items * 4294975488 → length after ≡ length pieces → ((j : ℕ) → j < length section.pieces.items → get_or after (get_or section.pieces.items j 0) 0 ≡ saturated (place_of pieces (section_row section) (rounded 4096 end) j)) → ((k : ℕ) → ¬ Contains section.pieces.items k → get_or after k 0 ≡ get_or rvas k 0) → AreSections pieces sections headers (i + 1) more (file + raw) (placed ++ spot ∷ []) after
unfolding floor_of file_of
sections_more pieces sections headers i end file placed rvas section spot more raw after standing lt is are is_spot is_more is_raw more_bound raw_bound room written others =
    let row = row_here sections i section lt is in
    let st = stands pieces sections i section standing lt is in
    let grown = pieces_more sections i section lt is in
    let start : rounded 4096 end ≡ start_of pieces sections headers i = ap (rounded 4096) are.is_end in
    let longer : length (all_pieces (take (i + 1) sections)) ≡ length (all_pieces (take i sections)) + length section.pieces.items = ap length grown ∙ length-append (all_pieces (take i sections)) section.pieces.items in
    record {
      is_end = rw add-one (is_more ∙ ap (λ (r : List ℕ × List ℕ). rounded 4096 end + size_from pieces r (rounded 4096 end)) (sym row) ∙ ap (λ (n : ℕ). n + size_from pieces (row_at sections i) n) start);
      is_file = rw add-one (ap (λ (n : ℕ). file + n) (is_raw ∙ ap (λ (r : List ℕ × List ℕ). raw_from pieces r (rounded 4096 end)) (sym row) ∙ ap (raw_from pieces (row_at sections i)) start) ∙ ap (λ (n : ℕ). n + raw_from pieces (row_at sections i) (start_of pieces sections headers i)) are.is_file);
      end_bound = omega (arith, are.end_bound, more_bound, longer);
      file_bound = omega (arith, are.file_bound, raw_bound, longer);
      is_placed =
          ap (λ (ps : List Placed). ps ++ spot ∷ []) are.is_placed
          ∙ ap (λ (p : Placed). map (λ n. saturated_placed (placed_of pieces sections headers n)) (range_with_len 0 i) ++ p ∷ [])
          (is_spot ∙ ap (λ (r : List ℕ × List ℕ). saturated_placed (placed_from pieces r (rounded 4096 end) file)) (sym row) ∙ ap (λ (n : ℕ). saturated_placed (placed_from pieces (row_at sections i) n file)) start ∙ ap (λ (n : ℕ). saturated_placed (placed_from pieces (row_at sections i) (start_of pieces sections headers i) n)) are.is_file)
          ∙ sym (map-range_with_len_more (λ n. saturated_placed (placed_of pieces sections headers n)) 0 i i (omega arith));
      room = room;
      written = λ n j below within. elim (cases_lt n i) [
        | inl inner ↦
            let k = get_or (row_at sections n).1 j 0 in
            let early = earlier_piece sections i n k inner (omega arith) (in_row sections n j (omega arith) within) in
            others k (st.apart k early) ∙ are.written n j inner within
        | inr last ↦
            let same : n ≡ i = omega arith in
            let here : row_at sections n ≡ section_row section = ap (row_at sections) same ∙ row in
            let within' : j < length section.pieces.items = subst (λ (r : List ℕ × List ℕ). j < length r.1) here within in
            ap (λ (r : List ℕ × List ℕ). get_or after (get_or r.1 j 0) 0) here ∙ written j within'
            ∙ ap (λ (r : List ℕ × List ℕ). saturated (place_of pieces r (rounded 4096 end) j)) (sym here)
            ∙ ap (λ (s : ℕ). saturated (place_of pieces (row_at sections n) s j)) (start ∙ ap (start_of pieces sections headers) (sym same))
      ];
      unplaced = λ k apart.
          let not_here : ¬ Contains section.pieces.items k = λ there. apart (subst (λ (xs : List ℕ). Contains xs k) (sym grown) (Contains-append_right (all_pieces (take i sections)) section.pieces.items k there)) in
          let not_before : ¬ Contains (all_pieces (take i sections)) k = λ there. apart (subst (λ (xs : List ℕ). Contains xs k) (sym grown) (Contains-append_left (all_pieces (take i sections)) section.pieces.items k there)) in
          others k not_here ∙ are.unplaced k not_before;
    }
