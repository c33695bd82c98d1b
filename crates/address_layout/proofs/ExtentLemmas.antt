-- The pieces of a section, placed one after the other.
use Rattle.std.proofs.Common.{◌≡◌, ◌≢◌, ℕ, ◌+◌, ◌-◌, ◌%◌, ◌<◌, ◌≤◌, ◌||◌, ltb, Bool, true, false, cond, eqb, List, length, get_or, set, refl, sym, ap, ◌∙◌, subst, inl, inr, arith, add-one, eq-eqb, codes}
use Rattle.std.specs.List.{All, IsDistinct}
use Rattle.std.proofs.lemmas.Bool.{cases_lt, false≢true}
use Rattle.std.proofs.lemmas.List.{get_or-set_other, get_or-set_same, get_or_default}
use Rattle.std.proofs.lemmas.Map.Keys.{apart_from_distinct}
use Rattle.std.proofs.Math.ListN.{length-set}
use Rattle.std.proofs.Math.Nat.{mod-eq_of_lt}
use Rattle.section_group.specs.declared.piece.Piece.{Piece}
use Rattle.section_group.specs.Merging.{same_name}
use Rattle.section_group.specs.SectionOrder.{no_piece}
use Rattle.address_layout.specs.declared.extent.Extent.{Extent}
use Rattle.address_layout.specs.Places.{piece_in, alignment_in}
use Rattle.address_layout.specs.Layout.{IsAlignment}
use Rattle.address_layout.specs.Rounded.{rounded, saturated, end_after, place_of, raw_end_after, bytes_before, ArePlaced}
use Rattle.address_layout.proofs.RoundLemmas.{rounded_bound, rounded_above}

-- ---- alignments

pub align_small : (align : ℕ) → IsAlignment align → align ≤ 8192
align_small align is =
    elim (cases_lt 8192 align) [
      | inl lt ↦ absurd (let e = is.divides in let m = small_mod align lt in omega arith)
      | inr le ↦ le
    ]
  where
    small_mod : (n : ℕ) → 8192 < n → 8192 % n ≡ 8192
    small_mod n lt = mod-eq_of_lt lt

four : IsAlignment 4
four = record { positive = omega arith; divides = refl }

pub is_alignment : (pieces : List Piece) (row : List ℕ × List ℕ) (j : ℕ) → All (λ piece. IsAlignment piece.align) pieces → All (λ k. k < length pieces) row.1 → j < length row.1 → IsAlignment (alignment_in pieces row j)
is_alignment pieces row j aligned within lt = go (same_name row.0 (codes ".pdata"))
  where
    own : IsAlignment (piece_in pieces row j).align
    own = aligned (get_or row.1 j 0) no_piece (within j 0 lt)

    go : (b : Bool) → IsAlignment (cond b 4 (piece_in pieces row j).align)
    go true = four
    go false = own

-- ---- one more piece

pub placed_begin : (pieces : List Piece) (row : List ℕ × List ℕ) (start : ℕ) (rvas : List ℕ) → ArePlaced pieces row start 0 (record { end = start; initialised_end = start; has_bytes = false }) rvas rvas
unfolding end_after raw_end_after bytes_before
placed_begin pieces row start rvas = record {
  end = refl;
  initialised_end = refl;
  has_bytes = refl;
  bound = omega arith;
  low = omega arith;
  high = omega arith;
  room = refl;
  written = λ j lt. absurd (omega arith);
  others = λ k apart. refl;
}

between : (b : Bool) (low x y z high : ℕ) → z ≡ cond b x y → low ≤ x → x ≤ high → low ≤ y → y ≤ high → (low ≤ z) × (z ≤ high)
between true low x y z high e a c d f = (omega arith, omega arith)
between false low x y z high e a c d f = (omega arith, omega arith)

pub placed_more : (pieces : List Piece) (row : List ℕ × List ℕ) (start j : ℕ) (extent more : Extent) (first rvas : List ℕ) (rva at value : ℕ) → All (λ piece. IsAlignment piece.align) pieces → All (λ k. k < length pieces) row.1 → IsDistinct eqb row.1 → length first ≡ length pieces → j < length row.1 → ArePlaced pieces row start j extent first rvas → rva ≡ rounded (alignment_in pieces row j) extent.end → at ≡ get_or row.1 j 0 → value ≡ saturated rva → more.end ≡ rva + (piece_in pieces row j).size → more.initialised_end ≡ cond (piece_in pieces row j).init (rva + (piece_in pieces row j).size) extent.initialised_end → more.has_bytes ≡ (extent.has_bytes || ltb 0 (piece_in pieces row j).size) → (piece_in pieces row j).size < 4294967296 → ArePlaced pieces row start (j + 1) more first (set rvas at value)
unfolding end_after raw_end_after bytes_before
placed_more pieces row start j extent more first rvas rva at value aligned within once room lt are is_rva is_at is_value is_end is_raw is_bytes fits =
    let a = alignment_in pieces row j in
    let alignment = is_alignment pieces row j aligned within lt in
    let here : rva ≡ place_of pieces row start j = is_rva ∙ ap (rounded a) are.end in
    let up : extent.end ≤ rva = subst (λ (n : ℕ). extent.end ≤ n) (sym is_rva) (rounded_above a extent.end alignment.positive) in
    let in' : at < length rvas = subst (λ (k : ℕ). k < length rvas) (sym is_at) (let w = within j 0 lt in omega (arith, are.room)) in
    record {
      end = rw add-one (is_end ∙ ap (λ (n : ℕ). n + (piece_in pieces row j).size) here);
      initialised_end = rw add-one (is_raw ∙ ap (λ (n : ℕ). cond (piece_in pieces row j).init (n + (piece_in pieces row j).size) extent.initialised_end) here ∙ ap (λ (n : ℕ). cond (piece_in pieces row j).init (place_of pieces row start j + (piece_in pieces row j).size) n) are.initialised_end);
      has_bytes = rw add-one (is_bytes ∙ ap (λ (b : Bool). b || ltb 0 (piece_in pieces row j).size) are.has_bytes);
      bound = omega (arith, is_end, is_rva, rounded_bound a extent.end alignment.positive, align_small a alignment, are.bound, fits);
      low = (between (piece_in pieces row j).init start (rva + (piece_in pieces row j).size) extent.initialised_end more.initialised_end more.end is_raw (omega (arith, up, are.low, are.high)) (omega (arith, is_end)) are.low (omega (arith, up, is_end, are.high))).0;
      high = (between (piece_in pieces row j).init start (rva + (piece_in pieces row j).size) extent.initialised_end more.initialised_end more.end is_raw (omega (arith, up, are.low, are.high)) (omega (arith, is_end)) are.low (omega (arith, up, is_end, are.high))).1;
      room = length-set rvas at value ∙ are.room;
      written = λ i below. elim (cases_lt i j) [
        | inl inner ↦
            let differ = apart_from_distinct eqb row.1 i j 0 once inner lt in
            let apart : get_or row.1 i 0 ≢ at = λ e. false≢true (sym differ ∙ eq-eqb _ _ (e ∙ is_at)) in
            get_or-set_other rvas at (get_or row.1 i 0) value 0 apart ∙ are.written i inner
        | inr last ↦
            let same : i ≡ j = omega arith in
            ap (λ (n : ℕ). get_or (set rvas at value) (get_or row.1 n 0) 0) same ∙ ap (λ (k : ℕ). get_or (set rvas at value) k 0) (sym is_at)
            ∙ get_or-set_same rvas at value 0 in' ∙ is_value ∙ ap saturated here ∙ ap (λ (n : ℕ). saturated (place_of pieces row start n)) (sym same)
      ];
      others = λ k apart.
          let other : k ≢ at = λ e. apart j (omega arith) (sym is_at ∙ sym e) in
          get_or-set_other rvas at k value 0 other ∙ are.others k (λ i below. apart i (omega arith));
    }

-- ---- what is read in the loop

pub piece_is : (pieces : List Piece) (row : List ℕ × List ℕ) (items : List ℕ) (j : ℕ) (piece : Piece) → items ≡ row.1 → j < length items → All (λ k. k < length pieces) row.1 → piece ≡ get_or pieces (get_or items j 0) piece → piece ≡ piece_in pieces row j
piece_is pieces row items j piece same lt within is =
    let in' : get_or items j 0 < length pieces = subst (λ (xs : List ℕ). get_or xs j 0 < length pieces) (sym same) (within j 0 (subst (λ (xs : List ℕ). j < length xs) same lt)) in
    is ∙ get_or_default pieces (get_or items j 0) piece no_piece in' ∙ ap (λ (xs : List ℕ). get_or pieces (get_or xs j 0) no_piece) same

pub align_is : (pieces : List Piece) (row : List ℕ × List ℕ) (j : ℕ) (piece : Piece) (pdata : Bool) (name : List ℕ) (alignment : ℕ) → pdata ≡ same_name row.0 name → name ≡ codes ".pdata" → piece ≡ piece_in pieces row j → alignment ≡ cond pdata 4 piece.align → alignment ≡ alignment_in pieces row j
align_is pieces row j piece pdata name alignment is_pdata is_name is is_alignment =
    is_alignment ∙ ap (λ (b : Bool). cond b 4 piece.align) (is_pdata ∙ ap (same_name row.0) is_name)
    ∙ ap (λ (p : Piece). cond (same_name row.0 (codes ".pdata")) 4 p.align) is

pub size_bound : (b : Bool) (start end most : ℕ) → end ≤ start + most → start + cond b (end - start) 1 ≤ start + most + 1
size_bound true start end most le = omega arith
size_bound false start end most le = omega arith
