-- What candidates are first told apart by.
use Rattle.std.proofs.Common.{◌≡◌, ℕ, zero, suc, ◌+◌, ◌<◌, List, [], ◌∷◌, ◌++◌, length, get_or, take, map, Vec, Some, slice_get, refl, sym, ap, ◌∙◌, arith}
use Rattle.std.specs.declared.alloc.Global.{Global}
use Rattle.std.specs.Cmp.Lexicographic.{pointwise}
use Rattle.std.proofs.lemmas.List.{map-append, get_or_default}
use Rattle.section_group.specs.declared.piece.Piece.{Piece}
use Rattle.section_group.specs.SectionOrder.{no_piece}
use Rattle.icf.specs.declared.contents.Contents.{Contents}
use Rattle.icf.specs.contracts.contents.ContentsPartialEq.TheImpl as contents_eq
use Rattle.icf.specs.declared.candidate.FoldCandidate.{FoldCandidate}
use Rattle.icf.specs.FirstEqual.{AreFirstTo}
use Rattle.icf.specs.Contents.{contents_of, all_contents, shown, all_shown, AreContentLists, AreFirstClasses}
use Rattle.icf.proofs.EqualLemmas.{all_equal, all_tell}
use Rattle.icf.proofs.ListLemmas.{any_item}
use Rattle.icf.proofs.SectionLemmas.{take_section}

pub contents_more : (pieces : List Piece) (sections : List ℕ) (rank piece : ℕ) → slice_get sections rank ≡ Some piece
    → all_contents pieces (take (rank + 1) sections) ≡ all_contents pieces (take rank sections) ++ contents_of (get_or pieces piece no_piece) ∷ []
contents_more pieces sections rank piece is =
    ap (all_contents pieces) (take_section sections rank piece is) ∙ map-append (λ (p : ℕ). contents_of (get_or pieces p no_piece)) (take rank sections) (piece ∷ [])

-- one section more
pub contents_pushed : (pieces : List Piece) (sections : List ℕ) (rank index : ℕ) (piece : Piece) (name : List ℕ) (front longer : List Contents) → index < length pieces → piece ≡ get_or pieces index piece → name ≡ piece.name
    → slice_get sections rank ≡ Some index → front ≡ all_contents pieces (take rank sections)
    → longer ≡ front ++ (record { name = name; flags = piece.flags; size = piece.size; «data» = piece.body }) ∷ [] → longer ≡ all_contents pieces (take (rank + 1) sections)
contents_pushed pieces sections rank index piece name front longer lt read named is so_far pushed =
    let there = read ∙ get_or_default pieces index piece no_piece lt in
    pushed
    ∙ ap (λ (contents : List Contents). contents ++ (record { name = name; flags = piece.flags; size = piece.size; «data» = piece.body }) ∷ []) so_far
    ∙ ap (λ (text : List ℕ). all_contents pieces (take rank sections) ++ (record { name = text; flags = piece.flags; size = piece.size; «data» = piece.body }) ∷ []) named
    ∙ ap (λ (p : Piece). all_contents pieces (take rank sections) ++ contents_of p ∷ []) there
    ∙ sym (contents_more pieces sections rank index is)

-- ---- the first classes

pub first_classes_are : (pieces : List Piece) (candidates : List FoldCandidate) (keys : List (Vec Contents Global)) (numbers : List ℕ) → AreContentLists pieces candidates (length candidates) keys
    → AreFirstTo (λ left right. pointwise (contents_eq.ghosts).eq left.items right.items) keys (length keys) numbers → AreFirstClasses pieces candidates numbers
first_classes_are pieces candidates keys numbers are first = record {
  same_length = first.same_length ∙ are.same_length;
  first = first.first;
  equal = λ i j lt lt' e.
      let d = any_item keys i (omega (arith, are.same_length)) in
      sym (ap (map shown) (are.each i d lt))
      ∙ all_equal (get_or keys i d).items (get_or keys j d).items (first.equal i j d (omega (arith, are.same_length)) (omega (arith, are.same_length)) e)
      ∙ ap (map shown) (are.each j d lt');
  every = λ i j lt lt' e.
      let d = any_item keys i (omega (arith, are.same_length)) in
      first.every i j d (omega (arith, are.same_length)) (omega (arith, are.same_length))
      (all_tell (get_or keys i d).items (get_or keys j d).items (ap (map shown) (are.each i d lt) ∙ e ∙ sym (ap (map shown) (are.each j d lt'))));
}

-- ---- sections that show the same one by one

module _ (pieces : List Piece) where
  pub shown_same : (left right : List ℕ) → length left ≡ length right
      → ((rank piece other : ℕ) → slice_get left rank ≡ Some piece → slice_get right rank ≡ Some other → shown (contents_of (get_or pieces piece no_piece)) ≡ shown (contents_of (get_or pieces other no_piece)))
      → all_shown pieces left ≡ all_shown pieces right
  shown_same [] [] same each = refl
  shown_same [] (q ∷ right) same each = absurd (omega arith)
  shown_same (p ∷ left) [] same each = absurd (omega arith)
  shown_same (p ∷ left) (q ∷ right) same each =
      ap (λ s. s ∷ all_shown pieces left) (each 0 p q refl refl)
      ∙ ap (λ ss. shown (contents_of (get_or pieces q no_piece)) ∷ ss) (shown_same left right (omega arith) (λ rank piece other is is'. each (suc rank) piece other is is'))

  pub shown_each : (left right : List ℕ) → all_shown pieces left ≡ all_shown pieces right → (rank piece other : ℕ) → slice_get left rank ≡ Some piece → slice_get right rank ≡ Some other
      → shown (contents_of (get_or pieces piece no_piece)) ≡ shown (contents_of (get_or pieces other no_piece))
  shown_each [] right e rank piece other is is' = absurd cc
  shown_each (p ∷ left) [] e rank piece other is is' = absurd cc
  shown_each (p ∷ left) (q ∷ right) e zero piece other is is' =
      let one : p ≡ piece = cc in
      let two : q ≡ other = cc in
      let heads : shown (contents_of (get_or pieces p no_piece)) ≡ shown (contents_of (get_or pieces q no_piece)) = cc in
      ap (λ (n : ℕ). shown (contents_of (get_or pieces n no_piece))) (sym one) ∙ heads ∙ ap (λ (n : ℕ). shown (contents_of (get_or pieces n no_piece))) two
  shown_each (p ∷ left) (q ∷ right) e (suc rank) piece other is is' =
      let tails : all_shown pieces left ≡ all_shown pieces right = cc in
      shown_each left right tails rank piece other is is'

  pub shown_length : (left right : List ℕ) → all_shown pieces left ≡ all_shown pieces right → length left ≡ length right
  shown_length [] [] e = refl
  shown_length [] (q ∷ right) e = absurd cc
  shown_length (p ∷ left) [] e = absurd cc
  shown_length (p ∷ left) (q ∷ right) e =
      let tails : all_shown pieces left ≡ all_shown pieces right = cc in
      let rest = shown_length left right tails in
      omega arith
