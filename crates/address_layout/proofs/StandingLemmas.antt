-- Each piece stands in one section.
use Rattle.std.proofs.Common.{◌≡◌, ℕ, zero, suc, ◌+◌, ◌<◌, ◌≤◌, eqb, eq-eqb, List, [], ◌∷◌, ◌++◌, length, get_or, take, drop, map, sym, ap, ◌∙◌, subst, arith, length-append, add-one}
use Rattle.std.specs.List.{All, Contains, IsDistinct}
use Rattle.std.proofs.lemmas.Bool.{false≢true}
use Rattle.std.proofs.lemmas.List.{take-append-drop, take_more, get_or_default, length-map, append-nil, get_or-append-add}
use Rattle.std.proofs.lemmas.List.Elements.{All-contains, Contains-get_or, Contains-append_left, Contains-append_right}
use Rattle.std.proofs.lemmas.Map.Keys.{apart_from_distinct, IsDistinct-from_apart}
use Rattle.std.proofs.lemmas.Map.Steps.{length-le_from_distinct_below}
use Rattle.std.proofs.lemmas.Map.Views.{Contains-from_any}
use Rattle.std.proofs.lemmas.Bool.{eqb-true}
use Rattle.std.proofs.lemmas.Grind.{flat_map-append}
use Rattle.std.proofs.Math.ListN.{get_or-append, get_or-map}
use Rattle.section_group.specs.declared.piece.Piece.{Piece}
use Rattle.section_group.specs.declared.piece.OutSection.{OutSection}
use Rattle.address_layout.specs.Places.{section_row, row_at}
use Rattle.address_layout.specs.Layout.{all_pieces, StandOnce}

items : OutSection → List ℕ
items section = section.pieces.items

-- with one more section
pub pieces_more : (sections : List OutSection) (i : ℕ) (section : OutSection) → i < length sections → section ≡ get_or sections i section → all_pieces (take (i + 1) sections) ≡ all_pieces (take i sections) ++ section.pieces.items
pieces_more sections i section lt is =
    ap all_pieces (take_more sections i section lt ∙ ap (λ (s : OutSection). take i sections ++ s ∷ []) (sym is))
    ∙ flat_map-append (λ (s : OutSection). s.pieces.items) (take i sections) (section ∷ [])
    ∙ ap (λ (xs : List ℕ). all_pieces (take i sections) ++ xs) (append-nil section.pieces.items)

-- what is before a point and what is behind it
pub pieces_split : (sections : List OutSection) (i : ℕ) → all_pieces sections ≡ all_pieces (take i sections) ++ all_pieces (drop i sections)
pieces_split sections i =
    ap all_pieces (sym (take-append-drop i sections)) ∙ flat_map-append (λ (s : OutSection). s.pieces.items) (take i sections) (drop i sections)

-- ---- parts of a list of which no two are equal

distinct_front : (xs ys : List ℕ) → IsDistinct eqb (xs ++ ys) → IsDistinct eqb xs
distinct_front xs ys distinct = IsDistinct-from_apart eqb xs (λ i j d lt within.
    let in' : j < length (xs ++ ys) = omega (arith, length-append xs ys) in
    ap (λ (n : ℕ). eqb n (get_or xs j d)) (sym (get_or-append xs ys d i (omega arith))) ∙ ap (λ (n : ℕ). eqb (get_or (xs ++ ys) i d) n) (sym (get_or-append xs ys d j within)) ∙ apart_from_distinct eqb (xs ++ ys) i j d distinct lt in')

distinct_back : (xs ys : List ℕ) → IsDistinct eqb (xs ++ ys) → IsDistinct eqb ys
unfolding IsDistinct
distinct_back [] ys distinct = distinct
distinct_back (x ∷ xs) ys distinct = distinct_back xs ys distinct.1

-- an element of the front is none of the back
apart_parts : (xs ys : List ℕ) (x : ℕ) → IsDistinct eqb (xs ++ ys) → Contains xs x → Contains ys x → ⊥
apart_parts xs ys x distinct here there =
    let i = here.0 in
    let j = length xs + there.0 in
    let in' : j < length (xs ++ ys) = omega (arith, length-append xs ys, there.1) in
    let differ = apart_from_distinct eqb (xs ++ ys) i j x distinct (omega (arith, here.1)) in' in
    false≢true (sym differ ∙ eq-eqb _ _ (get_or-append xs ys x i here.1 ∙ here.2 ∙ sym (get_or-append-add xs ys there.0 x ∙ there.2)))

-- ---- no more pieces stand than there are

pub pieces_few : (pieces : List Piece) (sections : List OutSection) → StandOnce pieces sections → length (all_pieces sections) ≤ length pieces
pieces_few pieces sections standing =
    length-le_from_distinct_below (all_pieces sections) (length pieces) standing.once
    (λ q e. All-contains (λ k. k < length pieces) (all_pieces sections) q standing.within (Contains-from_any eqb-true q (all_pieces sections) e))

pub pieces_fewer : (sections : List OutSection) (i : ℕ) → length (all_pieces (take i sections)) ≤ length (all_pieces sections)
pieces_fewer sections i = omega (arith, ap length (pieces_split sections i), length-append (all_pieces (take i sections)) (all_pieces (drop i sections)))

-- ---- one section

drop_here : (sections : List OutSection) (i : ℕ) (section : OutSection) → i < length sections → section ≡ get_or sections i section → all_pieces (drop i sections) ≡ section.pieces.items ++ all_pieces (drop (i + 1) sections)
drop_here [] i section lt is = absurd (omega arith)
drop_here (s ∷ ss) zero section lt is = ap (λ (x : OutSection). x.pieces.items ++ all_pieces ss) (sym is)
drop_here (s ∷ ss) (suc i) section lt is = rw add-one (drop_here_tail ss i section (omega arith) is)
  where
    drop_here_tail : (ss : List OutSection) (i : ℕ) (section : OutSection) → i < length ss → section ≡ get_or ss i section → all_pieces (drop i ss) ≡ section.pieces.items ++ all_pieces (drop (suc i) ss)
    drop_here_tail [] i section lt is = absurd (omega arith)
    drop_here_tail (t ∷ ts) zero section lt is = ap (λ (x : OutSection). x.pieces.items ++ all_pieces ts) (sym is)
    drop_here_tail (t ∷ ts) (suc i) section lt is = drop_here_tail ts i section (omega arith) is

pub row_here : (sections : List OutSection) (i : ℕ) (section : OutSection) → i < length sections → section ≡ get_or sections i section → row_at sections i ≡ section_row section
row_here sections i section lt is =
    let in' : i < length (map section_row sections) = omega (arith, length-map sections section_row) in
    get_or_default (map section_row sections) i ([], []) (section_row section) in' ∙ get_or-map section_row sections i section ∙ ap section_row (sym is)

-- the pieces of a section are pieces, no two are equal, and none stands in an earlier section
pub record Stands (pieces : List Piece) (sections : List OutSection) (i : ℕ) (section : OutSection) : Type 0 where
  pub within : All (λ k. k < length pieces) section.pieces.items
  pub once : IsDistinct eqb section.pieces.items
  pub apart : (k : ℕ) → Contains (all_pieces (take i sections)) k → ¬ Contains section.pieces.items k

pub stands : (pieces : List Piece) (sections : List OutSection) (i : ℕ) (section : OutSection) → StandOnce pieces sections → i < length sections → section ≡ get_or sections i section → Stands pieces sections i section
stands pieces sections i section standing lt is =
    let before = all_pieces (take i sections) in
    let here = section.pieces.items in
    let behind = all_pieces (drop (i + 1) sections) in
    let whole : all_pieces sections ≡ before ++ (here ++ behind) = pieces_split sections i ∙ ap (λ (xs : List ℕ). before ++ xs) (drop_here sections i section lt is) in
    let distinct = subst (IsDistinct eqb) whole standing.once in
    let within = subst (All (λ k. k < length pieces)) whole standing.within in
    record {
      within = λ k d below.
          let there = Contains-append_right before (here ++ behind) (get_or here k d) (Contains-append_left here behind (get_or here k d) (Contains-get_or here k d below)) in
          All-contains (λ n. n < length pieces) (before ++ (here ++ behind)) (get_or here k d) within there;
      once = distinct_front here behind (distinct_back before (here ++ behind) distinct);
      apart = λ k early now. apart_parts before (here ++ behind) k distinct early (Contains-append_left here behind k now);
    }
