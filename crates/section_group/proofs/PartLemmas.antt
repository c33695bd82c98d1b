-- What the parts of a piece's name say of the input.
use Rattle.std.proofs.Common.{◌≡◌, ℕ, ◌+◌, ◌-◌, ◌<◌, ◌≤◌, Bool, true, false, ◌&&◌, ◌||◌, not, ltb, lt-ltb, IsTrue, List, [], ◌∷◌, ◌++◌, length, length-append, map, get_or, eqb, eq-eqb, refl, sym, ap, subst, ◌∙◌, inl, inr, codes, bit_and, if◌then◌else◌, Option, Some, None, unwrap_or, arith}
use Rattle.std.specs.List.{slice_get, IsDistinct}
use Rattle.std.proofs.lemmas.Map.Keys.{apart_from_distinct}
use Rattle.std.proofs.lemmas.Bool.{ltb-true, false≢true, cases_lt, eqb-true}
use Rattle.std.proofs.lemmas.List.{get_or_default, length-map}
use Rattle.std.proofs.lemmas.Option.{get_or_from_slice_get, slice_get_within}
use Rattle.std.proofs.Math.ListN.{get_or-append, get_or-map}
use Rattle.std.proofs.Math.Seq.{get_or-append_seam}
use Rattle.section_group.specs.declared.piece.Piece.{Piece}
use Rattle.section_group.specs.declared.cut.Cut.{Cut}
use Rattle.section_group.specs.Merging.{same_name, final_name}
use Rattle.section_group.specs.SectionOrder.{Input, input_from, no_piece, piece_at, is_used, base_name, suffix, section_name}
use Rattle.section_group.specs.Steps.{name_cut, piece_cut, no_cut, NamesPieces, KeepsNames, AreNumbered, AreCuts}
use Rattle.section_group.specs.Placement.{first_owner, follows_owner, section_attributes}
use Rattle.section_group.specs.Gathering.{home_of, AreNumbers, IsNumberOf, GoesWithItsLike}
use Rattle.section_group.specs.declared.homes.Home.{Home}
use Rattle.link_base.specs.PeFormat.{SCN_MEM_ATTRIBUTES}
use Rattle.link_base.proofs.NameTextLemmas.{same_is, same_refl}

-- a name's cut, by the name of its section
abbrev cut_to : List ℕ → List ℕ → Cut
cut_to name section = record {
  base = base_name name;
  suffix = suffix name;
  section = section;
  merged = not (same_name (base_name name) section);
  follows_owner = not (same_name (base_name name) section) || same_name section (codes ".pdata");
}

-- one more piece
pub named_more : (pieces : List Piece) (i : ℕ) (names more : List (List ℕ)) (numbers : List ℕ) (number : ℕ) → NamesPieces pieces i names numbers → KeepsNames names more → length more ≤ i + 1 → IsDistinct same_name more → slice_get more number ≡ Some (get_or pieces i no_piece).name → NamesPieces pieces (i + 1) more (numbers ++ number ∷ [])
named_more pieces i names more numbers number are kept few distinct is = record {
  same_length = length-append numbers (number ∷ []) ∙ ap (λ (n : ℕ). n + 1) are.same_length;
  few = few;
  distinct = distinct;
  each = λ k lt. elim (cases_lt k i) [
    | inl below ↦
        ap (λ (n : ℕ). slice_get more n) (get_or-append numbers (number ∷ []) 0 k (omega (arith, are.same_length)))
        ∙ kept (get_or numbers k 0) (get_or pieces k no_piece).name (are.each k below)
    | inr above ↦
        let at : k ≡ length numbers = omega (arith, are.same_length) in
        let here : i ≡ k = omega arith in
        ap (λ (n : ℕ). slice_get more n) (ap (λ (n : ℕ). get_or (numbers ++ number ∷ []) n 0) at ∙ get_or-append_seam numbers number [] 0)
        ∙ is ∙ ap (λ (n : ℕ). Some (get_or pieces n no_piece).name) here
  ];
}

-- a piece that has the name of the one before it has its number
pub named_again : (pieces : List Piece) (i : ℕ) (names : List (List ℕ)) (numbers : List ℕ) (piece before : Piece) → NamesPieces pieces i names numbers → i < length pieces → 0 < i → (get_or pieces i piece).name ≡ (get_or pieces (i - 1) before).name → NamesPieces pieces (i + 1) names (numbers ++ get_or numbers (i - 1) 0 ∷ [])
named_again pieces i names numbers piece before are lt above same =
    let here : (get_or pieces (i - 1) no_piece).name ≡ (get_or pieces i no_piece).name =
    ap (λ (p : Piece). p.name) (get_or_default pieces (i - 1) no_piece before (omega (arith, lt))) ∙ sym same
    ∙ ap (λ (p : Piece). p.name) (get_or_default pieces i piece no_piece lt) in
    named_more pieces i names names numbers (get_or numbers (i - 1) 0) are (λ n name e. e) (omega (arith, are.few)) are.distinct
    (are.each (i - 1) (omega (arith, above)) ∙ ap (λ (name : List ℕ). Some name) here)

-- names that are told apart stand at one number only
names_apart : (names : List (List ℕ)) (n m : ℕ) → IsDistinct same_name names → n < length names → m < length names → get_or names n [] ≡ get_or names m [] → n ≡ m
names_apart names n m distinct in_n in_m same =
    elim (cases_lt n m) [
      | inl lt ↦ absurd (differ n m lt in_m same)
      | inr le ↦ elim (cases_lt m n) [
        | inl lt ↦ absurd (differ m n lt in_n (sym same))
        | inr ge ↦ omega arith
      ]
    ]
  where
    differ : (i j : ℕ) → i < j → j < length names → get_or names i [] ≡ get_or names j [] → ⊥
    differ i j lt in' e =
        false≢true (sym (apart_from_distinct same_name names i j [] distinct lt in') ∙ ap (λ (name : List ℕ). same_name name (get_or names j [])) e ∙ same_refl (get_or names j []))

-- the numbers of names are those of their cuts
pub numbered : (lead : List ℕ → List ℕ) (pieces : List Piece) (count : ℕ) (names : List (List ℕ)) (cuts : List Cut) (numbers : List ℕ) → NamesPieces pieces count names numbers → cuts ≡ map (name_cut lead) names → AreNumbered lead pieces count cuts numbers
numbered lead pieces count names cuts numbers are is = record {
  same_length = are.same_length;
  within = λ k lt. subst (λ (cs : List Cut). get_or numbers k 0 < length cs) (sym is) (omega (arith, length-map names (name_cut lead), (there names _ _ (are.each k lt)).0));
  each = λ k lt.
      let at = there names _ _ (are.each k lt) in
      let in' : get_or numbers k 0 < length (map (name_cut lead) names) = omega (arith, length-map names (name_cut lead), at.0) in
      ap (λ (cs : List Cut). get_or cs (get_or numbers k 0) no_cut) is
      ∙ get_or_default (map (name_cut lead) names) (get_or numbers k 0) no_cut (name_cut lead []) in'
      ∙ get_or-map (name_cut lead) names (get_or numbers k 0) [] ∙ ap (name_cut lead) at.1;
  apart = λ j k lt_j lt_k.
      let at_j = there names _ _ (are.each j lt_j) in
      let at_k = there names _ _ (are.each k lt_k) in
      both (get_or numbers j 0) (get_or numbers k 0) _ _ at_j at_k;
}
  where
    both : (n m : ℕ) (name other : List ℕ) → (n < length names) × (get_or names n [] ≡ name) → (m < length names) × (get_or names m [] ≡ other) → eqb n m ≡ same_name name other
    both n m name other at_n at_m = go (eqb n m) (same_name name other) refl refl
      where
        go : (a b : Bool) → eqb n m ≡ a → same_name name other ≡ b → a ≡ b
        go true true e f = refl
        go false false e f = refl
        go true false e f =
            let one : name ≡ other = sym at_n.1 ∙ ap (λ (i : ℕ). get_or names i []) (eqb-true n m e) ∙ at_m.1 in
            absurd (false≢true (sym f ∙ ap (λ (text : List ℕ). same_name text other) one ∙ same_refl other))
        go false true e f =
            let one : n ≡ m = names_apart names n m are.distinct at_n.0 at_m.0 (at_n.1 ∙ same_is name other f ∙ sym at_m.1) in
            absurd (false≢true (sym e ∙ eq-eqb n m one))

    there : (names : List (List ℕ)) (n : ℕ) (name : List ℕ) → slice_get names n ≡ Some name → (n < length names) × (get_or names n [] ≡ name)
    there names n name e = (slice_get_within names n name e, get_or_from_slice_get names n name [] e)

pub cuts_are : (pieces : List Piece) (used : List Bool) (merges : List (List ℕ × List ℕ)) (lead : List ℕ → List ℕ) (cuts : List Cut) (numbers : List ℕ) → AreNumbered lead pieces (length pieces) cuts numbers → ((name : List ℕ) → lead name ≡ final_name merges name) → AreCuts (input_from pieces used merges) cuts numbers
cuts_are pieces used merges lead cuts numbers are leads = record {
  same_length = are.same_length;
  within = are.within;
  apart = are.apart;
  each = λ k lt. are.each k lt ∙ led (get_or pieces k no_piece).name;
}
  where
    led : (name : List ℕ) → name_cut lead name ≡ name_cut (final_name merges) name
    led name = ap (cut_to name) (leads (base_name name))

-- ---- what is read at an index

pub piece_read : (input : Input) (k : ℕ) (piece : Piece) → k < length input.pieces → piece ≡ get_or input.pieces k piece → piece ≡ piece_at input k
piece_read input k piece lt is = is ∙ get_or_default input.pieces k piece no_piece lt

pub used_within : (input : Input) (k : ℕ) → IsTrue (is_used input k) → k < length input.pieces
used_within input k used = go (ltb k (length input.pieces)) refl used
  where
    go : (b : Bool) → ltb k (length input.pieces) ≡ b → (b && get_or input.used k false) ≡ true → k < length input.pieces
    go true e h = ltb-true k (length input.pieces) e
    go false e h = absurd (false≢true h)

pub used_at : (input : Input) (k : ℕ) → k < length input.pieces → is_used input k ≡ get_or input.used k false
used_at input k lt = ap (λ (b : Bool). b && get_or input.used k false) (lt-ltb k (length input.pieces) lt)

-- pieces whose cuts and attributes are the same go to one section
pub one_home : (input : Input) (j k : ℕ) → piece_cut input j ≡ piece_cut input k → bit_and (piece_at input j).flags SCN_MEM_ATTRIBUTES ≡ bit_and (piece_at input k).flags SCN_MEM_ATTRIBUTES → home_of input k ≡ home_of input j
unfolding section_attributes
one_home input j k cut flags =
    ap (λ (c : Cut). homed c.section (decided c.follows_owner (first_owner input c.section) k)) (sym cut)
    ∙ ap (homed (section_name input j)) (sym (level (follows_owner input j) (first_owner input (section_name input j))))
  where
    homed : List ℕ → ℕ → Home
    homed name attributes = record { name = name; attributes = attributes }

    decided : Bool → Option ℕ → ℕ → ℕ
    decided follows owner n =
        bit_and (piece_at input (if follows then unwrap_or owner n else n)).flags SCN_MEM_ATTRIBUTES

    level : (follows : Bool) (owner : Option ℕ) → decided follows owner j ≡ decided follows owner k
    level true (Some f) = refl
    level true None = flags
    level false owner = flags

-- a piece that goes with the one before it has its number
pub number_again : (input : Input) (homes : List Home) (i : ℕ) (numbers : List (Option ℕ)) (number : Option ℕ) → AreNumbers input homes i numbers → GoesWithItsLike input i → IsTrue (is_used input i) → number ≡ get_or numbers (i - 1) None → IsNumberOf input homes i number
number_again input homes i numbers number are alike used is =
    go number (subst (IsNumberOf input homes (i - 1)) (sym is) (are.each (i - 1) (omega (arith, alike.0))))
  where
    go : (o : Option ℕ) → IsNumberOf input homes (i - 1) o → IsNumberOf input homes i o
    go None unused = absurd (false≢true (sym unused ∙ alike.1))
    go (Some n) there = (used, there.1 ∙ ap (λ (home : Home). Some home) (sym alike.2))
