-- A link has one folding.
use Rattle.std.proofs.Common.{◌≡◌, ℕ, zero, suc, inl, inr, Bool, List, [], ◌∷◌, length, get_or, map, filter, Option, None, slice_get, refl, sym, ap, ◌∙◌, subst, arith}
use Rattle.std.specs.List.{Contains}
use Rattle.std.specs.List.Sorted.{IsPermutation}
use Rattle.std.proofs.lemmas.Bool.{cases_lt}
use Rattle.std.proofs.lemmas.List.Elements.{All-contains_itself}
use Rattle.std.proofs.lemmas.List.Sorted.{All-permutation, IsPermutation-sym}
use Rattle.std.proofs.lemmas.List.{length-map, get_or_past, get_or_default, ext_get_or}
use Rattle.std.proofs.Math.ListN.{get_or-map}
use Rattle.section_group.specs.declared.piece.Piece.{Piece}
use Rattle.section_group.specs.BarePieces.{bare}
use Rattle.section_group.specs.SectionOrder.{no_piece}
use Rattle.relocate.specs.declared.fix.Fix.{Fix}
use Rattle.relocate.specs.Field.{has_field}
use Rattle.relocate.specs.Redirected.{place_of}
use Rattle.link_pieces.specs.LinkParts.{LinkParts}
use Rattle.link_pieces.specs.Pieces.{link_pieces}
use Rattle.link_fields.specs.Fixes.{piece_fixes}
use Rattle.icf.specs.declared.candidate.FoldCandidate.{FoldCandidate}
use Rattle.icf.specs.Sections.{HasSection, Input, input_from, data_at, fields_at, sections_at}
use Rattle.icf.specs.Alike.{Meant, Agree, AreAlikeFields, AreAlikeSections}
use Rattle.icf.specs.Folding.{KeepsAlike, RelatedBy, ArePairsBelow, AnsweredAlike, IsFolding}
use Rattle.icf.proofs.OneLemmas.{one_folding}
use Rattle.icf.proofs.SectionLemmas.{one_section}
use Rattle.link_folding.specs.Places.{StandsWith, body_in, IsFolded}

-- ---- inputs that say the same

pub record SayTheSame (left right : Input) : Type 0 where
  pub sections : (number : ℕ) → sections_at left.candidates number ≡ sections_at right.candidates number
  pub pieces : (k : ℕ) → bare (get_or left.pieces k no_piece) ≡ bare (get_or right.pieces k no_piece)
  pub contents : (k : ℕ) → data_at left k ≡ data_at right k
  pub there : (k : ℕ) (fix : Fix) → Contains (fields_at left.fixes k) fix → Contains (fields_at right.fixes k) fix
  pub back : (k : ℕ) (fix : Fix) → Contains (fields_at right.fixes k) fix → Contains (fields_at left.fixes k) fix

turned : (left right : Input) → SayTheSame left right → SayTheSame right left
turned left right same = record {
  sections = λ number. sym (same.sections number);
  pieces = λ k. sym (same.pieces k);
  contents = λ k. sym (same.contents k);
  there = same.back;
  back = same.there;
}

module _ (left right : Input) (same : SayTheSame left right) (E : ℕ → ℕ → Type 0) where
  has_over : (number rank piece : ℕ) → HasSection left.candidates number rank piece → HasSection right.candidates number rank piece
  has_over number rank piece has = ap (λ (xs : List ℕ). slice_get xs rank) (sym (same.sections number)) ∙ has

  has_back : (number rank piece : ℕ) → HasSection right.candidates number rank piece → HasSection left.candidates number rank piece
  has_back number rank piece has = ap (λ (xs : List ℕ). slice_get xs rank) (same.sections number) ∙ has

  agree_over : (one other : Meant) → Agree left E one other → Agree right E one other
  agree_over one other (inl equal) = inl equal
  agree_over one other (inr stand) = inr (record {
    candidate = stand.candidate;
    other = stand.other;
    related = stand.related;
    rank = stand.rank;
    piece = stand.piece;
    other_piece = stand.other_piece;
    value = stand.value;
    section = has_over stand.candidate stand.rank stand.piece stand.section;
    other_section = has_over stand.other stand.rank stand.other_piece stand.other_section;
    stands = stand.stands;
    other_stands = stand.other_stands;
  })

  fields_over : (one other : Fix) → AreAlikeFields left E one other → AreAlikeFields right E one other
  fields_over one other alike = record { place = alike.place; kind = alike.kind; targets = agree_over one.target other.target alike.targets }

  sections_over : (one other : ℕ) → AreAlikeSections left E one other → AreAlikeSections right E one other
  sections_over one other alike = record {
    names = ap (λ (piece : Piece). piece.name) (sym (same.pieces one)) ∙ alike.names ∙ ap (λ (piece : Piece). piece.name) (same.pieces other);
    flags = ap (λ (piece : Piece). piece.flags) (sym (same.pieces one)) ∙ alike.flags ∙ ap (λ (piece : Piece). piece.flags) (same.pieces other);
    sizes = ap (λ (piece : Piece). piece.size) (sym (same.pieces one)) ∙ alike.sizes ∙ ap (λ (piece : Piece). piece.size) (same.pieces other);
    contents = sym (same.contents one) ∙ alike.contents ∙ same.contents other;
    left_fields = λ fix there.
        let found = alike.left_fields fix (same.back one fix there) in
        (found.0, (same.there other found.0 found.1.0, fields_over fix found.0 found.1.1));
    right_fields = λ fix there.
        let found = alike.right_fields fix (same.back other fix there) in
        (found.0, (same.there one found.0 found.1.0, fields_over found.0 fix found.1.1));
  }

  pub keeps_over : KeepsAlike left E → KeepsAlike right E
  keeps_over keeps one other related =
      let alike = keeps one other related in
      record {
        as_many = ap length (sym (same.sections one)) ∙ alike.as_many ∙ ap length (same.sections other);
        pairwise = λ rank piece other_piece has has'.
            sections_over piece other_piece (alike.pairwise rank piece other_piece (has_back one rank piece has) (has_back other rank other_piece has'));
      }

-- so a folding of one is a folding of the other
folding_over : (left right : Input) (answers : List ℕ) → SayTheSame left right → length left.candidates ≡ length right.candidates → IsFolding left answers → IsFolding right answers
folding_over left right answers same count folding = record {
  same_length = folding.same_length ∙ count;
  least = folding.least;
  alike = keeps_over left right same (AnsweredAlike answers) folding.alike;
  greatest = λ pairs below keeps.
      folding.greatest pairs (subst (λ (n : ℕ). ArePairsBelow n pairs) (sym count) below) (keeps_over right left (turned left right same) (RelatedBy pairs) keeps);
}

-- ---- two foldings of a link

head_same : {X : Type 0} (x y : X) (xs ys : List X) → x ∷ xs ≡ y ∷ ys → x ≡ y
head_same x y xs ys e = cc

tail_same : {X : Type 0} (x y : X) (xs ys : List X) → x ∷ xs ≡ y ∷ ys → xs ≡ ys
tail_same x y xs ys e = cc

same_sections : (one other : List FoldCandidate) → map (λ candidate. candidate.piece) one ≡ map (λ candidate. candidate.piece) other → map (λ candidate. candidate.children.items) one ≡ map (λ candidate. candidate.children.items) other → (number : ℕ) → sections_at one number ≡ sections_at other number
same_sections [] [] pieces children number = refl
same_sections [] (candidate ∷ other) pieces children number = absurd cc
same_sections (candidate ∷ one) [] pieces children number = absurd cc
same_sections (candidate ∷ one) (another ∷ other) pieces children zero = λ i.
    head_same candidate.piece another.piece (map (λ c. c.piece) one) (map (λ c. c.piece) other) pieces i
    ∷ head_same candidate.children.items another.children.items (map (λ c. c.children.items) one) (map (λ c. c.children.items) other) children i
same_sections (candidate ∷ one) (another ∷ other) pieces children (suc number) =
    same_sections one other
    (tail_same candidate.piece another.piece (map (λ c. c.piece) one) (map (λ c. c.piece) other) pieces)
    (tail_same candidate.children.items another.children.items (map (λ c. c.children.items) one) (map (λ c. c.children.items) other) children)
    number

-- what is in a list is in it in another order
among : (fixes others : List Fix) (fix : Fix) → IsPermutation fixes others → Contains others fix → Contains fixes fix
among fixes others fix same there = subst (Contains fixes) there.2 (All-permutation (Contains fixes) fixes others same (All-contains_itself fixes) there.0 fix there.1)

module _ (link : LinkParts) (kept : List Bool) where
  pieces_of : (places : List ℕ) (folded : IsFolded link kept places) → length folded.pieces ≡ length (link_pieces link)
  pieces_of places folded = sym (length-map folded.pieces bare) ∙ ap length folded.pieces_are

  fields_over_to : (a b : List ℕ) (one : IsFolded link kept a) (other : IsFolded link kept b) (k : ℕ) (fix : Fix) → Contains (fields_at one.fixes k) fix → Contains (fields_at other.fixes k) fix
  fields_over_to a b one other k fix there = elim (cases_lt k (length one.pieces)) [
    | inl low ↦
        let fixes = filter has_field (piece_fixes link k) in
        let own = one.fields.fields k low in
        let others = other.fields.fields k (omega (arith, low, pieces_of a one, pieces_of b other)) in
        among (fields_at other.fixes k) fixes fix (IsPermutation-sym fixes (fields_at other.fixes k) others)
        (among fixes (fields_at one.fixes k) fix own there)
    | inr past ↦
        let none : fields_at one.fixes k ≡ [] = get_or_past one.fixes k [] (omega (arith, past, one.fields.for_each)) in
        let lt = there.1 in
        absurd (omega (arith, lt, ap length none))
  ]

  say_the_same : (a b : List ℕ) (one : IsFolded link kept a) (other : IsFolded link kept b) → SayTheSame (input_from one.pieces one.fixes one.candidates) (input_from other.pieces other.fixes other.candidates)
  say_the_same a b one other = record {
    sections = same_sections one.candidates other.candidates (one.are.pieces ∙ sym other.are.pieces) (one.are.children ∙ sym other.are.children);
    pieces = λ k.
        sym (get_or-map bare one.pieces k no_piece)
        ∙ ap (λ (ps : List Piece). get_or ps k no_piece) (one.pieces_are ∙ sym other.pieces_are)
        ∙ get_or-map bare other.pieces k no_piece;
    contents = λ k.
        sym (get_or-map body_in one.pieces k no_piece)
        ∙ ap (λ (bodies : List (Option (List ℕ))). get_or bodies k None) (one.bodies_are ∙ sym other.bodies_are)
        ∙ get_or-map body_in other.pieces k no_piece;
    there = fields_over_to a b one other;
    back = fields_over_to b a other one;
  }

  pub same_places : (a b : List ℕ) → IsFolded link kept a → IsFolded link kept b → a ≡ b
  same_places a b one other =
      ext_get_or 0 a b (one.for_each ∙ sym other.for_each)
      (λ k lt. get_or_default a k 0 k lt ∙ place k ∙ get_or_default b k k 0 (omega (arith, lt, one.for_each, other.for_each)))
    where
      left : Input
      left = input_from one.pieces one.fixes one.candidates

      right : Input
      right = input_from other.pieces other.fixes other.candidates

      same : SayTheSame left right
      same = say_the_same a b one other

      count : length one.candidates ≡ length other.candidates
      count =
          sym (length-map one.candidates (λ candidate. candidate.piece))
          ∙ ap length (one.are.pieces ∙ sym other.are.pieces)
          ∙ length-map other.candidates (λ candidate. candidate.piece)

      answers : one.answers ≡ other.answers
      answers = one_folding right one.answers other.answers (folding_over left right one.answers same count one.folding) other.folding

      over : (number rank piece : ℕ) → HasSection one.candidates number rank piece → HasSection other.candidates number rank piece
      over number rank piece has = ap (λ (xs : List ℕ). slice_get xs rank) (sym (same.sections number)) ∙ has

      back : (number rank piece : ℕ) → HasSection other.candidates number rank piece → HasSection one.candidates number rank piece
      back number rank piece has = ap (λ (xs : List ℕ). slice_get xs rank) (same.sections number) ∙ has

      both : (k : ℕ) → StandsWith one.candidates one.answers k (place_of a k) → StandsWith other.candidates other.answers k (place_of b k) → place_of a k ≡ place_of b k
      both k here there =
          let equal = other.distinct.distinct here.number here.rank there.number there.rank k (over here.number here.rank k here.section) there.section in
          let first = get_or other.answers there.number 0 in
          let number : get_or one.answers here.number 0 ≡ first = ap (λ (xs : List ℕ). get_or xs here.number 0) answers ∙ ap (λ (n : ℕ). get_or other.answers n 0) equal.0 in
          let moved : HasSection other.candidates first there.rank (place_of a k) =
          subst (λ (r : ℕ). HasSection other.candidates first r (place_of a k)) equal.1
          (subst (λ (n : ℕ). HasSection other.candidates n here.rank (place_of a k)) number (over (get_or one.answers here.number 0) here.rank (place_of a k) here.other)) in
          one_section (sections_at other.candidates first) there.rank (place_of a k) (place_of b k) moved there.other

      place : (k : ℕ) → place_of a k ≡ place_of b k
      place k = elim (one.places_are k) [
        | inl here ↦ elim (other.places_are k) [
          | inl there ↦ both k here there
          | inr there ↦ absurd (there.0 here.number here.rank (over here.number here.rank k here.section))
        ]
        | inr here ↦ elim (other.places_are k) [
          | inl there ↦ absurd (here.0 there.number there.rank (back there.number there.rank k there.section))
          | inr there ↦ here.1 ∙ sym there.1
        ]
      ]
