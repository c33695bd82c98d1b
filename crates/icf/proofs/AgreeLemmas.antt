-- Targets agree where their places are equal as classes name them.
use Rattle.std.proofs.Common.{◌≡◌, ℕ, inl, inr, List, length, get_or, slice_get, Option, Some, None, Ok, refl, sym, ap, ◌∙◌, arith}
use Rattle.relocate.specs.declared.fix.Target.{Target}
use Rattle.relocate.specs.declared.fix.Target.TheVariants as target
use Rattle.icf.specs.declared.field.Owner.{Owner}
use Rattle.icf.specs.declared.field.Place.{Place}
use Rattle.icf.specs.declared.field.Place.TheVariants.{Section, Piece, Absolute, ImageBase}
use Rattle.icf.specs.Sections.{Input, sections_at, HasSection}
use Rattle.icf.specs.Alike.{Meant, Agree}
use Rattle.icf.specs.Folding.{AnsweredAlike}
use Rattle.icf.specs.Owners.{owner_at, AreOwners}
use Rattle.icf.specs.Fields.{place_by, place_in}
use Rattle.icf.specs.Rounds.{renamed_place}
use Rattle.icf.proofs.SectionLemmas.{candidate_there}

module _ (input : Input) (owners : List (Option Owner)) (owned : AreOwners input.candidates (length input.pieces) owners) where
  -- the place of a target in a section of a candidate
  place_there : (candidate rank piece value : ℕ) → HasSection input.candidates candidate rank piece → place_in owners (Some (Ok (target.Piece piece value))) ≡ Section candidate rank value
  place_there candidate rank piece value has = ap (λ (o : Option Owner). place_by o piece value) (owned.every candidate rank piece has)

  -- targets that agree have one place under classes that hold the relation
  pub agree_places : (E : ℕ → ℕ → Type 0) (classes : List ℕ) → ((left right : ℕ) → E left right → get_or classes left 0 ≡ get_or classes right 0) → (left right : Meant) → Agree input E left right
      → renamed_place classes (place_in owners left) ≡ renamed_place classes (place_in owners right)
  agree_places E classes holds left right (inl same) = ap (λ (m : Meant). renamed_place classes (place_in owners m)) same
  agree_places E classes holds left right (inr stand) =
      ap (λ (m : Meant). renamed_place classes (place_in owners m)) stand.stands
      ∙ ap (renamed_place classes) (place_there stand.candidate stand.rank stand.piece stand.value stand.section)
      ∙ ap (λ (n : ℕ). Section n stand.rank stand.value) (holds stand.candidate stand.other stand.related)
      ∙ sym (ap (renamed_place classes) (place_there stand.other stand.rank stand.other_piece stand.value stand.other_section))
      ∙ sym (ap (λ (m : Meant). renamed_place classes (place_in owners m)) stand.other_stands)

  module _ (classes : List ℕ) (same_length : length classes ≡ length input.candidates) where
    -- two places in pieces
    pieces_agree : (p v p' v' : ℕ) (o o' : Option Owner) → owner_at owners p ≡ o → owner_at owners p' ≡ o' → renamed_place classes (place_by o p v) ≡ renamed_place classes (place_by o' p' v')
        → Agree input (AnsweredAlike classes) (Some (Ok (target.Piece p v))) (Some (Ok (target.Piece p' v')))
    pieces_agree p v p' v' None None is is' e =
        let one : p ≡ p' = cc in
        let two : v ≡ v' = cc in
        inl (ap (λ (n : ℕ). Some (Ok (target.Piece n v))) one ∙ ap (λ (n : ℕ). Some (Ok (target.Piece p' n))) two)
    pieces_agree p v p' v' None (Some owner') is is' e = absurd cc
    pieces_agree p v p' v' (Some owner) None is is' e = absurd cc
    pieces_agree p v p' v' (Some owner) (Some owner') is is' e =
        let class : get_or classes owner.candidate 0 ≡ get_or classes owner'.candidate 0 = cc in
        let ranks : owner.rank ≡ owner'.rank = cc in
        let values : v ≡ v' = cc in
        let has = owned.right p owner is in
        let has' = owned.right p' owner' is' in
        inr (record {
          candidate = owner.candidate;
          other = owner'.candidate;
          related = record {
            within = let lt = candidate_there input.candidates owner.candidate owner.rank p has in omega (arith, same_length);
            other_within = let lt = candidate_there input.candidates owner'.candidate owner'.rank p' has' in omega (arith, same_length);
            equal = class;
          };
          rank = owner.rank;
          piece = p;
          other_piece = p';
          value = v;
          section = has;
          other_section = ap (λ (r : ℕ). slice_get (sections_at input.candidates owner'.candidate) r) ranks ∙ has';
          stands = refl;
          other_stands = ap (λ (n : ℕ). Some (Ok (target.Piece p' n))) (sym values);
        })

    piece_apart : (o : Option Owner) (p v : ℕ) (place : Place) → ((c r v : ℕ) → Section c r v ≡ place → ⊥) → ((p v : ℕ) → Piece p v ≡ place → ⊥) → renamed_place classes (place_by o p v) ≡ place → ⊥
    piece_apart None p v place a b e = b p v e
    piece_apart (Some owner) p v place a b e = a (get_or classes owner.candidate 0) owner.rank v e

    -- known targets with one place under the classes agree under the relation of equal classes
    pub places_agree : (left right : Target) → renamed_place classes (place_in owners (Some (Ok left))) ≡ renamed_place classes (place_in owners (Some (Ok right))) → Agree input (AnsweredAlike classes) (Some (Ok left)) (Some (Ok right))
    places_agree (target.Piece p v) (target.Piece p' v') e = pieces_agree p v p' v' (owner_at owners p) (owner_at owners p') refl refl e
    places_agree (target.Piece p v) (target.Absolute n') e = absurd (piece_apart (owner_at owners p) p v (Absolute n') (λ c r w h. cc) (λ q w h. cc) e)
    places_agree (target.Piece p v) target.ImageBase e = absurd (piece_apart (owner_at owners p) p v ImageBase (λ c r w h. cc) (λ q w h. cc) e)
    places_agree (target.Absolute n) (target.Piece p' v') e = absurd (piece_apart (owner_at owners p') p' v' (Absolute n) (λ c r w h. cc) (λ q w h. cc) (sym e))
    places_agree (target.Absolute n) (target.Absolute n') e = let one : n ≡ n' = cc in inl (ap (λ (k : ℕ). Some (Ok (target.Absolute k))) one)
    places_agree (target.Absolute n) target.ImageBase e = absurd cc
    places_agree target.ImageBase (target.Piece p' v') e = absurd (piece_apart (owner_at owners p') p' v' ImageBase (λ c r w h. cc) (λ q w h. cc) (sym e))
    places_agree target.ImageBase (target.Absolute n') e = absurd cc
    places_agree target.ImageBase target.ImageBase e = inl refl
