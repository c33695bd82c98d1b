-- Candidates are alike under classes where their contents and their fields are equal as the classes name them; and alike
-- under a relation, they stay together in classes that hold it.
use Rattle.std.proofs.Common.{◌≡◌, ℕ, ◌<◌, inl, inr, List, [], length, get_or, Vec, Option, Some, None, Ok, Err, slice_get, option_map, unwrap_or, refl, sym, ap, ◌∙◌, subst, arith}
use Rattle.std.specs.declared.alloc.Global.{Global}
use Rattle.std.specs.List.{Contains}
use Rattle.std.proofs.lemmas.Bool.{cases_lt}
use Rattle.std.proofs.lemmas.List.Elements.{All-contains}
use Rattle.std.proofs.lemmas.Option.{slice_get_within, slice_get_past}
use Rattle.link_base.proofs.ListLemmas.{contains_map}
use Rattle.relocate.specs.declared.fix.Fix.{Fix}
use Rattle.relocate.specs.declared.fix.Target.TheVariants as target
use Rattle.icf.specs.declared.field.Owner.{Owner}
use Rattle.icf.specs.declared.field.Place.{Place}
use Rattle.icf.specs.declared.field.Place.TheVariants.{ImageBase}
use Rattle.icf.specs.declared.field.Field.{Field}
use Rattle.icf.specs.Sections.{Input, piece_at, fields_at, sections_at, HasSection, IsFoldable}
use Rattle.icf.specs.Alike.{Meant, Agree, AreAlikeFields, AreAlikeSections, AreAlike}
use Rattle.icf.specs.Folding.{KeepsAlike, RelatedBy, ArePairsBelow, AnsweredAlike}
use Rattle.icf.specs.Owners.{owner_at, AreOwners}
use Rattle.icf.specs.Fields.{listed, place_by, place_in, field_in, AreFields, AreFieldLists}
use Rattle.icf.specs.Contents.{contents_of, Shown, shown, AreFirstClasses}
use Rattle.icf.specs.Rounds.{renamed_field, renamed_place, renamed, IsPlaceBelow, AreListsWithin, JoinsAll, StaysTogether, AreSettled}
use Rattle.icf.proofs.SectionLemmas.{candidate_there, section_there, one_section}
use Rattle.icf.proofs.ListLemmas.{any_item, listed_read}
use Rattle.icf.proofs.GatherLemmas.{map_contains}
use Rattle.icf.proofs.ContentLemmas.{shown_same, shown_each, shown_length}
use Rattle.icf.proofs.OrderLemmas.{same_fields, renamed_rises}
use Rattle.icf.proofs.AgreeLemmas.{agree_places, places_agree}

no_field : Field
no_field = record { rank = 0; at = 0; kind = 0; place = ImageBase }

module _ (input : Input) (are : IsFoldable input) (owners : List (Option Owner)) (owned : AreOwners input.candidates (length input.pieces) owners) (lists : List (Vec Field Global))
    (gathered : AreFieldLists owners input.fixes input.candidates (length input.candidates) lists) where
  -- the fields of a candidate
  fields_are : (number : ℕ) → number < length input.candidates → AreFields owners input.fixes (sections_at input.candidates number) (listed lists number)
  fields_are number lt =
      let within : number < length lists = omega (arith, gathered.same_length) in
      let d = any_item lists number within in
      subst (AreFields owners input.fixes (sections_at input.candidates number)) (sym (listed_read lists number d within)) (gathered.each number d lt)

  -- ---- places name candidates

  place_below : (meant : Meant) → IsPlaceBelow (length input.candidates) (place_in owners meant)
  place_below None = tt
  place_below (Some (Err fault)) = tt
  place_below (Some (Ok (target.Absolute number))) = tt
  place_below (Some (Ok target.ImageBase)) = tt
  place_below (Some (Ok (target.Piece piece value))) = by (owner_at owners piece) refl
    where
      by : (o : Option Owner) → owner_at owners piece ≡ o → IsPlaceBelow (length input.candidates) (place_by o piece value)
      by None is = tt
      by (Some owner) is = candidate_there input.candidates owner.candidate owner.rank piece (owned.right piece owner is)

  pub lists_within : AreListsWithin (length input.candidates) lists
  lists_within number field there = elim (cases_lt number (length input.candidates)) [
    | inl low ↦
        let among = (fields_are number low).only field there in
        subst (λ (f : Field). IsPlaceBelow (length input.candidates) f.place) (sym among.is) (place_below among.fix.target)
    | inr high ↦
        let none : listed lists number ≡ [] = ap (λ (o : Option (Vec Field Global)). unwrap_or (option_map (λ list. list.items) o) []) (slice_get_past lists number (omega (arith, gathered.same_length))) in
        let lt = there.1 in
        absurd (omega (arith, ap length none))
  ]

  -- ---- alike under a relation, candidates have equal fields under classes that hold it

  module _ (E : ℕ → ℕ → Type 0) (classes : List ℕ) (holds : (left right : ℕ) → E left right → get_or classes left 0 ≡ get_or classes right 0) where
    field_same : (rank : ℕ) (fix other : Fix) → AreAlikeFields input E fix other → renamed_field classes (field_in owners rank fix) ≡ renamed_field classes (field_in owners rank other)
    field_same rank fix other alike =
        ap (λ (n : ℕ). record (renamed_field classes (field_in owners rank fix)) { at = n }) alike.place
        ∙ ap (λ (n : ℕ). record (renamed_field classes (field_in owners rank fix)) { at = other.at; kind = n }) alike.kind
        ∙ ap (λ (p : Place). record (renamed_field classes (field_in owners rank other)) { place = p }) (agree_places input owners owned E classes holds fix.target other.target alike.targets)

    -- a section of the same rank
    twin : (left right : ℕ) → length (sections_at input.candidates left) ≡ length (sections_at input.candidates right) → (rank piece : ℕ) → HasSection input.candidates left rank piece
        → (other : ℕ) × HasSection input.candidates right rank other
    twin left right same rank piece has =
        let lt = slice_get_within (sections_at input.candidates left) rank piece has in
        (get_or (sections_at input.candidates right) rank 0, section_there (sections_at input.candidates right) rank (omega arith))

    into : (left right : ℕ) → left < length input.candidates → right < length input.candidates → AreAlike input E left right → (field : Field) → Contains (renamed classes (listed lists left)) field → Contains (renamed classes (listed lists right)) field
    into left right lt lt' alike field there =
        let from = map_contains (renamed_field classes) (listed lists left) no_field field there in
        let among = (fields_are left lt).only from.0 from.1.0 in
        let rank = from.0.rank in
        let other = twin left right alike.as_many rank among.piece among.section in
        let sections = alike.pairwise rank among.piece other.0 among.section other.1 in
        let partner = sections.left_fields among.fix among.there in
        let within = slice_get_within (sections_at input.candidates right) rank other.0 other.1 in
        let here = (fields_are right lt').every rank other.0 partner.0 within other.1 partner.1.0 in
        let same = from.1.1 ∙ ap (renamed_field classes) among.is ∙ field_same rank among.fix partner.0 partner.1.1 in
        subst (Contains (renamed classes (listed lists right))) (sym same) (contains_map (renamed_field classes) (listed lists right) (field_in owners rank partner.0) here)

    back : (left right : ℕ) → left < length input.candidates → right < length input.candidates → AreAlike input E left right → (field : Field) → Contains (renamed classes (listed lists right)) field → Contains (renamed classes (listed lists left)) field
    back left right lt lt' alike field there =
        let from = map_contains (renamed_field classes) (listed lists right) no_field field there in
        let among = (fields_are right lt').only from.0 from.1.0 in
        let rank = from.0.rank in
        let other = twin right left (sym alike.as_many) rank among.piece among.section in
        let sections = alike.pairwise rank other.0 among.piece other.1 among.section in
        let partner = sections.right_fields among.fix among.there in
        let within = slice_get_within (sections_at input.candidates left) rank other.0 other.1 in
        let here = (fields_are left lt).every rank other.0 partner.0 within other.1 partner.1.0 in
        let same = from.1.1 ∙ ap (renamed_field classes) among.is ∙ sym (field_same rank partner.0 among.fix partner.1.1) in
        subst (Contains (renamed classes (listed lists left))) (sym same) (contains_map (renamed_field classes) (listed lists left) (field_in owners rank partner.0) here)

    pub alike_equal : (left right : ℕ) → left < length input.candidates → right < length input.candidates → AreAlike input E left right → renamed classes (listed lists left) ≡ renamed classes (listed lists right)
    alike_equal left right lt lt' alike =
        same_fields (renamed classes (listed lists left)) (renamed classes (listed lists right))
        (renamed_rises classes (listed lists left) (fields_are left lt).ascending)
        (renamed_rises classes (listed lists right) (fields_are right lt').ascending)
        (into left right lt lt' alike)
        (back left right lt lt' alike)

  -- what a section has to share
  abbrev shown_of : ℕ → Shown
  shown_of piece = shown (contents_of (piece_at input piece))

  -- ---- the answers

  module _ (first answers : List ℕ) (begun : AreFirstClasses input.pieces input.candidates first) (done : AreSettled lists first answers) where
    pub as_many_answers : length answers ≡ length input.candidates
    as_many_answers = done.split.same_length ∙ begun.same_length

    -- a field of one has one of the other that agrees with it
    known : (piece : ℕ) (fix : Fix) → Contains (fields_at input.fixes piece) fix → (fix' : Fix) (piece' : ℕ) → Contains (fields_at input.fixes piece') fix' → (rank : ℕ)
        → renamed_field answers (field_in owners rank fix) ≡ renamed_field answers (field_in owners rank fix') → AreAlikeFields input (AnsweredAlike answers) fix fix'
    known piece fix there fix' piece' there' rank same =
        let meant = are.targets piece fix there in
        let meant' = are.targets piece' fix' there' in
        let places = ap (λ (f : Field). f.place) same in
        let agree = places_agree input owners owned answers as_many_answers meant.0 meant'.0
        (sym (ap (λ (m : Meant). renamed_place answers (place_in owners m)) meant.1) ∙ places ∙ ap (λ (m : Meant). renamed_place answers (place_in owners m)) meant'.1) in
        record {
          place = ap (λ (f : Field). f.at) same;
          kind = ap (λ (f : Field). f.kind) same;
          targets = subst (λ (m : Meant). Agree input (AnsweredAlike answers) m fix'.target) (sym meant.1) (subst (Agree input (AnsweredAlike answers) (Some (Ok meant.0))) (sym meant'.1) agree);
        }

    partner : (left right : ℕ) → left < length input.candidates → right < length input.candidates → renamed answers (listed lists left) ≡ renamed answers (listed lists right) → (rank piece other : ℕ) → HasSection input.candidates left rank piece → HasSection input.candidates right rank other
        → (fix : Fix) → Contains (fields_at input.fixes piece) fix → (fix' : Fix) × (Contains (fields_at input.fixes other) fix' × (renamed_field answers (field_in owners rank fix) ≡ renamed_field answers (field_in owners rank fix')))
    partner left right lt lt' same rank piece other has has' fix there =
        let within = slice_get_within (sections_at input.candidates left) rank piece has in
        let here = contains_map (renamed_field answers) (listed lists left) (field_in owners rank fix) ((fields_are left lt).every rank piece fix within has there) in
        let from = map_contains (renamed_field answers) (listed lists right) no_field (renamed_field answers (field_in owners rank fix)) (subst (λ (fields : List Field). Contains fields (renamed_field answers (field_in owners rank fix))) same here) in
        let among = (fields_are right lt').only from.0 from.1.0 in
        let ranks : from.0.rank ≡ rank = sym (ap (λ (f : Field). f.rank) from.1.1) in
        let one = one_section (sections_at input.candidates right) rank among.piece other (ap (slice_get (sections_at input.candidates right)) (sym ranks) ∙ among.section) has' in (
          among.fix,
          (
            subst (λ (p : ℕ). Contains (fields_at input.fixes p) among.fix) one among.there,
            from.1.1 ∙ ap (renamed_field answers) among.is ∙ ap (λ (r : ℕ). renamed_field answers (field_in owners r among.fix)) ranks,
          ),
        )

    pub answers_alike : KeepsAlike input (AnsweredAlike answers)
    answers_alike left right related =
        let lt : left < length input.candidates = let l = related.within in omega (arith, as_many_answers) in
        let lt' : right < length input.candidates = let l = related.other_within in omega (arith, as_many_answers) in
        let low : left < length first = omega (arith, begun.same_length) in
        let low' : right < length first = omega (arith, begun.same_length) in
        let equal_contents = begun.equal left right lt lt' (done.split.finer left right low low' related.equal) in
        let same = done.stable left right low low' related.equal in
        record {
          as_many = shown_length input.pieces (sections_at input.candidates left) (sections_at input.candidates right) equal_contents;
          pairwise = λ rank piece other has has'.
              let each = shown_each input.pieces (sections_at input.candidates left) (sections_at input.candidates right) equal_contents rank piece other has has' in
              record {
                names = ap (λ (s : Shown). s.name) each;
                flags = ap (λ (s : Shown). s.flags) each;
                sizes = ap (λ (s : Shown). s.size) each;
                contents = ap (λ (s : Shown). s.bytes) each;
                left_fields = λ fix there.
                    let found = partner left right lt lt' same rank piece other has has' fix there in
                    (found.0, (found.1.0, known piece fix there found.0 other found.1.0 rank found.1.1));
                right_fields = λ fix there.
                    let found = partner right left lt' lt (sym same) rank other piece has' has fix there in
                    (found.0, (found.1.0, known piece found.0 found.1.0 fix other there rank (sym found.1.1)));
              };
        }

    pub answers_greatest : (pairs : List (ℕ × ℕ)) → ArePairsBelow (length input.candidates) pairs → KeepsAlike input (RelatedBy pairs) → (left right : ℕ) → RelatedBy pairs left right → AnsweredAlike answers left right
    answers_greatest pairs below keeps left right related =
        let both = bounds left right related in
        let lt = both.0 in
        let lt' = both.1 in
        record {
          within = omega (arith, as_many_answers);
          other_within = omega (arith, as_many_answers);
          equal = done.split.joins pairs (subst (λ (n : ℕ). ArePairsBelow n pairs) (sym begun.same_length) below) joined stays left right related;
        }
      where
        bounds : (left right : ℕ) → RelatedBy pairs left right → (left < length input.candidates) × (right < length input.candidates)
        bounds left right related = All-contains (λ (pair : ℕ × ℕ). (pair.0 < length input.candidates) × (pair.1 < length input.candidates)) pairs (left, right) below related

        shown_alike : (left right : ℕ) → AreAlikeSections input (RelatedBy pairs) left right → shown_of left ≡ shown_of right
        shown_alike left right alike =
            ap (λ (text : List ℕ). record (shown_of left) { name = text }) alike.names
            ∙ ap (λ (n : ℕ). record (shown_of left) { name = (piece_at input right).name; flags = n }) alike.flags
            ∙ ap (λ (n : ℕ). record (shown_of left) { name = (piece_at input right).name; flags = (piece_at input right).flags; size = n }) alike.sizes
            ∙ ap (λ (bytes : Option (List ℕ)). record (shown_of right) { bytes = bytes }) alike.contents

        joined : JoinsAll pairs first
        joined left right related =
            let both = bounds left right related in
            let alike = keeps left right related in
            begun.every left right both.0 both.1
            (shown_same input.pieces (sections_at input.candidates left) (sections_at input.candidates right) alike.as_many
            (λ rank piece other has has'. shown_alike piece other (alike.pairwise rank piece other has has')))

        stays : StaysTogether lists pairs
        stays classes joins left right related =
            let both = bounds left right related in
            alike_equal (RelatedBy pairs) classes joins left right both.0 both.1 (keeps left right related)
