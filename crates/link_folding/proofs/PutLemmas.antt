-- Where pieces stand, one section more, and one candidate more.
use Rattle.std.proofs.Common.{◌≡◌, ℕ, zero, suc, ◌+◌, ◌<◌, ◌⊎◌, inl, inr, List, [], ◌∷◌, ◌++◌, length, get_or, set, Some, slice_get, sym, ap, ◌∙◌, subst, arith}
use Rattle.std.specs.List.{range_with_len}
use Rattle.std.proofs.lemmas.Bool.{cases_eq, cases_lt}
use Rattle.std.proofs.lemmas.List.{length-set, get_or-set_same, get_or-set_other, get_or_past}
use Rattle.std.proofs.lemmas.List.FromFn.{length-range_with_len, get_or-range_with_len}
use Rattle.std.proofs.lemmas.Option.{slice_get_within, same_Some}
use Rattle.link_base.proofs.RangeLemmas.{range_more}
use Rattle.relocate.specs.Redirected.{place_of}
use Rattle.icf.specs.declared.candidate.FoldCandidate.{FoldCandidate}
use Rattle.icf.specs.Sections.{Input, sections_at}
use Rattle.icf.specs.Folding.{AreLeast, KeepsAlike, AnsweredAlike}
use Rattle.icf.proofs.SectionLemmas.{candidate_there, one_section}
use Rattle.link_folding.specs.Places.{ArePlaces}
use Rattle.link_folding.specs.Steps.{ArePut, ArePlacesBelow, HaveSections}

-- ---- the sections of one candidate

-- one more is
pub put_more : (sections others : List ℕ) (count : ℕ) (old now new : List ℕ) (piece other : ℕ) → ArePut sections others count old now → slice_get sections count ≡ Some piece → slice_get others count ≡ Some other → piece < length old
    → ((rank other piece : ℕ) → slice_get sections rank ≡ Some piece → slice_get sections other ≡ Some piece → rank ≡ other) → new ≡ set now piece other → ArePut sections others (count + 1) old new
put_more sections others count old now new piece other before is other_is within distinct new_is = subst (ArePut sections others (count + 1) old) (sym new_is) (record {
  same_length = length-set now piece other ∙ before.same_length;
  put = λ rank p lt there. elim (cases_lt rank count) [
    | inl low ↦
        let apart : p ≡ piece → ⊥ = λ same. let e = distinct rank count piece (there ∙ ap Some same) is in omega (arith, e, low) in
        before.put rank p low there ∙ ap Some (sym (get_or-set_other now piece p other p apart))
    | inr high ↦
        let here : rank ≡ count = omega (arith, lt, high) in
        let same : p ≡ piece = one_section sections count p piece (ap (slice_get sections) (sym here) ∙ there) is in
        ap (slice_get others) here ∙ other_is
        ∙ ap Some (sym (ap (λ (q : ℕ). get_or (set now piece other) q q) same ∙ get_or-set_same now piece other piece (omega (arith, within, before.same_length))))
  ];
  stays = λ p apart.
      let differs : p ≡ piece → ⊥ = λ same. apart count (omega arith) (is ∙ ap Some (sym same)) in
      get_or-set_other now piece p other p differs ∙ before.stays p (λ rank low there. apart rank (omega (arith, low)) there);
})

-- ---- at first each piece stands at its own place

pub place_more : (k : ℕ) (before after : List ℕ) → before ≡ range_with_len 0 k → after ≡ before ++ k ∷ [] → after ≡ range_with_len 0 (k + 1)
place_more k before after is more = more ∙ ap (λ (xs : List ℕ). xs ++ k ∷ []) is ∙ sym (range_more 0 k k (omega arith))

-- ---- one candidate more

-- a number is in a list, or nowhere there
find_rank : (xs : List ℕ) (x : ℕ) → ((rank : ℕ) × (slice_get xs rank ≡ Some x)) ⊎ ((rank : ℕ) → slice_get xs rank ≡ Some x → ⊥)
find_rank [] x = inr (λ rank there. no_item rank x there)
  where
    no_item : (rank x : ℕ) → slice_get [] rank ≡ Some x → ⊥
    no_item rank x there = cc
find_rank (y ∷ xs) x = elim (cases_eq y x) [
  | inl same ↦ inl (0, ap Some same)
  | inr apart ↦ elim (find_rank xs x) [
    | inl found ↦ inl (suc found.0, found.1)
    | inr none ↦ inr (nowhere y x xs apart none)
  ]
]
  where
    nowhere : (y x : ℕ) (xs : List ℕ) → (y ≡ x → ⊥) → ((rank : ℕ) → slice_get xs rank ≡ Some x → ⊥) → (rank : ℕ) → slice_get (y ∷ xs) rank ≡ Some x → ⊥
    nowhere y x xs apart none zero there = apart (same_Some y x there)
    nowhere y x xs apart none (suc rank) there = none rank there

module _ (candidates : List FoldCandidate) (answers : List ℕ) where
  pub below_none : (count : ℕ) (places : List ℕ) → places ≡ range_with_len 0 count → ArePlacesBelow candidates answers 0 places
  below_none count places is = λ piece. inr (record {
    apart = λ number rank lt has. absurd (omega (arith, lt));
    own = ap (λ (xs : List ℕ). get_or xs piece piece) is ∙ own piece;
  })
    where
      own : (piece : ℕ) → get_or (range_with_len 0 count) piece piece ≡ piece
      own piece = elim (cases_lt piece count) [
        | inl low ↦ let read = get_or-range_with_len 0 count piece piece low in omega (arith, read)
        | inr high ↦ get_or_past (range_with_len 0 count) piece piece (omega (arith, high, length-range_with_len 0 count))
      ]

  pub below_more : (number : ℕ) (sections others old new : List ℕ) → sections_at candidates number ≡ sections → sections_at candidates (get_or answers number 0) ≡ others → ArePut sections others (length sections) old new → ArePlacesBelow candidates answers number old → ArePlacesBelow candidates answers (number + 1) new
  below_more number sections others old new are are' put before piece = elim (find_rank sections piece) [
    | inl found ↦
        let rank = found.0 in
        inl (record {
          with_another = record {
            number = number;
            rank = rank;
            section = ap (λ (xs : List ℕ). slice_get xs rank) are ∙ found.1;
            other = ap (λ (xs : List ℕ). slice_get xs rank) are' ∙ put.put rank piece (slice_get_within sections rank piece found.1) found.1;
          };
          below = omega arith;
        })
    | inr none ↦
        let same : place_of new piece ≡ place_of old piece = put.stays piece (λ rank low there. none rank there) in
        elim (before piece) [
          | inl stands ↦
              let lt = stands.below in
              inl (record {
                with_another = record {
                  number = stands.with_another.number;
                  rank = stands.with_another.rank;
                  section = stands.with_another.section;
                  other = stands.with_another.other ∙ ap Some (sym same);
                };
                below = omega (arith, lt);
              })
          | inr stays ↦ inr (record {
            apart = λ other rank lt has. elim (cases_lt other number) [
              | inl low ↦ stays.apart other rank low has
              | inr high ↦
                  let here : other ≡ number = omega (arith, lt, high) in
                  none rank (ap (λ (xs : List ℕ). slice_get xs rank) (sym are) ∙ ap (λ (n : ℕ). slice_get (sections_at candidates n) rank) (sym here) ∙ has)
            ];
            own = same ∙ stays.own;
          })
        ]
  ]

  pub places_all : (count : ℕ) (places : List ℕ) → count ≡ length candidates → ArePlacesBelow candidates answers count places → ArePlaces candidates answers places
  places_all count places all below piece = elim (below piece) [
    | inl stands ↦ inl stands.with_another
    | inr stays ↦ inr (λ number rank has. let lt = candidate_there candidates number rank piece has in stays.apart number rank (omega (arith, lt, all)) has, stays.own)
  ]

  -- a candidate has as many sections as the one that it folds with
  pub folded_sections : (input : Input) → input.candidates ≡ candidates → length answers ≡ length candidates → AreLeast answers → KeepsAlike input (AnsweredAlike answers) → HaveSections candidates answers
  folded_sections input is count least alike = record {
    same_length = count;
    within = λ number lt. let low = least.low number (omega (arith, lt, count)) in omega (arith, lt, low);
    as_many = λ number lt.
        let in_answers : number < length answers = omega (arith, lt, count) in
        let low = least.low number in_answers in
        let related : AnsweredAlike answers number (get_or answers number 0) = record { within = in_answers; other_within = omega (arith, in_answers, low); equal = sym (least.own number in_answers) } in
        subst (λ (list : List FoldCandidate). length (sections_at list (get_or answers number 0)) ≡ length (sections_at list number)) is
        (sym (alike number (get_or answers number 0) related).as_many);
  }
