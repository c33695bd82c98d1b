-- The fields of a candidate, section by section.
use Rattle.std.proofs.Common.{◌≡◌, ℕ, ◌+◌, ◌-◌, ◌<◌, inl, inr, List, [], ◌++◌, length, get_or, map, Vec, Option, Some, slice_get, length-append, refl, sym, ap, ◌∙◌, subst, arith}
use Rattle.std.specs.declared.alloc.Global.{Global}
use Rattle.std.specs.List.{AllPairs, Contains}
use Rattle.std.proofs.lemmas.Bool.{cases_lt}
use Rattle.std.proofs.lemmas.List.{length-map, get_or-map}
use Rattle.std.proofs.lemmas.List.Elements.{Contains-get_or, Contains-append_left, Contains-append_right, Contains-append_cases}
use Rattle.std.proofs.Math.ListN.{get_or-append}
use Rattle.std.proofs.Math.Seq.{get_or-append_right}
use Rattle.link_base.proofs.ListLemmas.{contains_map}
use Rattle.relocate.specs.declared.fix.Fix.{Fix}
use Rattle.relocate.specs.Field.{no_fix}
use Rattle.icf.specs.declared.candidate.FoldCandidate.{FoldCandidate}
use Rattle.icf.specs.declared.field.Owner.{Owner}
use Rattle.icf.specs.declared.field.Field.{Field}
use Rattle.icf.specs.Sections.{fields_at}
use Rattle.icf.specs.Fields.{field_in, IsBefore, IsAmong, AreFieldsBelow, AreFieldLists}
use Rattle.icf.proofs.SectionLemmas.{one_section}

-- ---- items of a list that a function makes

pub map_contains : {X Y : Type 0} (f : X → Y) (xs : List X) (d : X) (y : Y) → Contains (map f xs) y → (x : X) × (Contains xs x × (y ≡ f x))
map_contains f xs d y there =
    let lt = there.1 in
    let within : there.0 < length xs = omega (arith, length-map xs f) in (
      get_or xs there.0 d,
      (Contains-get_or xs there.0 d within, sym there.2 ∙ get_or-map f xs there.0 d y within),
    )

-- ---- one section more

module _ (owners : List (Option Owner)) (fixes : List (List Fix)) (sections : List ℕ) where
  pub gathered_none : (fields : List Field) → fields ≡ [] → AreFieldsBelow owners fixes sections 0 fields
  gathered_none fields none = subst (AreFieldsBelow owners fixes sections 0) (sym none) (record {
    ascending = λ i j d lt within. absurd (omega arith);
    only = λ field there. let lt = there.1 in absurd (omega arith);
    every = λ rank piece fix lt is there. absurd (omega arith);
  })

  module _ (rank piece : ℕ) (is : slice_get sections rank ≡ Some piece) (sorted : List Fix) (same : sorted ≡ fields_at fixes piece)
      (rises : AllPairs (λ left right. left.at < right.at) sorted) (fields : List Field) (old : AreFieldsBelow owners fixes sections rank fields) where
    added : List Field
    added = map (field_in owners rank) sorted

    ordered : AllPairs IsBefore (fields ++ map (field_in owners rank) sorted)
    ordered i j d lt within = elim (cases_lt j (length fields)) [
      | inl low ↦
          let first = get_or-append fields (map (field_in owners rank) sorted) d i (omega arith) in
          let second = get_or-append fields (map (field_in owners rank) sorted) d j low in
          subst (λ (f : Field). IsBefore f (get_or (fields ++ map (field_in owners rank) sorted) j d)) (sym first)
          (subst (IsBefore (get_or fields i d)) (sym second) (old.ascending i j d lt low))
      | inr high ↦
          let size = length-append fields (map (field_in owners rank) sorted) in
          let count = length-map sorted (field_in owners rank) in
          let place : j - length fields < length sorted = omega arith in
          let second = get_or-append_right fields (map (field_in owners rank) sorted) j d high ∙ get_or-map (field_in owners rank) sorted (j - length fields) no_fix d place in
          elim (cases_lt i (length fields)) [
            | inl low ↦
                let first = get_or-append fields (map (field_in owners rank) sorted) d i low in
                let among = old.only (get_or fields i d) (Contains-get_or fields i d low) in
                subst (λ (f : Field). IsBefore f (get_or (fields ++ map (field_in owners rank) sorted) j d)) (sym first)
                (subst (IsBefore (get_or fields i d)) (sym second) (inl among.below))
            | inr high' ↦
                let place' : i - length fields < length sorted = omega arith in
                let first = get_or-append_right fields (map (field_in owners rank) sorted) i d high' ∙ get_or-map (field_in owners rank) sorted (i - length fields) no_fix d place' in
                subst (λ (f : Field). IsBefore f (get_or (fields ++ map (field_in owners rank) sorted) j d)) (sym first)
                (subst (IsBefore (field_in owners rank (get_or sorted (i - length fields) no_fix))) (sym second)
                (inr (refl, rises (i - length fields) (j - length fields) no_fix (omega arith) place)))
          ]
    ]

    among_more : (field : Field) → IsAmong owners fixes sections rank field → IsAmong owners fixes sections (rank + 1) field
    among_more field among = record {
      piece = among.piece;
      fix = among.fix;
      below = let lt = among.below in omega arith;
      section = among.section;
      there = among.there;
      is = among.is;
    }

    among_new : (field : Field) → Contains (map (field_in owners rank) sorted) field → IsAmong owners fixes sections (rank + 1) field
    among_new field there =
        let from = map_contains (field_in owners rank) sorted no_fix field there in
        let place : field.rank ≡ rank = ap (λ (f : Field). f.rank) from.1.1 in
        record {
          piece = piece;
          fix = from.0;
          below = omega arith;
          section = ap (slice_get sections) place ∙ is;
          there = subst (λ (own : List Fix). Contains own from.0) same from.1.0;
          is = from.1.1 ∙ ap (λ (r : ℕ). field_in owners r from.0) (sym place);
        }

    pub gathered_more : (longer : List Field) → longer ≡ fields ++ map (field_in owners rank) sorted → AreFieldsBelow owners fixes sections (rank + 1) longer
    gathered_more longer pushed = subst (AreFieldsBelow owners fixes sections (rank + 1)) (sym pushed) (record {
      ascending = ordered;
      only = λ field there. elim (Contains-append_cases fields (map (field_in owners rank) sorted) field there) [
        | inl before ↦ among_more field (old.only field before)
        | inr new ↦ among_new field new
      ];
      every = λ other other_piece fix lt has there. elim (cases_lt other rank) [
        | inl low ↦ Contains-append_left fields (map (field_in owners rank) sorted) (field_in owners other fix) (old.every other other_piece fix low has there)
        | inr high ↦
            let place : other ≡ rank = omega arith in
            let one = one_section sections rank other_piece piece (ap (slice_get sections) (sym place) ∙ has) is in
            let here = subst (λ (own : List Fix). Contains own fix) (sym same) (subst (λ (p : ℕ). Contains (fields_at fixes p) fix) one there) in
            subst (λ (r : ℕ). Contains (fields ++ map (field_in owners rank) sorted) (field_in owners r fix)) (sym place)
            (Contains-append_right fields (map (field_in owners rank) sorted) (field_in owners rank fix) (contains_map (field_in owners rank) sorted fix here))
      ];
    })

-- ---- the fields of all candidates, where the lists are known by other names

pub gathered_as : (owners given : List (Option Owner)) (fixes : List (List Fix)) (candidates : List FoldCandidate) (lists read : List (Vec Field Global)) → given ≡ owners → read ≡ lists
    → AreFieldLists given fixes candidates (length candidates) lists → AreFieldLists owners fixes candidates (length candidates) read
gathered_as owners given fixes candidates lists read same_owners same_lists are =
    subst (λ (l : List (Vec Field Global)). AreFieldLists owners fixes candidates (length candidates) l) (sym same_lists)
    (subst (λ (o : List (Option Owner)). AreFieldLists o fixes candidates (length candidates) lists) same_owners are)
