-- The numbers of the pieces that are candidates, one piece more.
use Rattle.std.proofs.Common.{◌≡◌, ℕ, zero, suc, ◌+◌, ◌<◌, ◌≤◌, ◌⊎◌, inl, inr, Bool, true, false, cond, List, [], ◌∷◌, ◌++◌, length, get_or, map, filter, Option, Some, None, slice_get, refl, sym, ap, ◌∙◌, subst, arith}
use Rattle.std.specs.List.{All, range_with_len}
use Rattle.std.proofs.lemmas.Bool.{cases_lt}
use Rattle.std.proofs.lemmas.List.{append-nil, length-append, length-map, get_or_past, get_or_append_left}
use Rattle.std.proofs.lemmas.Option.{slice_get_within, slice_get-get_or, get_or_from_slice_get, same_Some}
use Rattle.link_base.proofs.RangeLemmas.{filter_more}
use Rattle.link_base.proofs.ListLemmas.{at_end}
use Rattle.link_pieces.specs.LinkParts.{LinkParts}
use Rattle.link_folding.specs.declared.candidates.Candidates.{Candidates}
use Rattle.link_folding.specs.Candidates.{is_candidate}
use Rattle.link_folding.specs.Steps.{AreNumbers, NotesPiece, has_none}

slice_get_left : {X : Type 0} (xs ys : List X) (k : ℕ) (x : X) → slice_get xs k ≡ Some x → slice_get (xs ++ ys) k ≡ Some x
slice_get_left xs ys k x there =
    let lt = slice_get_within xs k x there in
    slice_get-get_or (xs ++ ys) k x (omega (arith, lt, length-append xs ys))
    ∙ ap Some (get_or_append_left xs ys x k lt ∙ get_or_from_slice_get xs k x x there)

slice_get_next : {X : Type 0} (xs : List X) (x : X) → slice_get (xs ++ x ∷ []) (length xs) ≡ Some x
slice_get_next [] x = refl
slice_get_next (y ∷ xs) x = slice_get_next xs x

-- an item of a longer list is the new one, or was there
slice_get_cases : {X : Type 0} (xs : List X) (y x : X) (k : ℕ) → slice_get (xs ++ y ∷ []) k ≡ Some x → (slice_get xs k ≡ Some x) ⊎ ((k ≡ length xs) × (x ≡ y))
slice_get_cases [] y x zero there = inr (refl, same_Some x y (sym there))
slice_get_cases [] y x (suc k) there = absurd cc
slice_get_cases (z ∷ xs) y x zero there = inl there
slice_get_cases (z ∷ xs) y x (suc k) there = elim (slice_get_cases xs y x k there) [
  | inl before ↦ inl before
  | inr here ↦ inr (omega (arith, here.0), here.1)
]

none_some : (o : Option ℕ) (k : ℕ) → o ≡ None → o ≡ Some k → ⊥
none_some o k none some = cc

-- what has a number is one of the pieces that were looked at
numbered_within : (numbers : List (Option ℕ)) (piece number : ℕ) → get_or numbers piece None ≡ Some number → piece < length numbers
numbered_within numbers piece number is = elim (cases_lt piece (length numbers)) [
  | inl lt ↦ lt
  | inr past ↦ absurd (none_some _ number (get_or_past numbers piece None past) is)
]

-- one piece more, which is a candidate or is none
pub numbers_more : (roots : List ℕ) (numbers : List (Option ℕ)) (k : ℕ) (b : Bool) → length numbers ≡ k → AreNumbers roots numbers → AreNumbers (roots ++ cond b (k ∷ []) []) (numbers ++ cond b (Some (length roots)) None ∷ [])
numbers_more roots numbers k true count are = record {
  right = λ piece number is. elim (cases_lt piece (length numbers)) [
    | inl lt ↦ slice_get_left roots (k ∷ []) number piece (are.right piece number (sym (get_or_append_left numbers (Some (length roots) ∷ []) None piece lt) ∙ is))
    | inr past ↦
        let within = numbered_within (numbers ++ Some (length roots) ∷ []) piece number is in
        let here : piece ≡ length numbers = omega (arith, within, past, length-append numbers (Some (length roots) ∷ [])) in
        let number_is : length roots ≡ number = same_Some (length roots) number (sym (at_end numbers (Some (length roots)) None) ∙ ap (λ (p : ℕ). get_or (numbers ++ Some (length roots) ∷ []) p None) (sym here) ∙ is) in
        subst (λ (n : ℕ). slice_get (roots ++ k ∷ []) n ≡ Some piece) number_is (slice_get_next roots k ∙ ap Some (sym count ∙ sym here))
  ];
  every = λ piece number there. elim (slice_get_cases roots k piece number there) [
    | inl before ↦
        let old = are.every piece number before in
        get_or_append_left numbers (Some (length roots) ∷ []) None piece (numbered_within numbers piece number old) ∙ old
    | inr here ↦
        ap (λ (p : ℕ). get_or (numbers ++ Some (length roots) ∷ []) p None) (here.1 ∙ sym count)
        ∙ at_end numbers (Some (length roots)) None ∙ ap Some (sym here.0)
  ];
}
numbers_more roots numbers k false count are = record {
  right = λ piece number is. elim (cases_lt piece (length numbers)) [
    | inl lt ↦ slice_get_left roots [] number piece (are.right piece number (sym (get_or_append_left numbers (None ∷ []) None piece lt) ∙ is))
    | inr past ↦
        let within = numbered_within (numbers ++ None ∷ []) piece number is in
        let here : piece ≡ length numbers = omega (arith, within, past, length-append numbers (None ∷ [])) in
        absurd (none_some _ number (ap (λ (p : ℕ). get_or (numbers ++ None ∷ []) p None) here ∙ at_end numbers None None) is)
  ];
  every = λ piece number there.
      let old = are.every piece number (ap (λ (xs : List ℕ). slice_get xs number) (sym (append-nil roots)) ∙ there) in
      get_or_append_left numbers (None ∷ []) None piece (numbered_within numbers piece number old) ∙ old;
}

-- ---- the candidates among the first pieces, without children

pub record AreOwn (link : LinkParts) (kept : List Bool) (count : ℕ) (found : Candidates) : Type 0 where
  pub pieces : map (λ candidate. candidate.piece) found.list.items ≡ filter (is_candidate link kept) (range_with_len 0 count)
  pub numbers : AreNumbers (filter (is_candidate link kept) (range_with_len 0 count)) found.numbers.items
  pub looked_at : length found.numbers.items ≡ count
  pub few : length found.list.items ≤ count
  pub none : All has_none found.list.items

one_fewer : (b : Bool) (k : ℕ) (found longer : ℕ) → longer ≡ found + length (cond b (k ∷ []) []) → found ≤ k → longer ≤ k + 1
one_fewer true k found longer e le = omega (arith, e, le)
one_fewer false k found longer e le = omega (arith, e, le)

-- one piece more
pub own_more : (link : LinkParts) (kept : List Bool) (k : ℕ) (b : Bool) (old new : Candidates) → b ≡ is_candidate link kept k → NotesPiece k b old new → AreOwn link kept k old → AreOwn link kept (k + 1) new
own_more link kept k b old new is noted own =
    let test = is_candidate link kept in
    let roots = filter test (range_with_len 0 k) in
    let pieces = λ (found : Candidates). map (λ candidate. candidate.piece) found.list.items in
    let next : filter test (range_with_len 0 (k + 1)) ≡ roots ++ cond b (k ∷ []) [] = filter_more test k ∙ ap (λ (c : Bool). roots ++ cond c (k ∷ []) []) (sym is) in
    let count : length old.list.items ≡ length roots = sym (length-map old.list.items (λ candidate. candidate.piece)) ∙ ap length own.pieces in
    let listed : pieces new ≡ roots ++ cond b (k ∷ []) [] = noted.pieces ∙ ap (λ (xs : List ℕ). xs ++ cond b (k ∷ []) []) own.pieces in
    let numbers : new.numbers.items ≡ old.numbers.items ++ cond b (Some (length roots)) None ∷ [] = noted.numbers ∙ ap (λ (n : ℕ). old.numbers.items ++ cond b (Some n) None ∷ []) count in
    record {
      pieces = listed ∙ sym next;
      numbers =
          subst (λ (xs : List (Option ℕ)). AreNumbers (filter test (range_with_len 0 (k + 1))) xs) (sym numbers)
          (subst (λ (xs : List ℕ). AreNumbers xs (old.numbers.items ++ cond b (Some (length roots)) None ∷ [])) (sym next)
          (numbers_more roots old.numbers.items k b own.looked_at own.numbers));
      looked_at = omega (arith, ap length numbers, length-append old.numbers.items (cond b (Some (length roots)) None ∷ []), own.looked_at);
      few = one_fewer b k (length old.list.items) (length new.list.items) (sym (length-map new.list.items (λ candidate. candidate.piece)) ∙ ap length noted.pieces ∙ length-append (pieces old) (cond b (k ∷ []) []) ∙ ap (λ (n : ℕ). n + length (cond b (k ∷ []) [])) (length-map old.list.items (λ candidate. candidate.piece))) own.few;
      none = noted.children own.none;
    }
