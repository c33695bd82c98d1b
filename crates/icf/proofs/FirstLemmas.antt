-- The numbers of first equal keys, one key more.
use Rattle.std.proofs.Common.{◌≡◌, ℕ, zero, suc, ◌+◌, ◌<◌, ◌⊎◌, inl, inr, Bool, true, false, cond, List, [], ◌∷◌, ◌++◌, length, get_or, drop, Option, Some, None, refl, sym, ap, ◌∙◌, subst, length-append, arith}
use Rattle.std.specs.Prelude.{MatchOption}
use Rattle.std.specs.Cmp.{IsEquivalence}
use Rattle.std.proofs.lemmas.Bool.{cases_lt, false≢true}
use Rattle.std.proofs.Math.ListN.{get_or-append}
use Rattle.std.proofs.Math.Seq.{get_or-append_seam}
use Rattle.icf.specs.FirstEqual.{AreFirstTo, FindsFirst, Enters}
use Rattle.icf.specs.Folding.{AreLeast}

-- ---- one number more

module _ (numbers : List ℕ) (count answer : ℕ) (same_length : length numbers ≡ count) where
  pub before : (i : ℕ) → i < count → get_or (numbers ++ answer ∷ []) i 0 ≡ get_or numbers i 0
  before i lt = get_or-append numbers (answer ∷ []) 0 i (omega arith)

  pub here : (i : ℕ) → i ≡ count → get_or (numbers ++ answer ∷ []) i 0 ≡ answer
  here i e =
      let place : i ≡ length numbers = omega arith in
      ap (λ (n : ℕ). get_or (numbers ++ answer ∷ []) n 0) place ∙ get_or-append_seam numbers answer [] 0

  pub one_more : length (numbers ++ answer ∷ []) ≡ count + 1
  one_more = length-append numbers (answer ∷ []) ∙ ap (λ (n : ℕ). n + 1) same_length

  pub first_more : AreLeast numbers → ((answer ≡ count) ⊎ ((answer < count) × (get_or numbers answer 0 ≡ answer))) → AreLeast (numbers ++ answer ∷ [])
  first_more old new = record {
    low = λ i lt. elim (cases_lt i count) [
      | inl below ↦ let e = before i below in let l = old.low i (omega arith) in omega arith
      | inr above ↦ let place : i ≡ count = omega (arith, one_more) in let e = here i place in elim new [
        | inl own ↦ omega arith
        | inr earlier ↦ let low = earlier.0 in omega arith
      ]
    ];
    own = λ i lt. elim (cases_lt i count) [
      | inl below ↦
          let e = before i below in
          let l = old.low i (omega arith) in
          ap (λ (n : ℕ). get_or (numbers ++ answer ∷ []) n 0) e ∙ before (get_or numbers i 0) (omega arith) ∙ old.own i (omega arith) ∙ sym e
      | inr above ↦
          let place : i ≡ count = omega (arith, one_more) in
          let e = here i place in
          ap (λ (n : ℕ). get_or (numbers ++ answer ∷ []) n 0) e ∙ answered new ∙ sym e
    ];
  }
    where
      answered : ((answer ≡ count) ⊎ ((answer < count) × (get_or numbers answer 0 ≡ answer))) → get_or (numbers ++ answer ∷ []) answer 0 ≡ answer
      answered (inl own) = here answer own
      answered (inr earlier) = before answer earlier.0 ∙ earlier.1

-- ---- one key more

module _ {K : Type 0} {eq : K → K → Bool} (laws : IsEquivalence eq) (keys : List K) (count : ℕ) (numbers : List ℕ) (key : K) (is_key : (d : K) → get_or keys count d ≡ key) (old : AreFirstTo eq keys count numbers) where
  key_at : (i : ℕ) (d : K) → i ≡ count → get_or keys i d ≡ key
  key_at i d e = ap (λ (n : ℕ). get_or keys n d) e ∙ is_key d

  more : (answer : ℕ) → ((answer ≡ count) ⊎ ((answer < count) × (get_or numbers answer 0 ≡ answer)))
      → ((i : ℕ) (d : K) → i < count → get_or numbers i 0 ≡ answer → eq (get_or keys i d) key ≡ true)
      → ((i : ℕ) (d : K) → i < count → eq (get_or keys i d) key ≡ true → get_or numbers i 0 ≡ answer)
      → AreFirstTo eq keys (count + 1) (numbers ++ answer ∷ [])
  more answer new equal every = record {
    same_length = one_more numbers count answer old.same_length;
    first = first_more numbers count answer old.same_length old.first new;
    equal = λ i j d lt lt' e. elim (cases_lt i count) [
      | inl low ↦ elim (cases_lt j count) [
        | inl low' ↦ old.equal i j d low low' (sym (was i low) ∙ e ∙ was j low')
        | inr high' ↦ let place' : j ≡ count = omega arith in
            subst (λ (k : K). eq (get_or keys i d) k ≡ true) (sym (key_at j d place')) (equal i d low (sym (was i low) ∙ e ∙ is j place'))
      ]
      | inr high ↦ let place : i ≡ count = omega arith in elim (cases_lt j count) [
        | inl low' ↦
            subst (λ (k : K). eq k (get_or keys j d) ≡ true) (sym (key_at i d place)) (laws.symm key (get_or keys j d) ∙ equal j d low' (sym (was j low') ∙ sym e ∙ is i place))
        | inr high' ↦ let place' : j ≡ count = omega arith in
            ap (λ (k : K). eq (get_or keys i d) k) (key_at j d place' ∙ sym (key_at i d place)) ∙ laws.refl (get_or keys i d)
      ]
    ];
    every = λ i j d lt lt' e. elim (cases_lt i count) [
      | inl low ↦ elim (cases_lt j count) [
        | inl low' ↦ was i low ∙ old.every i j d low low' e ∙ sym (was j low')
        | inr high' ↦ let place' : j ≡ count = omega arith in
            was i low ∙ every i d low (subst (λ (k : K). eq (get_or keys i d) k ≡ true) (key_at j d place') e) ∙ sym (is j place')
      ]
      | inr high ↦ let place : i ≡ count = omega arith in elim (cases_lt j count) [
        | inl low' ↦
            is i place ∙ sym (every j d low' (laws.symm (get_or keys j d) key ∙ subst (λ (k : K). eq k (get_or keys j d) ≡ true) (key_at i d place) e)) ∙ sym (was j low')
        | inr high' ↦ let place' : j ≡ count = omega arith in is i place ∙ sym (is j place')
      ]
    ];
  }
    where
      was : (i : ℕ) → i < count → get_or (numbers ++ answer ∷ []) i 0 ≡ get_or numbers i 0
      was = before numbers count answer old.same_length

      is : (i : ℕ) → i ≡ count → get_or (numbers ++ answer ∷ []) i 0 ≡ answer
      is = here numbers count answer old.same_length

  -- a key that is there
  pub again : (first : ℕ) → first < count → get_or numbers first 0 ≡ first → ((d : K) → eq (get_or keys first d) key ≡ true) → AreFirstTo eq keys (count + 1) (numbers ++ first ∷ [])
  again first lt own is =
      more first (inr (lt, own))
      (λ i d low e. laws.congr (get_or keys i d) (get_or keys first d) key (old.equal i first d low lt (e ∙ sym own)) ∙ is d)
      (λ i d low e. old.every i first d low lt (laws.symm (get_or keys i d) (get_or keys first d) ∙ laws.congr (get_or keys first d) key (get_or keys i d) (is d) ∙ laws.symm key (get_or keys i d) ∙ e) ∙ own)

  -- a new key
  pub fresh : ((i : ℕ) (d : K) → i < count → eq (get_or keys i d) key ≡ false) → AreFirstTo eq keys (count + 1) (numbers ++ count ∷ [])
  fresh none =
      more count (inl refl)
      (λ i d low e. let l = old.first.low i (omega (arith, old.same_length)) in absurd (omega arith))
      (λ i d low e. absurd (false≢true (sym (none i d low) ∙ e)))

  -- ---- what look-ups find

  abbrev pub FindsAll : ℕ → List ℕ → (K → Option ℕ) → Type 0
  FindsAll n answers look = (other : K) → FindsFirst eq keys n answers other (look other)

  none_more : (other : K) → ((i : ℕ) (d : K) → i < count → eq (get_or keys i d) other ≡ false) → eq key other ≡ false → (i : ℕ) (d : K) → i < count + 1 → eq (get_or keys i d) other ≡ false
  none_more other none not i d lt = elim (cases_lt i count) [
    | inl low ↦ none i d low
    | inr high ↦ let place : i ≡ count = omega arith in ap (λ (k : K). eq k other) (key_at i d place) ∙ not
  ]

  found_more : (answer : ℕ) (other : K) (first : ℕ) → (first < count) × ((get_or numbers first 0 ≡ first) × ((d : K) → eq (get_or keys first d) other ≡ true))
      → (first < count + 1) × ((get_or (numbers ++ answer ∷ []) first 0 ≡ first) × ((d : K) → eq (get_or keys first d) other ≡ true))
  found_more answer other first found = (let lt = found.0 in omega arith, (before numbers count answer old.same_length first found.0 ∙ found.1.0, found.1.1))

  pub finds_again : (look : K → Option ℕ) (first : ℕ) → FindsAll count numbers look → first < count → ((d : K) → eq (get_or keys first d) key ≡ true) → FindsAll (count + 1) (numbers ++ first ∷ []) look
  finds_again look first finds lt is other = go (look other) (finds other)
    where
      go : (found : Option ℕ) → FindsFirst eq keys count numbers other found → FindsFirst eq keys (count + 1) (numbers ++ first ∷ []) other found
      go None none = none_more other none (sym (laws.congr (get_or keys first key) key other (is key)) ∙ none first key lt)
      go (Some n) found = found_more first other n found

  pub finds_fresh : (look : K → Option ℕ) → FindsAll count numbers look → FindsAll (count + 1) (numbers ++ count ∷ []) (λ other. cond (eq key other) (Some count) (look other))
  finds_fresh look finds other = by (eq key other) refl (look other) (finds other)
    where
      by : (b : Bool) → eq key other ≡ b → (found : Option ℕ) → FindsFirst eq keys count numbers other found → FindsFirst eq keys (count + 1) (numbers ++ count ∷ []) other (cond b (Some count) found)
      by true is found was = (omega arith, (here numbers count count old.same_length count refl, λ d. ap (λ (k : K). eq k other) (is_key d) ∙ is))
      by false not None none = none_more other none not
      by false not (Some n) found = found_more count other n found

-- ---- keys that are taken one by one

pub taken : {K : Type 0} (keys : List K) (count : ℕ) (key : K) (rest : List K) → key ∷ rest ≡ drop count keys → (count < length keys) × (((d : K) → get_or keys count d ≡ key) × (rest ≡ drop (count + 1) keys))
taken [] zero key rest e = absurd cc
taken [] (suc count) key rest e = absurd cc
taken (first ∷ keys) zero key rest e =
    (omega arith, (λ d. let same : first ≡ key = cc in same, let same : rest ≡ keys = cc in let one : 1 ≡ 0 + 1 = omega arith in same ∙ ap (λ (n : ℕ). drop n (first ∷ keys)) one))
taken (first ∷ keys) (suc count) key rest e =
    let more = taken keys count key rest e in
    let lt = more.0 in
    let place : suc (count + 1) ≡ suc count + 1 = omega arith in
    (omega arith, (more.1.0, more.1.1 ∙ ap (λ (n : ℕ). drop n (first ∷ keys)) place))

pub rest_none : {K : Type 0} (keys : List K) (numbers : List ℕ) (rest : List K) → numbers ≡ [] → rest ≡ keys → rest ≡ drop (length numbers) keys
rest_none keys numbers rest none is = is ∙ ap (λ (ns : List ℕ). drop (length ns) keys) (sym none)

pub rest_more : {K : Type 0} (keys : List K) (numbers : List ℕ) (answer : ℕ) (longer : List ℕ) (rest : List K) → longer ≡ numbers ++ answer ∷ [] → rest ≡ drop (length numbers + 1) keys → rest ≡ drop (length longer) keys
rest_more keys numbers answer longer rest is so_far = so_far ∙ ap (λ (n : ℕ). drop n keys) (sym (ap length is ∙ length-append numbers (answer ∷ [])))

-- what one call of `enter` does
module _ {K : Type 0} {eq : K → K → Bool} (laws : IsEquivalence eq) (keys : List K) (numbers : List ℕ) (key : K) (look look' : K → Option ℕ) where
  abbrev pub Entered : ℕ → Type 0
  Entered answer =
      (AreFirstTo eq keys (length numbers + 1) (numbers ++ answer ∷ []))
      × ((other : K) → FindsFirst eq keys (length numbers + 1) (numbers ++ answer ∷ []) other (look' other))

  pub entered : (answer : ℕ) → ((d : K) → get_or keys (length numbers) d ≡ key) → AreFirstTo eq keys (length numbers) numbers
      → ((other : K) → FindsFirst eq keys (length numbers) numbers other (look other)) → Enters eq look look' key (length numbers) answer → Entered answer
  entered answer is_key old finds enters = by (look key) (finds key) enters
    where
      by : (found : Option ℕ) → FindsFirst eq keys (length numbers) numbers key found
          → MatchOption found ((answer ≡ length numbers) × ((other : K) → look' other ≡ cond (eq key other) (Some (length numbers)) (look other))) (λ first. (answer ≡ first) × ((other : K) → look' other ≡ look other))
          → Entered answer
      by None none new =
          subst Entered (sym new.0) (
            fresh laws keys (length numbers) numbers key is_key old none,
            λ other. subst (FindsFirst eq keys (length numbers + 1) (numbers ++ length numbers ∷ []) other) (sym (new.1 other)) (finds_fresh laws keys (length numbers) numbers key is_key old look finds other),
          )
      by (Some first) found new =
          subst Entered (sym new.0) (
            again laws keys (length numbers) numbers key is_key old first found.0 found.1.0 found.1.1,
            λ other. subst (FindsFirst eq keys (length numbers + 1) (numbers ++ first ∷ []) other) (sym (new.1 other)) (finds_again laws keys (length numbers) numbers key is_key old look first finds found.0 found.1.1 other),
          )

  -- the same of the list that has one number more
  pub entered_all : (answer : ℕ) (longer : List ℕ) → longer ≡ numbers ++ answer ∷ [] → Entered answer
      → (AreFirstTo eq keys (length longer) longer) × ((other : K) → FindsFirst eq keys (length longer) longer other (look' other))
  entered_all answer longer is done =
      let size = length-append numbers (answer ∷ []) in
      let one = subst (λ (n : ℕ). AreFirstTo eq keys n (numbers ++ answer ∷ [])) (sym size) done.0 in
      let found = λ (other : K). subst (λ (n : ℕ). FindsFirst eq keys n (numbers ++ answer ∷ []) other (look' other)) (sym size) (done.1 other) in (
        subst (λ (ns : List ℕ). AreFirstTo eq keys (length ns) ns) (sym is) one,
        λ other. subst (λ (ns : List ℕ). FindsFirst eq keys (length ns) ns other (look' other)) (sym is) (found other),
      )

-- ---- before the first key

pub first_none : {K : Type 0} (eq : K → K → Bool) (keys : List K) (numbers : List ℕ) → numbers ≡ [] → AreFirstTo eq keys (length numbers) numbers
first_none eq keys numbers none = subst (λ (ns : List ℕ). AreFirstTo eq keys (length ns) ns) (sym none) (record {
  same_length = refl;
  first = record { low = λ i lt. absurd (omega arith); own = λ i lt. absurd (omega arith) };
  equal = λ i j d lt lt' e. absurd (omega arith);
  every = λ i j d lt lt' e. absurd (omega arith);
})

pub finds_none : {K : Type 0} (eq : K → K → Bool) (keys : List K) (numbers : List ℕ) (key : K) (found : Option ℕ) → numbers ≡ [] → found ≡ None → FindsFirst eq keys (length numbers) numbers key found
finds_none eq keys numbers key found none nothing =
    subst (FindsFirst eq keys (length numbers) numbers key) (sym nothing) (λ i d lt. absurd (omega (arith, lt, ap length none)))
