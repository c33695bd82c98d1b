-- Lists over a range of numbers: those that pass a test, one number more at a time, and what each item is.
use Rattle.std.proofs.Common.{◌≡◌, ℕ, zero, suc, ◌+◌, ◌<◌, ◌≤◌, Bool, true, false, cond, eqb, List, [], ◌∷◌, ◌++◌, map, filter, refl, sym, ap, ◌∙◌, subst, inl, inr, append_assoc, add-one, arith}
use Rattle.std.specs.List.{All, Contains, IsDistinct, range_with_len, flat_map}
use Rattle.std.proofs.lemmas.Bool.{false≢true, cases_lt, eqb-true}
use Rattle.std.proofs.lemmas.List.{append-nil, map-append}
use Rattle.std.proofs.lemmas.List.Concat.{flat_map-append}
use Rattle.std.proofs.lemmas.List.Elements.{All-nil, All-cons, All-append, All-map, All-weaker, Contains-append_left, Contains-append_right, filter-append, recursion_from_All}
use Rattle.std.proofs.lemmas.Map.Keys.{IsDistinct-cons}

-- ---- those that pass

-- each is in the range and passes
pub record Passes (p : ℕ → Bool) (a n k : ℕ) : Type 0 where
  pub low : a ≤ k
  pub high : k < a + n
  pub passes : p k ≡ true

wider : (p : ℕ → Bool) (a n : ℕ) (ks : List ℕ) → All (Passes p (a + 1) n) ks → All (Passes p a (suc n)) ks
wider p a n ks all = All-weaker (Passes p (a + 1) n) (Passes p a (suc n)) (λ k h. record { low = omega (arith, h.low); high = omega (arith, h.high); passes = h.passes }) ks all

pub range_passes : (p : ℕ → Bool) (a n : ℕ) → All (Passes p a n) (filter p (range_with_len a n))
range_passes p a zero = All-nil (Passes p a zero)
range_passes p a (suc n) = go (p a) refl (wider p a n (filter p (range_with_len (a + 1) n)) (range_passes p (a + 1) n))
  where
    go : (b : Bool) → p a ≡ b → All (Passes p a (suc n)) (filter p (range_with_len (a + 1) n)) → All (Passes p a (suc n)) (cond b (a ∷ filter p (range_with_len (a + 1) n)) (filter p (range_with_len (a + 1) n)))
    go true e rest = All-cons (Passes p a (suc n)) a (filter p (range_with_len (a + 1) n)) (record { low = omega arith; high = omega arith; passes = e }) rest
    go false e rest = rest

-- each number of the range that passes is there
pub range_has : (p : ℕ → Bool) (a n k : ℕ) → a ≤ k → k < a + n → p k ≡ true → Contains (filter p (range_with_len a n)) k
range_has p a zero k low high pass = absurd (omega arith)
range_has p a (suc n) k low high pass =
    elim (cases_lt a k) [
      | inl above ↦ later (p a) (range_has p (a + 1) n k (omega arith) (omega arith) pass)
      | inr level ↦ let same : a ≡ k = omega arith in here (p a) (ap p same ∙ pass) same
    ]
  where
    rest : List ℕ
    rest = filter p (range_with_len (a + 1) n)

    later : (b : Bool) → Contains (filter p (range_with_len (a + 1) n)) k → Contains (cond b (a ∷ filter p (range_with_len (a + 1) n)) (filter p (range_with_len (a + 1) n))) k
    later true h = (suc h.0, omega (arith, h.1), h.2)
    later false h = h

    here : (b : Bool) → b ≡ true → a ≡ k → Contains (cond b (a ∷ filter p (range_with_len (a + 1) n)) (filter p (range_with_len (a + 1) n))) k
    here true e same = (0, omega arith, same)
    here false e same = absurd (false≢true e)

apart_from_above : (a k : ℕ) → a < k → eqb a k ≡ false
apart_from_above a k lt = go (eqb a k) refl
  where
    go : (b : Bool) → eqb a k ≡ b → b ≡ false
    go false e = refl
    go true e = absurd (let same = eqb-true a k e in omega arith)

-- no two are equal
pub range_distinct : (p : ℕ → Bool) (a n : ℕ) → IsDistinct eqb (filter p (range_with_len a n))
unfolding IsDistinct
range_distinct p a zero = tt
range_distinct p a (suc n) = go (p a) (range_distinct p (a + 1) n)
  where
    go : (b : Bool) → IsDistinct eqb (filter p (range_with_len (a + 1) n)) → IsDistinct eqb (cond b (a ∷ filter p (range_with_len (a + 1) n)) (filter p (range_with_len (a + 1) n)))
    go true rest =
        IsDistinct-cons eqb a (filter p (range_with_len (a + 1) n))
        (recursion_from_All (λ k. eqb a k ≡ false) (filter p (range_with_len (a + 1) n)) (All-weaker (Passes p (a + 1) n) (λ k. eqb a k ≡ false) (λ k h. apart_from_above a k (omega (arith, h.low))) (filter p (range_with_len (a + 1) n)) (range_passes p (a + 1) n)))
        rest
    go false rest = rest

-- ---- one more number of a range

range_suc : (a n : ℕ) → range_with_len a (suc n) ≡ range_with_len a n ++ (a + n) ∷ []
range_suc a zero = let place : a ≡ a + 0 = omega arith in ap (λ (k : ℕ). k ∷ []) place
range_suc a (suc n) =
    let place : a + 1 + n ≡ a + suc n = omega arith in
    ap (λ (ks : List ℕ). a ∷ ks) (range_suc (a + 1) n ∙ ap (λ (k : ℕ). range_with_len (a + 1) n ++ k ∷ []) place)

pub range_more : (a n j : ℕ) → a + n ≡ j → range_with_len a (n + 1) ≡ range_with_len a n ++ j ∷ []
range_more a n j place =
    ap (range_with_len a) (add-one n) ∙ range_suc a n ∙ ap (λ (k : ℕ). range_with_len a n ++ k ∷ []) place

-- those that pass
pub filter_more : (test : ℕ → Bool) (n : ℕ) → filter test (range_with_len 0 (n + 1)) ≡ filter test (range_with_len 0 n) ++ cond (test n) (n ∷ []) []
filter_more test n = ap (filter test) (range_more 0 n n (omega arith)) ∙ filter-append test (range_with_len 0 n) (n ∷ [])

-- of those that pass
pub kept_more : {X : Type 0} (f : ℕ → X) (test : ℕ → Bool) (a n j : ℕ) → a + n ≡ j → map f (filter test (range_with_len a (n + 1))) ≡ map f (filter test (range_with_len a n)) ++ cond (test j) (f j ∷ []) []
kept_more {X} f test a n j place =
    ap (λ (ks : List ℕ). map f (filter test ks)) (range_more a n j place)
    ∙ ap (map f) (filter-append test (range_with_len a n) (j ∷ []))
    ∙ map-append f (filter test (range_with_len a n)) (filter test (j ∷ []))
    ∙ ap (λ (ys : List X). map f (filter test (range_with_len a n)) ++ ys) (single (test j))
  where
    single : (b : Bool) → map f (cond b (j ∷ []) []) ≡ cond b (f j ∷ []) []
    single true = refl
    single false = refl

-- of a list for each
pub joined_more : {X : Type 0} (f : ℕ → List X) (a n j : ℕ) → a + n ≡ j → flat_map f (range_with_len a (n + 1)) ≡ flat_map f (range_with_len a n) ++ f j
joined_more {X} f a n j place =
    ap (flat_map f) (range_more a n j place)
    ∙ flat_map-append f (range_with_len a n) (j ∷ [])
    ∙ ap (λ (ys : List X). flat_map f (range_with_len a n) ++ ys) (append-nil (f j))

-- the same behind a list that stood before
pub kept_grows : {X : Type 0} (f : ℕ → X) (test : ℕ → Bool) (a n j : ℕ) (before now after : List X) → a + n ≡ j → now ≡ before ++ map f (filter test (range_with_len a n)) → after ≡ now ++ cond (test j) (f j ∷ []) [] → after ≡ before ++ map f (filter test (range_with_len a (n + 1)))
kept_grows {X} f test a n j before now after place was grown =
    grown
    ∙ ap (λ (xs : List X). xs ++ cond (test j) (f j ∷ []) []) was
    ∙ append_assoc before (map f (filter test (range_with_len a n))) (cond (test j) (f j ∷ []) [])
    ∙ ap (λ (ys : List X). before ++ ys) (sym (kept_more f test a n j place))

pub joined_grows : {X : Type 0} (f : ℕ → List X) (a n j : ℕ) (now after last : List X) → a + n ≡ j → now ≡ flat_map f (range_with_len a n) → after ≡ now ++ last → last ≡ f j → after ≡ flat_map f (range_with_len a (n + 1))
joined_grows {X} f a n j now after last place was grown is =
    grown
    ∙ ap (λ (xs : List X). xs ++ last) was
    ∙ ap (λ (ys : List X). flat_map f (range_with_len a n) ++ ys) is
    ∙ sym (joined_more f a n j place)

-- ---- a list that may become longer by one

pub one_added : {X : Type 0} (xs ys : List X) (x y : X) (b : Bool) → b ≡ true → ys ≡ xs ++ x ∷ [] → x ≡ y → ys ≡ xs ++ cond b (y ∷ []) []
one_added {X} xs ys x y b adds is same = rw adds (is ∙ ap (λ (z : X). xs ++ z ∷ []) same)

-- ---- a list for each number

-- the same lists are joined to the same
pub same_joined : {X : Type 0} (f g : ℕ → List X) (a n : ℕ) → ((k : ℕ) → a ≤ k → k < a + n → f k ≡ g k) → flat_map f (range_with_len a n) ≡ flat_map g (range_with_len a n)
same_joined f g a zero same = refl
same_joined {X} f g a (suc n) same =
    ap (λ (xs : List X). xs ++ flat_map f (range_with_len (a + 1) n)) (same a (omega arith) (omega arith))
    ∙ ap (λ (ys : List X). g a ++ ys) (same_joined f g (a + 1) n (λ k low high. same k (omega arith) (omega arith)))

-- what stands in one of them stands in all, joined
pub joined_there : {X : Type 0} (f : ℕ → List X) (a n k : ℕ) (x : X) → a ≤ k → k < a + n → Contains (f k) x → Contains (flat_map f (range_with_len a n)) x
joined_there f a zero k x low high there = absurd (omega arith)
joined_there f a (suc n) k x low high there =
    elim (cases_lt a k) [
      | inl later ↦ Contains-append_right (f a) (flat_map f (range_with_len (a + 1) n)) x (joined_there f (a + 1) n k x (omega arith) (omega arith) there)
      | inr here ↦
          let same : k ≡ a = omega arith in
          Contains-append_left (f a) (flat_map f (range_with_len (a + 1) n)) x (subst (λ (j : ℕ). Contains (f j) x) same there)
    ]

-- ---- what each item is

pub all_kept : {X : Type 0} (P : X → Type 0) (f : ℕ → X) (test : ℕ → Bool) (a n : ℕ) → ((k : ℕ) → a ≤ k → k < a + n → test k ≡ true → P (f k)) → All P (map f (filter test (range_with_len a n)))
all_kept P f test a n each =
    All-map P f (filter test (range_with_len a n))
    (All-weaker (Passes test a n) (λ k. P (f k)) (λ k w. each k w.low w.high w.passes) (filter test (range_with_len a n)) (range_passes test a n))

pub all_joined : {X : Type 0} (P : X → Type 0) (f : ℕ → List X) (a n : ℕ) → ((k : ℕ) → a ≤ k → k < a + n → All P (f k)) → All P (flat_map f (range_with_len a n))
all_joined P f a zero each = All-nil P
all_joined P f a (suc n) each =
    All-append P (f a) (flat_map f (range_with_len (a + 1) n)) (each a (omega arith) (omega arith))
    (all_joined P f (a + 1) n (λ k low high. each k (omega arith) (omega arith)))
