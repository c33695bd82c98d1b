-- Numbers that pass, the words of buckets and the bits of a byte, as they are read back.
use Rattle.std.proofs.Common.{◌≡◌, ℕ, zero, suc, ◌+◌, ◌-◌, ◌*◌, ◌/◌, ◌%◌, ◌^◌, ◌<◌, ◌≤◌, Bool, true, false, cond, eqb, ltb, lt-ltb, List, [], ◌∷◌, ◌++◌, length, get_or, take, sum, refl, sym, ap, ◌∙◌, subst, inl, inr, append_assoc, arith, length-append}
use Rattle.std.specs.List.{count_by}
use Rattle.std.proofs.Math.Nat.{zero-div}
use Rattle.std.proofs.lemmas.Bool.{true≢false, cases_lt}
use Rattle.std.proofs.lemmas.List.{drop_at}
use Rattle.std.proofs.lemmas.List.Sums.{sum_by-cons, sum_by_more}
use Rattle.link_base.specs.Bytes.{number_at, number_bytes}
use Rattle.link_base.proofs.CallerLemmas.{number_at-number_bytes, length-number_bytes, number_at-drop}
use Rattle.pdb_publics.specs.PublicStreams.{bit_of, bits, has_some, word_of, words}
use Rattle.pdb_publics.specs.Lookup.{is_set, passing}

abbrev pub indicator : Bool → ℕ
indicator b = cond b 1 0

-- ---- numbers in lists of bytes

pub number_behind : (width : ℕ) (xs ys : List ℕ) (n i at : ℕ) → length xs ≡ n → at ≡ n + i → number_at width (xs ++ ys) at ≡ number_at width ys i
number_behind width xs ys n i at long is =
    ap (number_at width (xs ++ ys)) is ∙ sym (number_at-drop width n i (xs ++ ys)) ∙ ap (λ (zs : List ℕ). number_at width zs i) (drop_at xs ys n long)

-- ---- how many numbers pass

pub passing_next : (n : ℕ) (test : ℕ → Bool) → passing (suc n) test ≡ passing n test + indicator (test n)
unfolding passing
passing_next n test = refl

pub passing_same : (n : ℕ) (p q : ℕ → Bool) → ((k : ℕ) → k < n → p k ≡ q k) → passing n p ≡ passing n q
unfolding passing
passing_same zero p q same = refl
passing_same (suc n) p q same =
    let rest = passing_same n p q (λ k lt. same k (omega (arith, lt))) in
    let one = ap indicator (same n (omega arith)) in
    omega (arith, rest, one)

pub passing_first : (n : ℕ) (test : ℕ → Bool) → passing (suc n) test ≡ indicator (test 0) + passing n (λ k. test (suc k))
unfolding passing
passing_first zero test = omega arith
passing_first (suc n) test = let rest = passing_first n test in omega (arith, rest)

pub passing_stays : (a m : ℕ) (test : ℕ → Bool) → ((k : ℕ) → a ≤ k → k < a + m → test k ≡ false) → passing (a + m) test ≡ passing a test
unfolding passing
passing_stays a zero test fails = let e : a + 0 ≡ a = omega arith in ap (λ (k : ℕ). passing k test) e
passing_stays a (suc m) test fails =
    let e : a + suc m ≡ suc (a + m) = omega arith in
    let all = ap (λ (k : ℕ). passing k test) e in
    let rest = passing_stays a m test (λ k low high. fails k low (omega (arith, high))) in
    let one = ap indicator (fails (a + m) (omega arith) (omega arith)) in
    omega (arith, all, rest, one)

pub passing_grows : (a m : ℕ) (test : ℕ → Bool) → passing a test ≤ passing (a + m) test
unfolding passing
passing_grows a zero test = let e : a + 0 ≡ a = omega arith in let same = ap (λ (k : ℕ). passing k test) e in omega (arith, same)
passing_grows a (suc m) test =
    let e : a + suc m ≡ suc (a + m) = omega arith in
    let all = ap (λ (k : ℕ). passing k test) e in
    let rest = passing_grows a m test in
    omega (arith, all, rest)

pub passing_below : (a n : ℕ) (test : ℕ → Bool) → a < n → test a ≡ true → passing a test < passing n test
passing_below a n test lt passes =
    let next = passing_next a test in
    let one = ap indicator passes in
    let grows = passing_grows (suc a) (n - suc a) test in
    let e : suc a + (n - suc a) ≡ n = omega (arith, lt) in
    let all = ap (λ (k : ℕ). passing k test) e in
    omega (arith, next, one, grows, all)

pub record Next (a n : ℕ) (test : ℕ → Bool) : Type 0 where
  pub number : ℕ
  pub low : a ≤ number
  pub high : number < n
  pub passes : test number ≡ true
  pub before : passing number test ≡ passing a test

-- a later number that passes, and none between
pub next_passing : (a m : ℕ) (test : ℕ → Bool) → passing a test < passing (a + m) test → Next a (a + m) test
unfolding passing
next_passing a zero test lt = let e : a + 0 ≡ a = omega arith in let same = ap (λ (k : ℕ). passing k test) e in absurd (omega (arith, same, lt))
next_passing a (suc m) test lt = go (next_passing a m test) (test (a + m)) refl
  where
    e : a + suc m ≡ suc (a + m)
    e = omega arith

    all : passing (a + suc m) test ≡ passing (a + m) test + indicator (test (a + m))
    all = ap (λ (k : ℕ). passing k test) e ∙ passing_next (a + m) test

    grows : passing a test ≤ passing (a + m) test
    grows = passing_grows a m test

    go : (passing a test < passing (a + m) test → Next a (a + m) test) → (b : Bool) → test (a + m) ≡ b → Next a (a + suc m) test
    go earlier b is =
        elim (cases_lt (passing a test) (passing (a + m) test)) [
          | inl below ↦ let found = earlier below in record { number = found.number; low = found.low; high = omega (arith, found.high); passes = found.passes; before = found.before }
          | inr above ↦ last b is above
        ]
      where
        last : (b : Bool) → test (a + m) ≡ b → passing (a + m) test ≤ passing a test → Next a (a + suc m) test
        last true is above = record { number = a + m; low = omega arith; high = omega arith; passes = is; before = omega (arith, above, grows) }
        last false is above = let none = ap indicator is in absurd (omega (arith, all, none, above, lt))

-- ---- sums of counts

pub none_there : (n : ℕ) → ltb 0 n ≡ false → n ≡ 0
none_there zero e = refl
none_there (suc n) e = absurd (true≢false (sym (lt-ltb 0 (suc n) (omega arith)) ∙ e))

-- where no bucket has keys the sum of the counts stays
pub sum_stays : (counts : List ℕ) (a m : ℕ) → a + m ≤ length counts → passing (a + m) (has_some counts) ≡ passing a (has_some counts) → sum (take (a + m) counts) ≡ sum (take a counts)
sum_stays counts a zero le same = let e : a + 0 ≡ a = omega arith in ap (λ (n : ℕ). sum (take n counts)) e
sum_stays counts a (suc m) le same =
    let e : a + suc m ≡ suc (a + m) = omega arith in
    let all = ap (λ (k : ℕ). passing k (has_some counts)) e ∙ passing_next (a + m) (has_some counts) in
    let grows = passing_grows a m (has_some counts) in
    let f : a + suc m ≡ a + m + 1 = omega arith in
    let place = ap (λ (n : ℕ). sum (take n counts)) f in
    let more = sum_by_more (λ (n : ℕ). n) counts (a + m) 0 (omega (arith, le)) in
    let rest = sum_stays counts a m (omega (arith, le)) (omega (arith, all, grows, same)) in
    let none = zero_there (has_some counts (a + m)) refl (omega (arith, all, grows, same)) in
    omega (arith, place, more, rest, none)
  where
    zero_there : (b : Bool) → has_some counts (a + m) ≡ b → indicator (has_some counts (a + m)) ≡ 0 → get_or counts (a + m) 0 ≡ 0
    zero_there false is none = none_there (get_or counts (a + m) 0) is
    zero_there true is none = let one = ap indicator is in absurd (omega (arith, none, one))

-- ---- words

length_word : (first n : ℕ) → length (word_of first n) ≡ 4 * indicator (ltb 0 n)
length_word first n = go (ltb 0 n)
  where
    go : (b : Bool) → length (cond b (number_bytes 4 (12 * first)) []) ≡ 4 * indicator b
    go true = length-number_bytes 4 (12 * first)
    go false = refl

pub length_words : (first : ℕ) (counts : List ℕ) → length (words first counts) ≡ 4 * passing (length counts) (has_some counts)
unfolding words passing
length_words first [] = refl
length_words first (n ∷ counts) =
    let both = length-append (word_of first n) (words (first + n) counts) in
    let one = length_word first n in
    let rest = length_words (first + n) counts in
    let all = passing_first (length counts) (has_some (n ∷ counts)) in
    omega (arith, both, one, rest, all)

-- the word of a bucket stands behind those of the buckets before it
pub word_there : (first c : ℕ) (counts rest : List ℕ) → c < length counts → has_some counts c ≡ true → 12 * (first + sum counts) < 4294967296 → number_at 4 (words first counts ++ rest) (4 * passing c (has_some counts)) ≡ 12 * (first + sum (take c counts))
unfolding words passing
word_there first c [] rest lt some small = absurd (omega (arith, lt))
word_there first zero (n ∷ counts) rest lt some small =
    let all = sum_by-cons (λ (k : ℕ). k) n counts in
    let zero_place : 4 * passing 0 (has_some (n ∷ counts)) ≡ 0 = none (has_some (n ∷ counts)) in
    let value : 12 * first ≡ 12 * (first + sum (take 0 (n ∷ counts))) = omega arith in
    ap (number_at 4 ((word_of first n ++ words (first + n) counts) ++ rest)) zero_place
    ∙ ap (λ (b : Bool). number_at 4 ((cond b (number_bytes 4 (12 * first)) [] ++ words (first + n) counts) ++ rest) 0) some
    ∙ ap (λ (xs : List ℕ). number_at 4 xs 0) (append_assoc (number_bytes 4 (12 * first)) (words (first + n) counts) rest)
    ∙ number_at-number_bytes 4 (12 * first) (words (first + n) counts ++ rest) (omega (arith, small, all))
    ∙ value
  where
    none : (test : ℕ → Bool) → 4 * passing 0 test ≡ 0
    none test = refl
word_there first (suc c) (n ∷ counts) rest lt some small =
    let all = sum_by-cons (λ (k : ℕ). k) n counts in
    let cut = sum_by-cons (λ (k : ℕ). k) n (take c counts) in
    let one = length_word first n in
    let shift = passing_first c (has_some (n ∷ counts)) in
    let there = word_there (first + n) c counts rest (omega (arith, lt)) some (omega (arith, small, all)) in
    let value : 12 * (first + n + sum (take c counts)) ≡ 12 * (first + sum (take (suc c) (n ∷ counts))) = omega (arith, cut) in
    ap (λ (xs : List ℕ). number_at 4 xs (4 * passing (suc c) (has_some (n ∷ counts)))) (append_assoc (word_of first n) (words (first + n) counts) rest)
    ∙ number_behind 4 (word_of first n) (words (first + n) counts ++ rest) (4 * indicator (ltb 0 n)) (4 * passing c (has_some counts)) (4 * passing (suc c) (has_some (n ∷ counts))) one (omega (arith, shift))
    ∙ there ∙ value

-- ---- the bits of a byte

pub bit_read : (test : ℕ → Bool) (i : ℕ) → i < 8 → is_set (bits 8 test) i ≡ test i
unfolding bits
bit_read test i lt = subst (λ (n : ℕ). eqb n 1 ≡ test i) (sym (read i lt)) (is_one (test i))
  where
    is_one : (b : Bool) → eqb (indicator b) 1 ≡ b
    is_one true = refl
    is_one false = refl

    one : (k : ℕ) (b : Bool) → (bit_of k b ≡ 2 ^ k * indicator b) × (indicator b ≤ 1)
    one k true = (omega arith, omega arith)
    one k false = (omega arith, omega arith)

    read : (i : ℕ) → i < 8 → bits 8 test / 2 ^ i % 2 ≡ indicator (test i)
    read zero lt = omega (arith, one 0 (test 0), one 1 (test 1), one 2 (test 2), one 3 (test 3), one 4 (test 4), one 5 (test 5), one 6 (test 6), one 7 (test 7))
    read (suc zero) lt = omega (arith, one 0 (test 0), one 1 (test 1), one 2 (test 2), one 3 (test 3), one 4 (test 4), one 5 (test 5), one 6 (test 6), one 7 (test 7))
    read (suc (suc zero)) lt = omega (arith, one 0 (test 0), one 1 (test 1), one 2 (test 2), one 3 (test 3), one 4 (test 4), one 5 (test 5), one 6 (test 6), one 7 (test 7))
    read (suc (suc (suc zero))) lt = omega (arith, one 0 (test 0), one 1 (test 1), one 2 (test 2), one 3 (test 3), one 4 (test 4), one 5 (test 5), one 6 (test 6), one 7 (test 7))
    read (suc (suc (suc (suc zero)))) lt = omega (arith, one 0 (test 0), one 1 (test 1), one 2 (test 2), one 3 (test 3), one 4 (test 4), one 5 (test 5), one 6 (test 6), one 7 (test 7))
    read (suc (suc (suc (suc (suc zero))))) lt = omega (arith, one 0 (test 0), one 1 (test 1), one 2 (test 2), one 3 (test 3), one 4 (test 4), one 5 (test 5), one 6 (test 6), one 7 (test 7))
    read (suc (suc (suc (suc (suc (suc zero)))))) lt = omega (arith, one 0 (test 0), one 1 (test 1), one 2 (test 2), one 3 (test 3), one 4 (test 4), one 5 (test 5), one 6 (test 6), one 7 (test 7))
    read (suc (suc (suc (suc (suc (suc (suc zero))))))) lt = omega (arith, one 0 (test 0), one 1 (test 1), one 2 (test 2), one 3 (test 3), one 4 (test 4), one 5 (test 5), one 6 (test 6), one 7 (test 7))
    read (suc (suc (suc (suc (suc (suc (suc (suc i)))))))) lt = absurd (omega (arith, lt))

pub no_bit : (i : ℕ) → is_set 0 i ≡ false
no_bit i = ap (λ (n : ℕ). eqb (n % 2) 1) (zero-div (2 ^ i))

-- ---- counting in a list

pub count_low : {X : Type 0} (p : X → Bool) (xs : List X) (k : ℕ) → ((i : ℕ) (d : X) → k ≤ i → i < length xs → p (get_or xs i d) ≡ false) → count_by p xs ≤ k
count_low p [] k fails = omega arith
count_low p (x ∷ xs) zero fails =
    let all = sum_by-cons (λ y. indicator (p y)) x xs in
    let one = ap indicator (fails 0 x (omega arith) (omega arith)) in
    let rest = count_low p xs zero (λ i d low lt. fails (suc i) d (omega arith) (omega (arith, lt))) in
    omega (arith, all, one, rest)
count_low p (x ∷ xs) (suc k) fails =
    let all = sum_by-cons (λ y. indicator (p y)) x xs in
    let rest = count_low p xs k (λ i d low lt. fails (suc i) d (omega (arith, low)) (omega (arith, lt))) in
    let one = most (p x) in
    omega (arith, all, one, rest)
  where
    most : (b : Bool) → indicator b ≤ 1
    most true = omega arith
    most false = omega arith

pub count_high : {X : Type 0} (p : X → Bool) (xs : List X) (k : ℕ) → k < length xs → ((i : ℕ) (d : X) → i ≤ k → p (get_or xs i d) ≡ true) → k < count_by p xs
count_high p [] k lt passes = absurd (omega (arith, lt))
count_high p (x ∷ xs) zero lt passes =
    let all = sum_by-cons (λ y. indicator (p y)) x xs in
    let one = ap indicator (passes 0 x (omega arith)) in
    omega (arith, all, one)
count_high p (x ∷ xs) (suc k) lt passes =
    let all = sum_by-cons (λ y. indicator (p y)) x xs in
    let one = ap indicator (passes 0 x (omega arith)) in
    let rest = count_high p xs k (omega (arith, lt)) (λ i d le. passes (suc i) d (omega (arith, le))) in
    omega (arith, all, one, rest)
