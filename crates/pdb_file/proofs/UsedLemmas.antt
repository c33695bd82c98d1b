-- The buckets that names use, one name more at a time, and that the stream of publics has a word for each.
use Rattle.std.proofs.Common.{◌≡◌, ℕ, zero, suc, ◌+◌, ◌*◌, ◌<◌, ◌≤◌, Bool, true, false, cond, eqb, ltb, lt-ltb, List, [], ◌∷◌, length, get_or, set, take, replicate, refl, sym, ap, ◌∙◌, subst, inl, inr, arith}
use Rattle.std.specs.List.{sum_by}
use Rattle.std.specs.List.Sorted.{IsPermutation}
use Rattle.std.proofs.lemmas.Bool.{cases_lt}
use Rattle.std.proofs.lemmas.Bool.Decides.{eqb_tells}
use Rattle.std.proofs.lemmas.List.{length-replicate, get_or-replicate, get_or_default, length-set, get_or-set_same, get_or-set_other}
use Rattle.std.proofs.lemmas.List.Sums.{sum_by-cons, sum_by_more}
use Rattle.std.proofs.lemmas.List.Sorted.{length_permutation, sum_by-IsPermutation}
use Rattle.sorted_lists.proofs.CallerLemmas.{order_permutes}
use Rattle.pdb_publics.specs.declared.rows.PublicRow.{PublicRow}
use Rattle.pdb_publics.specs.NameHash.{bucket}
use Rattle.pdb_publics.specs.PublicOrder.{row_cmp, hash_cmp, by_name, by_hash, by_place, record_size, hash_key, hash_keys}
use Rattle.pdb_publics.specs.PublicStreams.{count, counts, has_some, publics_stream}
use Rattle.pdb_publics.specs.Lookup.{passing}
use Rattle.pdb_publics.proofs.PartLemmas.{length_counts, counts_at}
use Rattle.pdb_publics.proofs.CountLemmas.{indicator, length_words, passing_next, passing_same}
use Rattle.pdb_publics.proofs.KeyLemmas.{length_by_hash, length_by_place}
use Rattle.pdb_publics.proofs.WrittenLemmas.{words_of, length_hash_part, length_publics as length_publics_of}
use Rattle.pdb_file.specs.UsedBuckets.{names_in, is_used, used_buckets}

-- ---- how many numbers pass

pub no_number_passes : (n : ℕ) (test : ℕ → Bool) → ((k : ℕ) → k < n → test k ≡ false) → passing n test ≡ 0
unfolding passing
no_number_passes zero test fails = refl
no_number_passes (suc n) test fails =
    let rest = no_number_passes n test (λ k lt. fails k (omega (arith, lt))) in
    let last = ap indicator (fails n (omega arith)) in
    omega (arith, rest, last)

-- where one number more passes
one_more : (n b : ℕ) (p q : ℕ → Bool) → b < n → p b ≡ false → q b ≡ true → ((k : ℕ) → k < n → (k ≡ b → ⊥) → p k ≡ q k) → passing n q ≡ passing n p + 1
one_more zero b p q lt none one same = absurd (omega (arith, lt))
one_more (suc n) b p q lt none one same =
    elim (cases_lt b n) [
      | inl below ↦
          let rest = one_more n b p q below none one (λ k small. same k (omega (arith, small))) in
          let last = ap indicator (same n (omega arith) (λ e. omega (arith, e, below))) in
          let old = passing_next n p in
          let new = passing_next n q in
          omega (arith, rest, last, old, new)
      | inr above ↦
          let here : b ≡ n = omega (arith, lt, above) in
          let rest = passing_same n p q (λ k small. same k (omega (arith, small)) (λ e. omega (arith, e, here, small))) in
          let before = ap indicator (subst (λ (k : ℕ). p k ≡ false) here none) in
          let after = ap indicator (subst (λ (k : ℕ). q k ≡ true) here one) in
          let old = passing_next n p in
          let new = passing_next n q in
          omega (arith, rest, before, after, old, new)
    ]

-- ---- the buckets of the first names

-- the flags and the number of the buckets that some names use
pub record AreUsed (rows : List PublicRow) (flags : List Bool) (number : ℕ) : Type 0 where
  pub all : length flags ≡ 4096
  pub each : (k : ℕ) → k < 4096 → get_or flags k false ≡ is_used rows k
  pub number_is : number ≡ used_buckets rows

pub none_used : (flags : List Bool) → flags ≡ replicate 4096 false → AreUsed [] flags 0
none_used flags is = record {
  all = ap (λ (fs : List Bool). length fs) is ∙ length-replicate {A = Bool} 4096 false;
  each = λ k lt. ap (λ (fs : List Bool). get_or fs k false) is ∙ get_or-replicate {A = Bool} 4096 k false false lt;
  number_is = sym (no_number_passes 4096 (is_used []) (λ k lt. refl));
}

names_more : (rows : List PublicRow) (i k : ℕ) (row : PublicRow) → i < length rows → row ≡ get_or rows i row → names_in (take (i + 1) rows) k ≡ names_in (take i rows) k + indicator (eqb (bucket row.name) k)
names_more rows i k row lt is =
    sum_by_more (λ (r : PublicRow). cond (eqb (bucket r.name) k) 1 0) rows i row lt
    ∙ ap (λ (r : PublicRow). names_in (take i rows) k + indicator (eqb (bucket r.name) k)) (sym is)

-- the bucket of the next name is used
used_there : (rows : List PublicRow) (i k : ℕ) (row : PublicRow) → i < length rows → row ≡ get_or rows i row → bucket row.name ≡ k → is_used (take (i + 1) rows) k ≡ true
used_there rows i k row lt is here =
    let more = names_more rows i k row lt is in
    elim (eqb_tells (bucket row.name) k) [
      | inl same ↦ let one = ap indicator same.0 in lt-ltb 0 (names_in (take (i + 1) rows) k) (omega (arith, more, one))
      | inr other ↦ absurd (other.1 here)
    ]

-- and each other one if it was
used_elsewhere : (rows : List PublicRow) (i k : ℕ) (row : PublicRow) → i < length rows → row ≡ get_or rows i row → (k ≡ bucket row.name → ⊥) → is_used (take i rows) k ≡ is_used (take (i + 1) rows) k
used_elsewhere rows i k row lt is away =
    let more = names_more rows i k row lt is in
    elim (eqb_tells (bucket row.name) k) [
      | inl same ↦ absurd (away (sym same.1))
      | inr other ↦
          let none = ap indicator other.0 in
          let e : names_in (take i rows) k ≡ names_in (take (i + 1) rows) k = omega (arith, more, none) in
          ap (λ (n : ℕ). ltb 0 n) e
    ]

-- what was read of a bucket is whether it is used
read_is_used : (rows : List PublicRow) (flags : List Bool) (number b : ℕ) (v : Bool) → b < 4096 → v ≡ get_or flags b v → AreUsed rows flags number → is_used rows b ≡ v
read_is_used rows flags number b v small read are =
    sym (are.each b small) ∙ get_or_default flags b false v (omega (arith, small, are.all)) ∙ sym read

-- a name whose bucket is used
pub used_again : (rows : List PublicRow) (i number b : ℕ) (row : PublicRow) (v : Bool) (flags new : List Bool) (more : ℕ) → i < length rows → row ≡ get_or rows i row → b ≡ bucket row.name → b < 4096 → v ≡ get_or flags b v → v ≡ true → new ≡ flags → more ≡ number → AreUsed (take i rows) flags number → AreUsed (take (i + 1) rows) new more
used_again rows i number b row v flags new more lt is at small read set same_flags same_number are = record {
  all = ap (λ (fs : List Bool). length fs) same_flags ∙ are.all;
  each = λ k below. ap (λ (fs : List Bool). get_or fs k false) same_flags ∙ are.each k below ∙ stays k below;
  number_is = same_number ∙ are.number_is ∙ passing_same 4096 (is_used (take i rows)) (is_used (take (i + 1) rows)) stays;
}
  where
    stays : (k : ℕ) → k < 4096 → is_used (take i rows) k ≡ is_used (take (i + 1) rows) k
    stays k below =
        elim (eqb_tells b k) [
          | inl here ↦
              ap (is_used (take i rows)) (sym here.1)
              ∙ read_is_used (take i rows) flags number b v small read are
              ∙ set
              ∙ sym (used_there rows i k row lt is (sym at ∙ here.1))
          | inr away ↦ used_elsewhere rows i k row lt is (λ e. away.1 (at ∙ sym e))
        ]

-- a name whose bucket is not
pub used_first : (rows : List PublicRow) (i number b : ℕ) (row : PublicRow) (v : Bool) (flags new : List Bool) (more : ℕ) → i < length rows → row ≡ get_or rows i row → b ≡ bucket row.name → b < 4096 → v ≡ get_or flags b v → v ≡ false → new ≡ set flags b true → more ≡ number + 1 → AreUsed (take i rows) flags number → AreUsed (take (i + 1) rows) new more
used_first rows i number b row v flags new more lt is at small read free changed counted are = record {
  all = ap (λ (fs : List Bool). length fs) changed ∙ length-set flags b true ∙ are.all;
  each = each;
  number_is =
      let one = one_more 4096 b (is_used (take i rows)) (is_used (take (i + 1) rows)) small
      (read_is_used (take i rows) flags number b v small read are ∙ free)
      (used_there rows i b row lt is (sym at))
      (λ k below away. used_elsewhere rows i k row lt is (λ e. away (e ∙ sym at))) in
      let old = are.number_is in
      omega (arith, one, old, counted);
}
  where
    each : (k : ℕ) → k < 4096 → get_or new k false ≡ is_used (take (i + 1) rows) k
    each k below =
        ap (λ (fs : List Bool). get_or fs k false) changed
        ∙ elim (eqb_tells b k) [
          | inl here ↦
              ap (λ (n : ℕ). get_or (set flags n true) k false) here.1
              ∙ get_or-set_same flags k true false (omega (arith, below, are.all))
              ∙ sym (used_there rows i k row lt is (sym at ∙ here.1))
          | inr away ↦
              get_or-set_other flags b k true false (λ e. away.1 (sym e))
              ∙ are.each k below
              ∙ used_elsewhere rows i k row lt is (λ e. away.1 (at ∙ sym e))
        ]

-- ---- the stream of publics

sum_moved : {X : Type 0} (xs ys : List X) → IsPermutation xs ys → (f : X → ℕ) → sum_by f ys ≡ sum_by f xs
sum_moved xs ys moved f = sum_by-IsPermutation f xs ys moved

-- the keys of a bucket, and the names
names_hashed : (offset k : ℕ) (rows : List PublicRow) → count (hash_keys offset rows) k ≡ names_in rows k
unfolding hash_keys
names_hashed offset k [] = refl
names_hashed offset k (row ∷ rows) =
    let next = offset + record_size (length row.name) in
    let keys = sum_by-cons (λ key. cond (eqb key.bucket k) 1 0) (hash_key offset row) (hash_keys next rows) in
    let names = sum_by-cons (λ r. cond (eqb (bucket r.name) k) 1 0) row rows in
    let rest = names_hashed next k rows in
    omega (arith, keys, names, rest)

used_are_filled : (rows : List PublicRow) (k : ℕ) → k < 4096 → has_some (counts (by_hash (by_name rows))) k ≡ is_used rows k
used_are_filled rows k lt =
    let named = by_name rows in
    ap (λ (n : ℕ). ltb 0 n)
    (counts_at (by_hash named) k lt
    ∙ sum_moved (hash_keys 0 named) (by_hash named) (order_permutes hash_cmp (hash_keys 0 named)) (λ key. cond (eqb key.bucket k) 1 0)
    ∙ names_hashed 0 k named
    ∙ sum_moved rows named (order_permutes row_cmp rows) (λ row. cond (eqb (bucket row.name) k) 1 0))

-- twelve bytes for each row, and four for each bucket that is used
pub length_publics : (rows : List PublicRow) → length (publics_stream rows) ≡ 560 + 12 * length rows + 4 * used_buckets rows
unfolding words_of
length_publics rows =
    let named = by_name rows in
    let keys = by_hash named in
    let all = length_publics_of keys (by_place named) in
    let part = length_hash_part keys in
    let words = length_words 0 (counts keys) in
    let full = ap (λ (n : ℕ). passing n (has_some (counts keys))) (length_counts keys) in
    let same = passing_same 4096 (has_some (counts keys)) (is_used rows) (used_are_filled rows) in
    let hashed = length_by_hash named in
    let placed = length_by_place named in
    let moved = length_permutation rows named (order_permutes row_cmp rows) in
    omega (arith, all, part, words, full, same, hashed, placed, moved)

at_most : (n : ℕ) (test : ℕ → Bool) → passing n test ≤ n
unfolding passing
at_most zero test = omega arith
at_most (suc n) test =
    let rest = at_most n test in
    let one = most (test n) in
    omega (arith, rest, one)
  where
    most : (b : Bool) → indicator b ≤ 1
    most true = omega arith
    most false = omega arith

pub used_at_most : (rows : List PublicRow) → used_buckets rows ≤ 4096
used_at_most rows = at_most 4096 (is_used rows)
