-- Where the blocks of a written file stand.
use Rattle.std.proofs.Common.{append_assoc, ◌≡◌, ℕ, zero, suc, ◌+◌, ◌-◌, ◌*◌, ◌/◌, ◌%◌, ◌<◌, ◌≤◌, Bool, true, false, cond, eqb, eq-eqb, List, [], ◌∷◌, ◌++◌, length, get_or, replicate, refl, sym, ap, ◌∙◌, inl, inr, arith, length-append}
use Rattle.std.proofs.lemmas.Bool.{cases_lt, cases_Bool, eqb-true, false≢true}
use Rattle.std.proofs.lemmas.List.{get_or_append_left, get_or-append_right, length-replicate}
use Rattle.std.proofs.lemmas.List.FromFn.{length-map-range_with_len}
use Rattle.link_base.specs.Bytes.{number_at}
use Rattle.pdb_msf.specs.WrittenFile.{block_number, map_byte, map_block, padded, numbered_block, laid}
use Rattle.pdb_msf.proofs.WritingLemmas.{laid_first, laid_none}

-- no block has more bytes than fit
abbrev pub AreSmall : List (List ℕ) → Type 0
AreSmall blocks = (k : ℕ) → k < length blocks → length (get_or blocks k []) ≤ 4096

-- the blocks of a file before the m-th block of data and its free maps
abbrev pub base : ℕ → ℕ
base m = m + 2 * ((m + 4092) / 4094)

maps : ℕ → ℕ → List ℕ
maps total m = cond (eqb (m % 4094) 1) (map_block total (m / 4094) ++ map_block total (m / 4094)) []

pub length_map : (total index : ℕ) → length (map_block total index) ≡ 4096
unfolding map_block
length_map total index = length-map-range_with_len (λ (k : ℕ). map_byte total (8 * (4096 * index + k))) 0 4096

numbered_is : (total m : ℕ) (block : List ℕ) → numbered_block total (m, block) ≡ maps total m ++ padded block
unfolding numbered_block maps
numbered_is total m block = go (eqb (m % 4094) 1)
  where
    go : (b : Bool) → cond b ((map_block total (m / 4094) ++ map_block total (m / 4094)) ++ padded block) (padded block) ≡ cond b (map_block total (m / 4094) ++ map_block total (m / 4094)) [] ++ padded block
    go true = refl
    go false = refl

length_maps : (total m : ℕ) → length (maps total m) + 4096 * base m ≡ 4096 * block_number m
unfolding maps
length_maps total m =
    elim (cases_Bool (eqb (m % 4094) 1)) [
      | inl here ↦
          let one = eqb-true (m % 4094) 1 here in
          let both = length-append (map_block total (m / 4094)) (map_block total (m / 4094)) in
          let each = length_map total (m / 4094) in
          rw here (omega (arith, one, both, each))
      | inr other ↦ rw other (away (m % 4094) refl other)
    ]
  where
    away : (r : ℕ) → m % 4094 ≡ r → eqb (m % 4094) 1 ≡ false → 0 + 4096 * base m ≡ 4096 * block_number m
    away r is ne = elim (cases_lt (m % 4094) 1) [
      | inl low ↦ omega (arith, low)
      | inr high ↦ elim (cases_lt 1 (m % 4094)) [
        | inl above ↦ omega (arith, above)
        | inr level ↦ absurd (false≢true (sym ne ∙ eq-eqb (m % 4094) 1 (omega (arith, high, level))))
      ]
    ]

-- nothing stands before the first block
pub numbered_first : (total : ℕ) (block : List ℕ) → numbered_block total (0, block) ≡ padded block
unfolding numbered_block
numbered_first total block = refl

pub length_padded : (block : List ℕ) → length block ≤ 4096 → length (padded block) ≡ 4096
length_padded block small =
    let both = length-append block (replicate (4096 - length block) 0) in
    let zeros = length-replicate {A = ℕ} (4096 - length block) 0 in
    omega (arith, both, zeros, small)

length_numbered : (total m : ℕ) (block : List ℕ) → length block ≤ 4096 → length (numbered_block total (m, block)) + 4096 * base m ≡ 4096 * base (m + 1)
length_numbered total m block small =
    let is = ap length (numbered_is total m block) in
    let both = length-append (maps total m) (padded block) in
    let front = length_maps total m in
    let back = length_padded block small in
    omega (arith, is, both, front, back)

tail_small : (block : List ℕ) (blocks : List (List ℕ)) → AreSmall (block ∷ blocks) → AreSmall blocks
tail_small block blocks small k lt = small (suc k) (omega (arith, lt))

pub length_laid : (total m : ℕ) (blocks : List (List ℕ)) → AreSmall blocks → length (laid total m blocks) + 4096 * base m ≡ 4096 * base (m + length blocks)
length_laid total m [] small =
    let none = ap length (laid_none total m) in
    omega (arith, none)
length_laid total m (block ∷ blocks) small =
    let is = ap length (laid_first total m block blocks) in
    let both = length-append (numbered_block total (m, block)) (laid total (m + 1) blocks) in
    let first = length_numbered total m block (small 0 (omega arith)) in
    let rest = length_laid total (m + 1) blocks (tail_small block blocks small) in
    omega (arith, is, both, first, rest)

-- a byte of a block of data
pub byte_at_place : (total m n offset j : ℕ) (blocks : List (List ℕ)) → AreSmall blocks → n < length blocks → j < 4096 → offset + 4096 * base m ≡ 4096 * block_number (m + n) → get_or (laid total m blocks) (offset + j) 0 ≡ get_or (padded (get_or blocks n [])) j 0
byte_at_place total m n offset j [] small lt within place = absurd (omega (arith, lt))
byte_at_place total m zero offset j (block ∷ blocks) small lt within place =
    let front = length_maps total m in
    let back = length_padded block (small 0 (omega arith)) in
    let both = length-append (maps total m) (padded block) in
    let here : offset ≡ length (maps total m) = omega (arith, front, place) in
    let rest : offset + j - length (maps total m) ≡ j = omega (arith, here) in
    ap (λ (xs : List ℕ). get_or xs (offset + j) 0) (laid_first total m block blocks ∙ ap (λ (xs : List ℕ). xs ++ laid total (m + 1) blocks) (numbered_is total m block))
    ∙ get_or_append_left (maps total m ++ padded block) (laid total (m + 1) blocks) 0 (offset + j) (omega (arith, both, back, here, within))
    ∙ get_or-append_right (maps total m) (padded block) (length (maps total m)) (offset + j) 0 refl (omega (arith, here))
    ∙ ap (λ (k : ℕ). get_or (padded block) k 0) rest
byte_at_place total m (suc n) offset j (block ∷ blocks) small lt within place =
    let first = length_numbered total m block (small 0 (omega arith)) in
    let len = length (numbered_block total (m, block)) in
    let later : 4096 * base (m + 1) ≤ 4096 * block_number (m + suc n) = omega arith in
    let past : len ≤ offset = omega (arith, first, place, later) in
    let next : offset - len + 4096 * base (m + 1) ≡ 4096 * block_number (m + 1 + n) = omega (arith, first, place, past) in
    let moved : offset + j - len ≡ offset - len + j = omega (arith, past) in
    ap (λ (xs : List ℕ). get_or xs (offset + j) 0) (laid_first total m block blocks)
    ∙ get_or-append_right (numbered_block total (m, block)) (laid total (m + 1) blocks) len (offset + j) 0 refl (omega (arith, past))
    ∙ ap (λ (k : ℕ). get_or (laid total (m + 1) blocks) k 0) moved
    ∙ byte_at_place total (m + 1) n (offset - len) j blocks (tail_small block blocks small) (omega (arith, lt)) within next

maps_are : (total m : ℕ) → m % 4094 ≡ 1 → maps total m ≡ map_block total (m / 4094) ++ map_block total (m / 4094)
unfolding maps
maps_are total m one = rw (eq-eqb (m % 4094) 1 one) refl

-- a byte of the two free maps before a block of data
pub map_at_place : (total m n k offset j : ℕ) (blocks : List (List ℕ)) → AreSmall blocks → n < length blocks → k ≡ m + n → k % 4094 ≡ 1 → j < 8192 → offset + 8192 + 4096 * base m ≡ 4096 * block_number k → get_or (laid total m blocks) (offset + j) 0 ≡ get_or (map_block total (k / 4094) ++ map_block total (k / 4094)) j 0
map_at_place total m n k offset j [] small lt is one within place = absurd (omega (arith, lt))
map_at_place total m zero k offset j (block ∷ blocks) small lt is one within place =
    let same : m ≡ k = omega (arith, is) in
    let first : m % 4094 ≡ 1 = omega (arith, one, is) in
    let both = length-append (map_block total (m / 4094)) (map_block total (m / 4094)) in
    let each = length_map total (m / 4094) in
    let start : offset + j ≡ j = omega (arith, place, is, one) in
    ap (λ (xs : List ℕ). get_or xs (offset + j) 0) (laid_first total m block blocks ∙ ap (λ (xs : List ℕ). xs ++ laid total (m + 1) blocks) (numbered_is total m block ∙ ap (λ (xs : List ℕ). xs ++ padded block) (maps_are total m first)) ∙ append_assoc (map_block total (m / 4094) ++ map_block total (m / 4094)) (padded block) (laid total (m + 1) blocks))
    ∙ ap (λ (p : ℕ). get_or ((map_block total (m / 4094) ++ map_block total (m / 4094)) ++ (padded block ++ laid total (m + 1) blocks)) p 0) start
    ∙ get_or_append_left (map_block total (m / 4094) ++ map_block total (m / 4094)) (padded block ++ laid total (m + 1) blocks) 0 j (omega (arith, both, each, within))
    ∙ ap (λ (i : ℕ). get_or (map_block total (i / 4094) ++ map_block total (i / 4094)) j 0) same
map_at_place total m (suc n) k offset j (block ∷ blocks) small lt is one within place =
    let first = length_numbered total m block (small 0 (omega arith)) in
    let len = length (numbered_block total (m, block)) in
    let later : 4096 * base (m + 1) + 8192 ≤ 4096 * block_number k = omega (arith, is, one) in
    let past : len ≤ offset = omega (arith, first, place, later) in
    let next : offset - len + 8192 + 4096 * base (m + 1) ≡ 4096 * block_number k = omega (arith, first, place, past) in
    let moved : offset + j - len ≡ offset - len + j = omega (arith, past) in
    ap (λ (xs : List ℕ). get_or xs (offset + j) 0) (laid_first total m block blocks)
    ∙ get_or-append_right (numbered_block total (m, block)) (laid total (m + 1) blocks) len (offset + j) 0 refl (omega (arith, past))
    ∙ ap (λ (p : ℕ). get_or (laid total (m + 1) blocks) p 0) moved
    ∙ map_at_place total (m + 1) n k (offset - len) j blocks (tail_small block blocks small) (omega (arith, lt)) (omega (arith, is)) one within next

-- ---- numbers

pub number_same : (width i j : ℕ) (xs ys : List ℕ) → ((k : ℕ) → k < width → get_or xs (i + k) 0 ≡ get_or ys (j + k) 0) → number_at width xs i ≡ number_at width ys j
unfolding number_at
number_same zero i j xs ys each = refl
number_same (suc width) i j xs ys each =
    let first : get_or xs i 0 ≡ get_or ys j 0 = ap (λ (k : ℕ). get_or xs k 0) (start i) ∙ each 0 (omega arith) ∙ ap (λ (k : ℕ). get_or ys k 0) (sym (start j)) in
    let rest = number_same width (suc i) (suc j) xs ys (λ k lt. ap (λ (p : ℕ). get_or xs p 0) (step i k) ∙ each (suc k) (omega (arith, lt)) ∙ ap (λ (p : ℕ). get_or ys p 0) (sym (step j k))) in
    ap (λ (a : ℕ). a + 256 * number_at width xs (suc i)) first ∙ ap (λ (b : ℕ). get_or ys j 0 + 256 * b) rest
  where
    start : (n : ℕ) → n ≡ n + 0
    start n = omega arith

    step : (n k : ℕ) → suc n + k ≡ n + suc k
    step n k = omega arith

-- a number in a block of data
pub number_at_place : (total n offset : ℕ) (blocks : List (List ℕ)) → AreSmall blocks → n < length blocks → offset + 4 ≤ length (get_or blocks n []) → number_at 4 (laid total 0 blocks) (4096 * block_number n + offset) ≡ number_at 4 (get_or blocks n []) offset
number_at_place total n offset blocks small lt fits =
    let block = get_or blocks n [] in
    let most = small n lt in
    number_same 4 (4096 * block_number n + offset) offset (laid total 0 blocks) block
    (λ k low.
    let place : 4096 * block_number n + offset + k ≡ 4096 * block_number n + (offset + k) = omega arith in
    let start : 4096 * block_number n + 4096 * base 0 ≡ 4096 * block_number (0 + n) = omega arith in
    ap (λ (p : ℕ). get_or (laid total 0 blocks) p 0) place
    ∙ byte_at_place total 0 n (4096 * block_number n) (offset + k) blocks small lt (omega (arith, low, fits, most)) start
    ∙ get_or_append_left block (replicate (4096 - length block) 0) 0 (offset + k) (omega (arith, low, fits)))
