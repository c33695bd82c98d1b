-- Lists of blocks and of numbers that are small, and the sizes of the first streams.
use Rattle.std.proofs.Common.{◌≡◌, ℕ, zero, suc, ◌+◌, ◌*◌, ◌<◌, ◌≤◌, true, le-ltb, List, [], ◌∷◌, ◌++◌, length, get_or, take, None, refl, ap, ◌∙◌, arith}
use Rattle.std.specs.List.{flat_map}
use Rattle.std.proofs.Math.Seq.{take-append_seam, take-suc}
use Rattle.std.specs.Str.{bytes_eq}
use Rattle.std.proofs.lemmas.Slice.Eq.{bytes_eq-Decides}
use Rattle.std.proofs.lemmas.List.FromFn.{get_or-map-range_with_len, length-map-range_with_len}
use Rattle.std.proofs.lemmas.List.Sums.{sum_by-append, sum_by-cons}
use Rattle.link_base.specs.NameText.{begins}
use Rattle.pdb_msf.specs.BlockFile.{signature, blocks_for, stream_count}
use Rattle.pdb_msf.specs.Streams.{stream_of}
use Rattle.pdb_msf.specs.WrittenFile.{block_number, stream_total, in_blocks}
use Rattle.pdb_msf.proofs.WritingLemmas.{more_total, length_in_blocks_of}
use Rattle.pdb_msf.proofs.PlaceLemmas.{AreSmall}
use Rattle.pdb_msf.proofs.DataLemmas.{AreNumbers, numbers_from, length_cut, block_in_blocks, no_total}

-- ---- lists of blocks

pub small_cons : (block : List ℕ) (blocks : List (List ℕ)) → length block ≤ 4096 → AreSmall blocks → AreSmall (block ∷ blocks)
small_cons block blocks small rest zero lt = small
small_cons block blocks small rest (suc k) lt = rest k (omega (arith, lt))

pub small_append : (xs ys : List (List ℕ)) → AreSmall xs → AreSmall ys → AreSmall (xs ++ ys)
small_append [] ys first rest = rest
small_append (x ∷ xs) ys first rest =
    small_cons x (xs ++ ys) (first 0 (omega arith)) (small_append xs ys (λ k lt. first (suc k) (omega (arith, lt))) rest)

pub small_cut : (bytes : List ℕ) → AreSmall (in_blocks bytes)
small_cut bytes k lt =
    let count = length_in_blocks_of bytes in
    let is = ap length (block_in_blocks bytes k (omega (arith, lt, count))) in
    let cut = length_cut bytes k in
    omega (arith, is, cut)

pub small_streams : (streams : List (List ℕ)) → AreSmall (flat_map in_blocks streams)
small_streams [] k lt = absurd (omega (arith, lt))
small_streams (stream ∷ streams) k lt = small_append (in_blocks stream) (flat_map in_blocks streams) (small_cut stream) (small_streams streams) k lt

-- ---- lists of numbers

pub number_cons : (number : ℕ) (numbers : List ℕ) → number < 4294967296 → AreNumbers numbers → AreNumbers (number ∷ numbers)
number_cons number numbers small rest zero lt = small
number_cons number numbers small rest (suc k) lt = rest k (omega (arith, lt))

pub number_append : (xs ys : List ℕ) → AreNumbers xs → AreNumbers ys → AreNumbers (xs ++ ys)
number_append [] ys first rest = rest
number_append (x ∷ xs) ys first rest =
    number_cons x (xs ++ ys) (first 0 (omega arith)) (number_append xs ys (λ k lt. first (suc k) (omega (arith, lt))) rest)

pub are_numbers_from : (n count : ℕ) → n + count < 1073741824 → AreNumbers (numbers_from n count)
are_numbers_from n count small k lt =
    let long = length-map-range_with_len block_number n count in
    let is = get_or-map-range_with_len block_number n count k (n + k) 0 (omega (arith, long, lt)) refl in
    omega (arith, is, long, lt, small)

pub size_small : (sizes : List ℕ) (k : ℕ) → k < length sizes → get_or sizes k 0 ≤ 4096 * stream_total sizes
size_small [] k lt = absurd (omega (arith, lt))
size_small (size ∷ sizes) zero lt = let more = more_total size sizes in omega (arith, more)
size_small (size ∷ sizes) (suc k) lt =
    let more = more_total size sizes in
    let rest = size_small sizes k (omega (arith, lt)) in
    omega (arith, more, rest)

-- the sizes of the first streams
pub total_more : (sizes : List ℕ) (i : ℕ) → i < length sizes → stream_total (take (suc i) sizes) ≡ stream_total (take i sizes) + blocks_for (get_or sizes i 0)
unfolding stream_total
total_more sizes i lt =
    ap stream_total (take-suc sizes i 0 lt)
    ∙ sum_by-append blocks_for (take i sizes) (get_or sizes i 0 ∷ [])
    ∙ ap (λ (k : ℕ). stream_total (take i sizes) + k) (sum_by-cons blocks_for (get_or sizes i 0) [])
    ∙ last (stream_total (take i sizes)) (blocks_for (get_or sizes i 0))
  where
    last : (a b : ℕ) → a + (b + 0) ≡ a + b
    last a b = omega arith

pub total_within : (sizes : List ℕ) (i : ℕ) → i < length sizes → stream_total (take i sizes) + blocks_for (get_or sizes i 0) ≤ stream_total sizes
total_within [] i lt = absurd (omega (arith, lt))
total_within (size ∷ sizes) zero lt =
    let more = more_total size sizes in
    let none = no_total in
    omega (arith, more, none)
total_within (size ∷ sizes) (suc i) lt =
    let more = more_total size sizes in
    let front = more_total size (take i sizes) in
    let rest = total_within sizes i (omega (arith, lt)) in
    omega (arith, more, front, rest)

pub length_signature : length signature ≡ 32
unfolding signature
length_signature = refl

pub begins_so : (rest : List ℕ) → begins (signature ++ rest) signature ≡ true
begins_so rest = ap (λ (xs : List ℕ). bytes_eq signature xs) (take-append_seam signature rest) ∙ (bytes_eq-Decides signature signature).1 refl

pub none_there : (file : List ℕ) (i : ℕ) → stream_count file ≤ i → stream_of file i ≡ None
none_there file i past = rw (le-ltb _ _ past) refl
