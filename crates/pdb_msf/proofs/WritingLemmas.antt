-- A file as it is written, part by part.
use Rattle.std.proofs.Common.{ltb, le-ltb, Vec, Ok, ◌≡◌, ℕ, suc, ◌+◌, ◌*◌, ◌<◌, ◌≤◌, false, List, [], ◌∷◌, ◌++◌, length, get_or, take, drop, map, sum, refl, sym, ap, ◌∙◌, append_assoc, add-one, drop-cons, arith, length-append, length-drop}
use Rattle.std.specs.List.{flat_map, range_with_len}
use Rattle.std.proofs.lemmas.List.{append-nil, length-take, take_all, drop_all}
use Rattle.std.proofs.lemmas.List.FromFn.{map-range_with_len_more, length-range_with_len, length-map-range_with_len}
use Rattle.std.proofs.lemmas.List.Sums.{sum_by-cons}
use Rattle.link_base.specs.Bytes.{number_bytes, bytes_at}
use Rattle.link_base.proofs.CallerLemmas.{length-number_bytes}
use Rattle.link_base.proofs.RangeLemmas.{joined_more}
use Rattle.link_base.proofs.ListLemmas.{length_each, more_bytes}
use Rattle.pdb_msf.specs.BlockFile.{blocks_for}
use Rattle.pdb_msf.specs.WrittenFile.{block_number, map_byte, map_block, file_size, Writes, stream_total, directory_extent, directory_total, block_total, superblock, block_numbers, directory, cut_block, in_blocks, blocks_of_data, numbered_block, laid, msf_of_sizes, parted}

-- ---- lists that grow by one

pub map_grows : {X : Type 0} (f : ℕ → X) (i : ℕ) (old now new : List X) (x : X) → now ≡ old ++ map f (range_with_len 0 i) → new ≡ now ++ x ∷ [] → x ≡ f i → new ≡ old ++ map f (range_with_len 0 (i + 1))
map_grows {X} f i old now new x was grown is =
    grown
    ∙ ap (λ (xs : List X). xs ++ x ∷ []) was
    ∙ append_assoc old (map f (range_with_len 0 i)) (x ∷ [])
    ∙ ap (λ (y : X). old ++ (map f (range_with_len 0 i) ++ y ∷ [])) is
    ∙ ap (λ (xs : List X). old ++ xs) (sym (map-range_with_len_more f 0 i i (omega arith)))

pub no_numbers : (n : ℕ) → block_numbers n 0 ≡ []
unfolding block_numbers
no_numbers n = refl

pub numbers_grow : (n i number : ℕ) (old now new : List ℕ) → number ≡ block_number (n + i) → now ≡ old ++ block_numbers n i → new ≡ now ++ (number_bytes 4 number ++ []) → new ≡ old ++ block_numbers n (i + 1)
unfolding block_numbers
numbers_grow n i number old now new is was grown =
    grown
    ∙ ap (λ (xs : List ℕ). now ++ xs) (append-nil (number_bytes 4 number) ∙ ap (number_bytes 4) is)
    ∙ ap (λ (xs : List ℕ). xs ++ number_bytes 4 (block_number (n + i))) was
    ∙ append_assoc old (block_numbers n i) (number_bytes 4 (block_number (n + i)))
    ∙ ap (λ (xs : List ℕ). old ++ xs) (sym (joined_more (λ (k : ℕ). number_bytes 4 (block_number k)) n i (n + i) refl))

pub map_done : (total index place : ℕ) (old out : List ℕ) → place ≡ 4096 → out ≡ old ++ map (λ k. map_byte total (8 * (4096 * index + k))) (range_with_len 0 place) → out ≡ old ++ map_block total index
unfolding map_block
map_done total index place old out is was =
    was ∙ ap (λ (n : ℕ). old ++ map (λ (k : ℕ). map_byte total (8 * (4096 * index + k))) (range_with_len 0 n)) is

-- what is left of some bytes, where it is no more than a block
pub cut_short : (bytes rest : List ℕ) (offset : ℕ) → rest ≡ drop offset bytes → length rest ≤ 4096 → rest ≡ bytes_at bytes offset 4096
cut_short bytes rest offset is short =
    let same = ap length is in
    is ∙ sym (take_all 4096 (drop offset bytes) (omega (arith, same, short)))

-- ---- blocks laid one behind the other

pub laid_append : (total n : ℕ) (xs ys : List (List ℕ)) → laid total n (xs ++ ys) ≡ laid total n xs ++ laid total (n + length xs) ys
unfolding laid
laid_append total n [] ys = let same : n ≡ n + 0 = omega arith in ap (λ (k : ℕ). laid total k ys) same
laid_append total n (x ∷ xs) ys =
    let place : n + 1 + length xs ≡ n + suc (length xs) = omega arith in
    ap (λ (rest : List ℕ). numbered_block total (n, x) ++ rest) (laid_append total (n + 1) xs ys ∙ ap (λ (k : ℕ). laid total (n + 1) xs ++ laid total k ys) place)
    ∙ sym (append_assoc (numbered_block total (n, x)) (laid total (n + 1) xs) (laid total (n + suc (length xs)) ys))

pub laid_none : (total n : ℕ) → laid total n [] ≡ []
unfolding laid
laid_none total n = refl

pub laid_first : (total n : ℕ) (x : List ℕ) (xs : List (List ℕ)) → laid total n (x ∷ xs) ≡ numbered_block total (n, x) ++ laid total (n + 1) xs
unfolding laid
laid_first total n x xs = refl

laid_one : (total n : ℕ) (x : List ℕ) → laid total n (x ∷ []) ≡ numbered_block total (n, x)
laid_one total n x = laid_first total n x [] ∙ ap (λ (rest : List ℕ). numbered_block total (n, x) ++ rest) (laid_none total (n + 1)) ∙ append-nil (numbered_block total (n, x))

length_blocks : (f : ℕ → List ℕ) (count : ℕ) → length (map f (range_with_len 0 count)) ≡ count
length_blocks f count = length-map-range_with_len f 0 count

pub blocks_grow : (total n i number : ℕ) (f : ℕ → List ℕ) (old now new block : List ℕ) → number ≡ n + i → block ≡ f i → now ≡ old ++ laid total n (map f (range_with_len 0 i)) → new ≡ now ++ numbered_block total (number, block) → new ≡ old ++ laid total n (map f (range_with_len 0 (i + 1)))
blocks_grow total n i number f old now new block place is was grown =
    let so_far = map f (range_with_len 0 i) in
    let place_of : number ≡ n + length so_far = place ∙ ap (λ (k : ℕ). n + k) (sym (length_blocks f i)) in
    let one : laid total number (block ∷ []) ≡ laid total (n + length so_far) (f i ∷ []) = ap (λ (k : ℕ). laid total k (block ∷ [])) place_of ∙ ap (λ (b : List ℕ). laid total (n + length so_far) (b ∷ [])) is in
    grown
    ∙ ap (λ (xs : List ℕ). xs ++ numbered_block total (number, block)) was
    ∙ append_assoc old (laid total n so_far) (numbered_block total (number, block))
    ∙ ap (λ (xs : List ℕ). old ++ (laid total n so_far ++ xs)) (sym (laid_one total number block) ∙ one)
    ∙ ap (λ (xs : List ℕ). old ++ xs) (sym (laid_append total n so_far (f i ∷ [])) ∙ ap (laid total n) (sym (map-range_with_len_more f 0 i i (omega arith))))

pub length_in_blocks_of : (bytes : List ℕ) → length (in_blocks bytes) ≡ blocks_for (length bytes)
unfolding in_blocks
length_in_blocks_of bytes = length_blocks (cut_block bytes) (blocks_for (length bytes))

-- ---- the streams

pub more_total : (size : ℕ) (sizes : List ℕ) → stream_total (size ∷ sizes) ≡ blocks_for size + stream_total sizes
unfolding stream_total
more_total size sizes = sum_by-cons blocks_for size sizes

pub record StreamsLaid (total n : ℕ) (rest tail new whole : List ℕ) (end : ℕ) : Type 0 where
  pub left : sum tail ≡ length rest
  pub counted : n + stream_total tail ≡ end
  pub laid_out : new ++ laid total n (flat_map in_blocks (parted rest tail)) ≡ whole

stream_laid : (total n len end : ℕ) (rest tail old new whole : List ℕ) → sum (len ∷ tail) ≡ length rest → n + stream_total (len ∷ tail) ≡ end → new ≡ old ++ laid total n (in_blocks (take len rest)) → old ++ laid total n (flat_map in_blocks (parted rest (len ∷ tail))) ≡ whole → StreamsLaid total (n + blocks_for len) (drop len rest) tail new whole end
unfolding parted
stream_laid total n len end rest tail old new whole bytes blocks grown was =
    let cut = length-take len rest in
    let behind = length-drop len rest in
    let more = more_total len tail in
    let all = more_bytes len tail in
    let some : length (take len rest) ≡ len = omega (arith, cut, bytes, all) in
    let count : length (in_blocks (take len rest)) ≡ blocks_for len = length_in_blocks_of (take len rest) ∙ ap blocks_for some in
    let others = flat_map in_blocks (parted (drop len rest) tail) in
    record {
      left = omega (arith, behind, bytes, all);
      counted = omega (arith, more, blocks);
      laid_out =
          ap (λ (xs : List ℕ). xs ++ laid total (n + blocks_for len) others) grown
          ∙ append_assoc old (laid total n (in_blocks (take len rest))) (laid total (n + blocks_for len) others)
          ∙ ap (λ (k : ℕ). old ++ (laid total n (in_blocks (take len rest)) ++ laid total (n + k) others)) (sym count)
          ∙ ap (λ (xs : List ℕ). old ++ xs) (sym (laid_append total n (in_blocks (take len rest)) others))
          ∙ was;
    }

-- a stream is appended, by its length at the index of the loop
pub streams_step : (total n end i count : ℕ) (lengths rest stream others old new whole : List ℕ) → i < length lengths → sum (drop i lengths) ≡ length rest → n + stream_total (drop i lengths) ≡ end → stream ≡ take (get_or lengths i 0) rest → others ≡ drop (get_or lengths i 0) rest → count ≡ blocks_for (get_or lengths i 0) → new ≡ old ++ laid total n (in_blocks stream) → old ++ laid total n (flat_map in_blocks (parted rest (drop i lengths))) ≡ whole → StreamsLaid total (n + count) others (drop (i + 1) lengths) new whole end
streams_step total n end i count lengths rest stream others old new whole lt bytes blocks is_stream is_others is_count grown was =
    let len = get_or lengths i 0 in
    let tail = drop (i + 1) lengths in
    let front : len ∷ tail ≡ drop i lengths = sym (drop-cons lengths i 0 lt ∙ ap (λ (k : ℕ). len ∷ drop k lengths) (sym (add-one i))) in
    let base = stream_laid total n len end rest tail old new whole (ap sum front ∙ bytes) (ap (λ (t : List ℕ). n + stream_total t) front ∙ blocks) (grown ∙ ap (λ (s : List ℕ). old ++ laid total n (in_blocks s)) is_stream) (ap (λ (t : List ℕ). old ++ laid total n (flat_map in_blocks (parted rest t))) front ∙ was) in
    record {
      left = base.left ∙ ap length (sym is_others);
      counted = ap (λ (k : ℕ). n + k + stream_total tail) is_count ∙ base.counted;
      laid_out = ap (λ (k : ℕ). new ++ laid total (n + k) (flat_map in_blocks (parted others tail))) is_count ∙ ap (λ (r : List ℕ). new ++ laid total (n + blocks_for len) (flat_map in_blocks (parted r tail))) is_others ∙ base.laid_out;
    }

pub no_streams : (total n : ℕ) (rest : List ℕ) → laid total n (flat_map in_blocks (parted rest [])) ≡ []
unfolding parted
no_streams total n rest = laid_none total n

pub streams_done : (total n i : ℕ) (lengths rest out whole : List ℕ) → length lengths ≤ i → out ++ laid total n (flat_map in_blocks (parted rest (drop i lengths))) ≡ whole → out ≡ whole
streams_done total n i lengths rest out whole end was =
    sym (ap (λ (t : List ℕ). out ++ laid total n (flat_map in_blocks (parted rest t))) (drop_all i lengths end) ∙ ap (λ (xs : List ℕ). out ++ xs) (no_streams total n rest) ∙ append-nil out) ∙ was

pub parted_sizes : (joined sizes : List ℕ) → sum sizes ≡ length joined → map length (parted joined sizes) ≡ sizes
unfolding parted
parted_sizes joined [] e = refl
parted_sizes joined (size ∷ sizes) e =
    let cut = length-take size joined in
    let behind = length-drop size joined in
    let all = more_bytes size sizes in
    let first : length (take size joined) ≡ size = omega (arith, cut, e, all) in
    ap (λ (k : ℕ). k ∷ map length (parted (drop size joined) sizes)) first
    ∙ ap (λ (xs : List ℕ). size ∷ xs) (parted_sizes (drop size joined) sizes (omega (arith, behind, e, all)))

-- ---- the directory

pub length_numbers : (n count : ℕ) → length (block_numbers n count) ≡ 4 * count
unfolding block_numbers
length_numbers n count =
    length_each (λ (k : ℕ). number_bytes 4 (block_number k)) 4 (range_with_len n count) (λ k. length-number_bytes 4 (block_number k))
    ∙ ap (λ (k : ℕ). 4 * k) (length-range_with_len n count)

pub length_directory : (sizes : List ℕ) → length (directory sizes) ≡ directory_extent sizes
unfolding directory
length_directory sizes =
    let front = length-number_bytes 4 (length sizes) in
    let middle = length_each (number_bytes 4) 4 sizes (λ size. length-number_bytes 4 size) in
    let last = length_numbers (2 + directory_total sizes) (stream_total sizes) in
    let both = length-append (flat_map (number_bytes 4) sizes) (block_numbers (2 + directory_total sizes) (stream_total sizes)) in
    let all = length-append (number_bytes 4 (length sizes)) (flat_map (number_bytes 4) sizes ++ block_numbers (2 + directory_total sizes) (stream_total sizes)) in
    omega (arith, front, middle, last, both, all)

-- ---- the whole

pub parts_are_whole : (sizes : List ℕ) (streams : List (List ℕ)) (total extent first : ℕ) (start front numbers table a b c d : List ℕ) → total ≡ block_total sizes → extent ≡ directory_extent sizes → first ≡ 2 + directory_total sizes → front ≡ superblock total extent → numbers ≡ block_numbers 2 (directory_total sizes) → table ≡ directory sizes → start ≡ [] → a ≡ start ++ numbered_block total (0, front) → b ≡ a ++ numbered_block total (1, numbers) → c ≡ b ++ laid total 2 (in_blocks table) → d ≡ c ++ laid total first (flat_map in_blocks streams) → d ≡ msf_of_sizes sizes streams
unfolding blocks_of_data
parts_are_whole sizes streams total extent first start front numbers table a b c d is_total is_extent is_first is_front is_numbers is_table none ea eb ec ed =
    let count : length (in_blocks (directory sizes)) ≡ directory_total sizes = length_in_blocks_of (directory sizes) ∙ ap blocks_for (length_directory sizes) in
    let t = block_total sizes in
    let s = superblock t (directory_extent sizes) in
    let m = block_numbers 2 (directory_total sizes) in
    let r = in_blocks (directory sizes) in
    let f = flat_map in_blocks streams in
    let whole : laid t 0 (s ∷ m ∷ (r ++ f)) ≡ numbered_block t (0, s) ++ (numbered_block t (1, m) ++ (laid t 2 r ++ laid t (2 + directory_total sizes) f)) =
    laid_first t 0 s (m ∷ (r ++ f))
    ∙ ap (λ (xs : List ℕ). numbered_block t (0, s) ++ xs) (laid_first t 1 m (r ++ f) ∙ ap (λ (xs : List ℕ). numbered_block t (1, m) ++ xs) (laid_append t 2 r f ∙ ap (λ (k : ℕ). laid t 2 r ++ laid t (2 + k) f) count))
    in
    let fa : a ≡ numbered_block t (0, s) = cc in
    let fb : b ≡ numbered_block t (0, s) ++ numbered_block t (1, m) = cc in
    let fc : c ≡ (numbered_block t (0, s) ++ numbered_block t (1, m)) ++ laid t 2 r = cc in
    let fd : d ≡ ((numbered_block t (0, s) ++ numbered_block t (1, m)) ++ laid t 2 r) ++ laid t (2 + directory_total sizes) f = cc in
    fd
    ∙ append_assoc (numbered_block t (0, s) ++ numbered_block t (1, m)) (laid t 2 r) (laid t (2 + directory_total sizes) f)
    ∙ append_assoc (numbered_block t (0, s)) (numbered_block t (1, m)) (laid t 2 r ++ laid t (2 + directory_total sizes) f)
    ∙ sym whole

pub writes_file : {A : Type 0} (joined sizes : List ℕ) (file : Vec ℕ A) → sum sizes ≡ length joined → file_size sizes ≤ 1073741824 → file.items ≡ msf_of_sizes sizes (parted joined sizes) → Writes sizes (parted joined sizes) (Ok file)
writes_file joined sizes file whole small is =
    let fits : ltb 1073741824 (file_size sizes) ≡ false = le-ltb _ _ small in
    rw fits (is ∙ ap (λ (s : List ℕ). msf_of_sizes s (parted joined sizes)) (sym (parted_sizes joined sizes whole)))
