-- The blocks of data of a written file, and the numbers in them.
use Rattle.std.proofs.Common.{◌≡◌, ℕ, zero, suc, ◌+◌, ◌-◌, ◌*◌, ◌/◌, ◌%◌, ◌<◌, List, [], ◌∷◌, ◌++◌, length, get_or, take, drop, map, refl, sym, ap, ◌∙◌, arith, append_assoc, length-append, length-drop, min}
use Rattle.std.specs.List.{flat_map, range_with_len}
use Rattle.std.proofs.lemmas.List.{append-nil, length-take, get_or-take, get_or-drop, get_or_append_left, get_or-append_right, drop_at}
use Rattle.std.proofs.lemmas.Grind.{flat_map-append}
use Rattle.std.proofs.lemmas.List.FromFn.{get_or-map-range_with_len, length-map-range_with_len}
use Rattle.link_base.specs.Bytes.{number_at, number_bytes}
use Rattle.link_base.proofs.CallerLemmas.{number_at-number_bytes, length-number_bytes, number_at-drop}
use Rattle.pdb_msf.specs.BlockFile.{blocks_for}
use Rattle.pdb_msf.specs.WrittenFile.{block_number, stream_total, directory_total, block_numbers, directory, cut_block, in_blocks}
use Rattle.pdb_msf.proofs.WritingLemmas.{length_in_blocks_of, length_directory, more_total}
use Rattle.pdb_msf.proofs.PlaceLemmas.{number_same}

-- ---- numbers one behind the other

abbrev pub AreNumbers : List ℕ → Type 0
AreNumbers numbers = (k : ℕ) → k < length numbers → get_or numbers k 0 < 4294967296

abbrev pub listed : List ℕ → List ℕ
listed numbers = flat_map (number_bytes 4) numbers

pub length_listed : (numbers : List ℕ) → length (listed numbers) ≡ 4 * length numbers
length_listed [] = refl
length_listed (number ∷ numbers) =
    let both = length-append (number_bytes 4 number) (listed numbers) in
    let first = length-number_bytes 4 number in
    let rest = length_listed numbers in
    omega (arith, both, first, rest)

pub number_in_list : (numbers rest : List ℕ) (k : ℕ) → AreNumbers numbers → k < length numbers → number_at 4 (listed numbers ++ rest) (4 * k) ≡ get_or numbers k 0
number_in_list [] rest k small lt = absurd (omega (arith, lt))
number_in_list (number ∷ numbers) rest zero small lt =
    ap (λ (xs : List ℕ). number_at 4 xs 0) (append_assoc (number_bytes 4 number) (listed numbers) rest)
    ∙ number_at-number_bytes 4 number (listed numbers ++ rest) (small 0 (omega arith))
number_in_list (number ∷ numbers) rest (suc k) small lt =
    let width = length-number_bytes 4 number in
    let place : 4 * suc k ≡ 4 + 4 * k = omega arith in
    ap (λ (xs : List ℕ). number_at 4 xs (4 * suc k)) (append_assoc (number_bytes 4 number) (listed numbers) rest)
    ∙ ap (number_at 4 (number_bytes 4 number ++ (listed numbers ++ rest))) place
    ∙ sym (number_at-drop 4 4 (4 * k) (number_bytes 4 number ++ (listed numbers ++ rest)))
    ∙ ap (λ (xs : List ℕ). number_at 4 xs (4 * k)) (drop_at (number_bytes 4 number) (listed numbers ++ rest) 4 width)
    ∙ number_in_list numbers rest k (λ j low. small (suc j) (omega (arith, low))) (omega (arith, lt))

flat_map-map : (f : ℕ → ℕ) (ks : List ℕ) → flat_map (λ k. number_bytes 4 (f k)) ks ≡ listed (map f ks)
flat_map-map f [] = refl
flat_map-map f (k ∷ ks) = ap (λ (xs : List ℕ). number_bytes 4 (f k) ++ xs) (flat_map-map f ks)

abbrev pub numbers_from : ℕ → ℕ → List ℕ
numbers_from n count = map block_number (range_with_len n count)

pub numbers_listed : (n count : ℕ) → block_numbers n count ≡ listed (numbers_from n count)
unfolding block_numbers
numbers_listed n count = flat_map-map block_number (range_with_len n count)

-- ---- the numbers of the directory

abbrev pub entries : List ℕ → List ℕ
entries sizes = length sizes ∷ (sizes ++ numbers_from (2 + directory_total sizes) (stream_total sizes))

pub directory_listed : (sizes : List ℕ) → directory sizes ≡ listed (entries sizes)
unfolding directory
directory_listed sizes =
    ap (λ (xs : List ℕ). number_bytes 4 (length sizes) ++ (listed sizes ++ xs)) (numbers_listed (2 + directory_total sizes) (stream_total sizes))
    ∙ ap (λ (xs : List ℕ). number_bytes 4 (length sizes) ++ xs) (sym (flat_map-append (number_bytes 4) sizes (numbers_from (2 + directory_total sizes) (stream_total sizes))))

pub length_entries : (sizes : List ℕ) → length (entries sizes) ≡ 1 + length sizes + stream_total sizes
length_entries sizes =
    let both = length-append sizes (numbers_from (2 + directory_total sizes) (stream_total sizes)) in
    let numbers = length-map-range_with_len block_number (2 + directory_total sizes) (stream_total sizes) in
    omega (arith, both, numbers)

pub entry_of_size : (sizes : List ℕ) (i : ℕ) → i < length sizes → get_or (entries sizes) (1 + i) 0 ≡ get_or sizes i 0
entry_of_size sizes i lt =
    let place : 1 + i ≡ suc i = omega arith in
    ap (λ (k : ℕ). get_or (entries sizes) k 0) place
    ∙ get_or_append_left sizes (numbers_from (2 + directory_total sizes) (stream_total sizes)) 0 i lt

pub entry_of_block : (sizes : List ℕ) (k : ℕ) → k < stream_total sizes → get_or (entries sizes) (1 + length sizes + k) 0 ≡ block_number (2 + directory_total sizes + k)
entry_of_block sizes k lt =
    let place : 1 + length sizes + k ≡ suc (length sizes + k) = omega arith in
    let rest : length sizes + k - length sizes ≡ k = omega arith in
    ap (λ (j : ℕ). get_or (entries sizes) j 0) place
    ∙ get_or-append_right sizes (numbers_from (2 + directory_total sizes) (stream_total sizes)) (length sizes) (length sizes + k) 0 refl (omega arith)
    ∙ ap (λ (j : ℕ). get_or (numbers_from (2 + directory_total sizes) (stream_total sizes)) j 0) rest
    ∙ get_or-map-range_with_len block_number (2 + directory_total sizes) (stream_total sizes) k (2 + directory_total sizes + k) 0 lt refl

-- ---- blocks that bytes are cut into

pub length_cut : (bytes : List ℕ) (index : ℕ) → length (cut_block bytes index) ≡ min 4096 (length bytes - 4096 * index)
length_cut bytes index =
    let cut = length-take 4096 (drop (4096 * index) bytes) in
    let rest = length-drop (4096 * index) bytes in
    omega (arith, cut, rest)

pub byte_in_cut : (bytes : List ℕ) (index j : ℕ) → j < 4096 → get_or (cut_block bytes index) j 0 ≡ get_or bytes (4096 * index + j) 0
byte_in_cut bytes index j lt = get_or-take 4096 (drop (4096 * index) bytes) j 0 lt ∙ get_or-drop (4096 * index) bytes j 0

pub block_in_blocks : (bytes : List ℕ) (index : ℕ) → index < blocks_for (length bytes) → get_or (in_blocks bytes) index [] ≡ cut_block bytes index
unfolding in_blocks
block_in_blocks bytes index lt = get_or-map-range_with_len (cut_block bytes) 0 (blocks_for (length bytes)) index index [] lt (omega arith)

pub number_in_cut : (numbers : List ℕ) (k : ℕ) → AreNumbers numbers → k < length numbers → number_at 4 (cut_block (listed numbers) (k / 1024)) (4 * (k % 1024)) ≡ get_or numbers k 0
number_in_cut numbers k small lt =
    let place : 4096 * (k / 1024) + 4 * (k % 1024) ≡ 4 * k = omega arith in
    number_same 4 (4 * (k % 1024)) (4096 * (k / 1024) + 4 * (k % 1024)) (cut_block (listed numbers) (k / 1024)) (listed numbers)
    (λ j low.
    let sum : 4096 * (k / 1024) + (4 * (k % 1024) + j) ≡ 4096 * (k / 1024) + 4 * (k % 1024) + j = omega arith in
    byte_in_cut (listed numbers) (k / 1024) (4 * (k % 1024) + j) (omega (arith, low)) ∙ ap (λ (p : ℕ). get_or (listed numbers) p 0) sum)
    ∙ ap (number_at 4 (listed numbers)) place
    ∙ ap (λ (xs : List ℕ). number_at 4 xs (4 * k)) (sym (append-nil (listed numbers)))
    ∙ number_in_list numbers [] k small lt

-- ---- the blocks of data

pub no_total : stream_total [] ≡ 0
unfolding stream_total
no_total = refl

pub length_streams : (streams : List (List ℕ)) → length (flat_map in_blocks streams) ≡ stream_total (map length streams)
length_streams [] = sym no_total
length_streams (stream ∷ streams) =
    let both = length-append (in_blocks stream) (flat_map in_blocks streams) in
    let first = length_in_blocks_of stream in
    let rest = length_streams streams in
    let more = more_total (length stream) (map length streams) in
    omega (arith, both, first, rest, more)

pub length_directory_blocks : (sizes : List ℕ) → length (in_blocks (directory sizes)) ≡ directory_total sizes
length_directory_blocks sizes = length_in_blocks_of (directory sizes) ∙ ap blocks_for (length_directory sizes)

-- the block of a stream
pub block_of_stream : (streams : List (List ℕ)) (i index : ℕ) → i < length streams → index < blocks_for (length (get_or streams i [])) → get_or (flat_map in_blocks streams) (stream_total (take i (map length streams)) + index) [] ≡ cut_block (get_or streams i []) index
block_of_stream [] i index lt inside = absurd (omega (arith, lt))
block_of_stream (stream ∷ streams) zero index lt inside =
    let first = length_in_blocks_of stream in
    let none = no_total in
    let place : stream_total [] + index ≡ index = omega (arith, none) in
    ap (λ (k : ℕ). get_or (in_blocks stream ++ flat_map in_blocks streams) k []) place
    ∙ get_or_append_left (in_blocks stream) (flat_map in_blocks streams) [] index (omega (arith, first, inside))
    ∙ block_in_blocks stream index inside
block_of_stream (stream ∷ streams) (suc i) index lt inside =
    let first = length_in_blocks_of stream in
    let before = stream_total (take i (map length streams)) in
    let more = more_total (length stream) (take i (map length streams)) in
    let all = stream_total (length stream ∷ take i (map length streams)) in
    let place : all + index - length (in_blocks stream) ≡ before + index = omega (arith, first, more) in
    get_or-append_right (in_blocks stream) (flat_map in_blocks streams) (length (in_blocks stream)) (all + index) [] refl (omega (arith, first, more))
    ∙ ap (λ (k : ℕ). get_or (flat_map in_blocks streams) k []) place
    ∙ block_of_stream streams i index (omega (arith, lt)) inside
