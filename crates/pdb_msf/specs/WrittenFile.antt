-- The file that holds some streams, block by block (LLVM, "The MSF File Format"; where each block stands is own).
use Rattle.std.specs.Prelude.{◌≡◌, ℕ, ◌+◌, ◌-◌, ◌*◌, ◌/◌, ◌%◌, ◌^◌, Bool, true, false, ◌==◌, nat_lt, min, if◌then◌else◌, List, [], ◌∷◌, ◌++◌, length, map, take, drop, replicate, sum_by, Result, Ok, Err, Vec}
use Rattle.std.specs.List.{flat_map, range_with_len, enumerate_from}
use Rattle.link_base.specs.Bytes.{bytes_at, number_bytes}
use Rattle.link_base.specs.Fields.{fields}
use Rattle.link_base.specs.declared.numbers.LeNumber.TheVariants.{U32}
use Rattle.pdb_msf.specs.BlockFile.{BLOCK_SIZE, signature, blocks_for}
use Rattle.pdb_msf.specs.declared.writing.MsfError.{MsfError}
use Rattle.pdb_msf.specs.declared.writing.MsfError.TheVariants.{TooLarge, Memory}

-- the greatest size of a file
abbrev pub MSF_LIMIT : ℕ
MSF_LIMIT = 1073741824

-- the blocks of data of every 4,096, of which the second and the third are free maps
abbrev pub DATA_BLOCKS : ℕ
DATA_BLOCKS = 4094

-- ---- how many blocks there are, by the sizes of the streams

-- the block in which the n-th block of data stands
abbrev pub block_number : ℕ → ℕ
block_number n = n + 2 * ((n + 4093) / DATA_BLOCKS)

unfoldable pub stream_total : List ℕ → ℕ
stream_total sizes = sum_by blocks_for sizes

-- the bytes of the directory, and its blocks
abbrev pub directory_extent : List ℕ → ℕ
directory_extent sizes = 4 * (1 + length sizes + stream_total sizes)

abbrev pub directory_total : List ℕ → ℕ
directory_total sizes = blocks_for (directory_extent sizes)

-- the file ends with its last block of data: before those of the directory stand two, the superblock and the block of
-- the directory's numbers
abbrev pub block_total : List ℕ → ℕ
block_total sizes = block_number (1 + directory_total sizes + stream_total sizes) + 1

abbrev pub file_size : List ℕ → ℕ
file_size sizes = BLOCK_SIZE * block_total sizes

-- ---- the blocks of data

-- the size of a block, the block of the first free map, the number of blocks, the size of the directory, 0, and the block
-- of its numbers
unfoldable pub superblock : ℕ → ℕ → List ℕ
superblock total extent = signature ++ fields (U32 4096 ∷ U32 1 ∷ U32 total ∷ U32 extent ∷ U32 0 ∷ U32 3 ∷ [])

-- the numbers of so many blocks of data from the n-th on
unfoldable pub block_numbers : ℕ → ℕ → List ℕ
block_numbers n count = flat_map (λ k. number_bytes 4 (block_number k)) (range_with_len n count)

-- the number of streams, their sizes, and the numbers of their blocks, which stand behind those of the directory
unfoldable pub directory : List ℕ → List ℕ
directory sizes =
    number_bytes 4 (length sizes)
    ++ (flat_map (number_bytes 4) sizes ++ block_numbers (2 + directory_total sizes) (stream_total sizes))

-- bytes cut into blocks
abbrev pub cut_block : List ℕ → ℕ → List ℕ
cut_block bytes index = bytes_at bytes (BLOCK_SIZE * index) BLOCK_SIZE

unfoldable pub in_blocks : List ℕ → List (List ℕ)
in_blocks bytes = map (cut_block bytes) (range_with_len 0 (blocks_for (length bytes)))

unfoldable pub blocks_of_data : List ℕ → List (List ℕ) → List (List ℕ)
blocks_of_data sizes streams =
    superblock (block_total sizes) (directory_extent sizes)
    ∷ block_numbers 2 (directory_total sizes)
    ∷ (in_blocks (directory sizes) ++ flat_map in_blocks streams)

-- ---- all blocks

-- eight bits of a free map from the n-th on, the lowest first: 0 for a block of the file, and else 1
abbrev pub map_byte : ℕ → ℕ → ℕ
map_byte total n = 256 - 2 ^ min 8 (total - n)

-- a block of the free map, by its index among them
unfoldable pub map_block : ℕ → ℕ → List ℕ
map_block total index = map (λ k. map_byte total (8 * (BLOCK_SIZE * index + k))) (range_with_len 0 BLOCK_SIZE)

abbrev pub padded : List ℕ → List ℕ
padded block = block ++ replicate (BLOCK_SIZE - length block) 0

-- before the second of every 4,094 blocks of data stands a block of the free map, twice
unfoldable pub numbered_block : ℕ → ℕ × List ℕ → List ℕ
numbered_block total (n, block) =
    if n % DATA_BLOCKS == 1 then (map_block total (n / DATA_BLOCKS) ++ map_block total (n / DATA_BLOCKS)) ++ padded block else padded block

-- blocks of data from the n-th on
unfoldable pub laid : ℕ → ℕ → List (List ℕ) → List ℕ
laid total n blocks = flat_map (numbered_block total) (enumerate_from n blocks)

abbrev pub msf_of_sizes : List ℕ → List (List ℕ) → List ℕ
msf_of_sizes sizes streams = laid (block_total sizes) 0 (blocks_of_data sizes streams)

abbrev pub msf_of : List (List ℕ) → List ℕ
msf_of streams = msf_of_sizes (map length streams) streams

-- ---- what writing answers

-- streams that stand one after the other, by their sizes
unfoldable pub parted : List ℕ → List ℕ → List (List ℕ)
parted joined [] = []
parted joined (size ∷ sizes) = take size joined ∷ parted (drop size joined) sizes

-- a file that would be too large is refused with its size; any other is given, or memory is wanting
abbrev pub WritesFor : {A : Type 0} → Bool → ℕ → List ℕ → Result (Vec ℕ A) MsfError → Type 0
WritesFor true size file answer = answer ≡ Err (TooLarge size)
WritesFor false size file (Ok out) = out.items ≡ file
WritesFor false size file (Err error) = error ≡ Memory

abbrev pub Writes : {A : Type 0} → List ℕ → List (List ℕ) → Result (Vec ℕ A) MsfError → Type 0
Writes sizes streams answer = WritesFor (nat_lt MSF_LIMIT (file_size sizes)) (file_size sizes) (msf_of streams) answer
