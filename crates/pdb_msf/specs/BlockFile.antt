-- The blocks of a multi-stream file and what is wrong with one (LLVM, "The MSF File Format"; which files are refused, and
-- in which order, is own). All numbers have four bytes.
use Rattle.std.specs.Prelude.{ℕ, zero, suc, ◌+◌, ◌-◌, ◌*◌, ◌/◌, ◌%◌, Bool, ◌&&◌, ◌==◌, nat_le, nat_lt, min, if◌then◌else◌, List, [], ◌∷◌, ◌++◌, Option, Some, None, codes}
use Rattle.link_base.specs.Bytes.{u32_at, has_bytes, all_below}
use Rattle.link_base.specs.NameText.{begins}
use Rattle.link_base.specs.declared.kinds.database.PdbKind.{PdbKind}
use Rattle.link_base.specs.declared.kinds.database.PdbKind.TheVariants as bad

-- ---- numbers of the format

abbrev pub BLOCK_SIZE : ℕ
BLOCK_SIZE = 4096

abbrev pub SUPERBLOCK_SIZE : ℕ
SUPERBLOCK_SIZE = 56

-- the numbers in a block
abbrev pub BLOCK_NUMBERS : ℕ
BLOCK_NUMBERS = 1024

-- the greatest size of a directory: the block of its numbers has no more
abbrev pub DIRECTORY_LIMIT : ℕ
DIRECTORY_LIMIT = 4194304

-- what a file begins with
unfoldable pub signature : List ℕ
signature = codes "Microsoft C/C++ MSF 7.00" ++ (13 ∷ 10 ∷ 26 ∷ 68 ∷ 83 ∷ 0 ∷ 0 ∷ 0 ∷ [])

-- the blocks that so many bytes take
abbrev pub blocks_for : ℕ → ℕ
blocks_for size = (size + 4095) / BLOCK_SIZE

-- ---- the superblock

unfoldable pub size_of_blocks : List ℕ → ℕ
size_of_blocks file = u32_at file 32

unfoldable pub block_count : List ℕ → ℕ
block_count file = u32_at file 40

unfoldable pub directory_size : List ℕ → ℕ
directory_size file = u32_at file 44

-- the block that lists the blocks of the directory
unfoldable pub map_block : List ℕ → ℕ
map_block file = u32_at file 52

-- ---- the directory: the number of streams, their sizes, and the numbers of their blocks, stream by stream

-- a block lies in the file
abbrev pub is_block : List ℕ → ℕ → Bool
is_block file number = has_bytes file (BLOCK_SIZE * number) BLOCK_SIZE

-- a block of the directory, by its index among them
unfoldable pub directory_block : List ℕ → ℕ → ℕ
directory_block file index = u32_at file (BLOCK_SIZE * map_block file + 4 * index)

-- how many numbers of the directory are there: those of 1,024 blocks at most
unfoldable pub directory_len : List ℕ → ℕ
directory_len file = min (directory_size file / 4) 1048576

-- a number of the directory, by its index
unfoldable pub entry : List ℕ → ℕ → ℕ
entry file index = u32_at file (BLOCK_SIZE * directory_block file (index / BLOCK_NUMBERS) + 4 * (index % BLOCK_NUMBERS))

abbrev pub stream_count : List ℕ → ℕ
stream_count file = entry file 0

abbrev pub stream_size : List ℕ → ℕ → ℕ
stream_size file stream = entry file (1 + stream)

-- the blocks of the first streams together
unfoldable pub blocks_before : List ℕ → ℕ → ℕ
blocks_before file zero = 0
blocks_before file (suc stream) = blocks_before file stream + blocks_for (stream_size file stream)

-- where the numbers of a stream's blocks begin in the directory
abbrev pub list_of : List ℕ → ℕ → ℕ
list_of file stream = 1 + stream_count file + blocks_before file stream

-- ---- the tests, in the order of their refusals

unfoldable pub has_superblock : List ℕ → Bool
has_superblock file = has_bytes file 0 SUPERBLOCK_SIZE && begins file signature

-- blocks have the one size, and as many as are counted lie in the file
unfoldable pub has_size : List ℕ → Bool
has_size file = (size_of_blocks file == BLOCK_SIZE) && has_bytes file 0 (BLOCK_SIZE * block_count file)

-- the block that lists those of the directory lies in the file, and so does each that it lists
unfoldable pub has_map : List ℕ → Bool
has_map file = has_bytes file 0 SUPERBLOCK_SIZE && is_block file (map_block file)

-- how many blocks of the directory its block of numbers lists
abbrev pub directory_blocks : List ℕ → ℕ
directory_blocks file = min (blocks_for (directory_size file)) BLOCK_NUMBERS

unfoldable pub directory_is_there : List ℕ → Bool
directory_is_there file =
    has_map file && all_below (directory_blocks file) (λ index. is_block file (directory_block file index))

-- how many numbers of blocks of streams are there: none where the sizes of the streams are not
unfoldable pub listed_len : List ℕ → ℕ
listed_len file =
    if nat_lt (stream_count file) (directory_len file) then min (blocks_before file (stream_count file)) (directory_len file - (1 + stream_count file)) else 0

-- each of them lies in the file
unfoldable pub lists_are_there : List ℕ → Bool
lists_are_there file = all_below (listed_len file) (λ index. is_block file (entry file (1 + stream_count file + index)))

unfoldable pub has_blocks : List ℕ → Bool
has_blocks file = has_size file && (directory_is_there file && lists_are_there file)

-- the directory is no longer than it may be, and long enough for all of its numbers
unfoldable pub has_directory : List ℕ → Bool
has_directory file =
    nat_le (directory_size file) DIRECTORY_LIMIT && nat_le (list_of file (stream_count file)) (directory_len file)

-- the first test that fails
unfoldable pub msf_fault : List ℕ → Option PdbKind
msf_fault file =
    if has_superblock file then (if has_blocks file then (if has_directory file then None else Some bad.Directory) else Some bad.Blocks)
    else Some bad.Superblock
