-- The streams of a multi-stream file: each the bytes of its blocks, one after the other, up to its size (LLVM, "The MSF
-- File Format").
use Rattle.std.specs.Prelude.{◌≡◌, ℕ, ◌+◌, ◌*◌, nat_lt, if◌then◌else◌, List, take, Option, Some, None, Result, Ok, Err, Vec}
use Rattle.std.specs.List.{flat_map, range_with_len, slice_get}
use Rattle.link_base.specs.Bytes.{bytes_at}
use Rattle.pdb_msf.specs.BlockFile.{BLOCK_SIZE, blocks_for, entry, stream_count, stream_size, list_of}
use Rattle.pdb_msf.specs.declared.msf.StreamError.{StreamError}
use Rattle.pdb_msf.specs.declared.msf.StreamError.TheVariants.{Missing, Memory}

-- a stream's block, by its index among them
unfoldable pub stream_block : List ℕ → ℕ → ℕ → List ℕ
stream_block file stream index = bytes_at file (BLOCK_SIZE * entry file (list_of file stream + index)) BLOCK_SIZE

-- the first blocks of a stream, one after the other
unfoldable pub joined_blocks : List ℕ → ℕ → ℕ → List ℕ
joined_blocks file stream count = flat_map (stream_block file stream) (range_with_len 0 count)

-- all of its blocks, cut at its size
abbrev pub stream_bytes : List ℕ → ℕ → List ℕ
stream_bytes file stream = take (stream_size file stream) (joined_blocks file stream (blocks_for (stream_size file stream)))

-- a stream, where there is one of that number
abbrev pub stream_of : List ℕ → ℕ → Option (List ℕ)
stream_of file stream = if nat_lt stream (stream_count file) then Some (stream_bytes file stream) else None

abbrev pub stream_len : List ℕ → ℕ → Option ℕ
stream_len file stream = if nat_lt stream (stream_count file) then Some (stream_size file stream) else None

-- a byte of a stream, where the stream is there and has it
abbrev pub byte_of : Option (List ℕ) → ℕ → Option ℕ
byte_of None offset = None
byte_of (Some bytes) offset = slice_get bytes offset

abbrev pub stream_byte : List ℕ → ℕ → ℕ → Option ℕ
stream_byte file stream offset = byte_of (stream_of file stream) offset

-- a stream is given where there is one, and is missing where there is none, or memory is wanting
abbrev pub GivesStream : {A : Type 0} → Option (List ℕ) → Result (Vec ℕ A) StreamError → Type 0
GivesStream None answer = answer ≡ Err Missing
GivesStream (Some bytes) (Ok out) = out.items ≡ bytes
GivesStream (Some bytes) (Err error) = error ≡ Memory
