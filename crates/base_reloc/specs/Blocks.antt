-- Base relocation blocks (PE Format, "The .reloc Section (Image Only)"): which fields of the memory they list, and
-- what a field is raised to.
use Rattle.std.specs.Prelude.{◌≡◌, ℕ, zero, suc, ◌+◌, ◌-◌, ◌*◌, ◌/◌, ◌%◌, ◌^◌, Bool, true, false, ◌&&◌, ◌==◌, nat_le, if◌then◌else◌, List, [], ◌∷◌, ◌++◌, length, take, drop, fold, Option, Some, None, Result, IsOk, IsErrAnd}
use Rattle.byteorder.specs.Endian.{little_bytes}
use Rattle.link_base.specs.Bytes.{u16_at, u32_at, number_at}
use Rattle.link_base.specs.PeFormat.{PAGE_SIZE, REL_BASED_ABSOLUTE, REL_BASED_HIGHLOW, REL_BASED_DIR64}
use Rattle.base_reloc.specs.declared.field.BaseField.{BaseField}
use Rattle.base_reloc.specs.declared.entry.Entry.{Entry}
use Rattle.base_reloc.specs.declared.entry.Entry.TheVariants.{Skip, Field, Malformed}
use Rattle.base_reloc.specs.declared.loading.BadBlocks.{BadBlocks}

-- ---- an entry

-- the bytes of a field
abbrev pub width_of : BaseField → ℕ
width_of field = if field.wide then 8 else 4

-- an entry is a type in the upper four bits, for nothing, a field of four bytes or one of eight, and an offset in the page
abbrev pub entry_of : ℕ → ℕ → ℕ → Entry
entry_of memory_size page word =
    let rva = page + word % PAGE_SIZE in
    let kind = word / PAGE_SIZE in
    if kind == REL_BASED_ABSOLUTE then Skip
    else (if (kind == REL_BASED_HIGHLOW) && nat_le (rva + 4) memory_size then Field (record { rva = rva; wide = false })
    else (if (kind == REL_BASED_DIR64) && nat_le (rva + 8) memory_size then Field (record { rva = rva; wide = true })
    else Malformed))

-- ---- the walk over the blocks

-- what a walk gives: the fields in order, or the offset of the first malformed block or entry
pub data Walk : Type 0 where
  Fields : List BaseField → Walk
  MalformedAt : ℕ → Walk

abbrev pub with_entry : ℕ → Entry → Walk → Walk
with_entry offset Skip rest = rest
with_entry offset (Field field) (Fields fields) = Fields (field ∷ fields)
with_entry offset (Field field) (MalformedAt other) = MalformedAt other
with_entry offset Malformed rest = MalformedAt offset

abbrev pub then_walk : Walk → Walk → Walk
then_walk (Fields first) (Fields second) = Fields (first ++ second)
then_walk (Fields first) (MalformedAt offset) = MalformedAt offset
then_walk (MalformedAt offset) second = MalformedAt offset

-- the `count` entries from `offset` on
unfoldable pub entries_at : ℕ → ℕ → List ℕ → ℕ → ℕ → Walk
entries_at memory_size page blocks offset zero = Fields []
entries_at memory_size page blocks offset (suc count) =
    with_entry offset (entry_of memory_size page (u16_at blocks offset)) (entries_at memory_size page blocks (offset + 2) count)

-- a block begins with the RVA of its page and its size
abbrev pub block_page : List ℕ → ℕ → ℕ
block_page blocks offset = u32_at blocks offset

abbrev pub block_size : List ℕ → ℕ → ℕ
block_size blocks offset = u32_at blocks (offset + 4)

-- the size of a block is at least that of its header, a multiple of four, and not above what is left
abbrev pub is_block_size : ℕ → ℕ → Bool
is_block_size size left = nat_le 8 size && ((size % 4 == 0) && nat_le size left)

-- a block stands at an offset: its header is there, and its size is one that a block can have
abbrev pub has_block : List ℕ → ℕ → Bool
has_block blocks offset =
    nat_le 8 (length blocks - offset) && is_block_size (block_size blocks offset) (length blocks - offset)

-- the entries of the block at an offset
unfoldable pub block_entries : ℕ → List ℕ → ℕ → Walk
block_entries memory_size blocks offset =
    entries_at memory_size (block_page blocks offset) blocks (offset + 8) ((block_size blocks offset - 8) / 2)

-- the blocks from `offset` on, of which there are at most `most`
unfoldable pub blocks_at : ℕ → ℕ → List ℕ → ℕ → Walk
blocks_at zero memory_size blocks offset = Fields []
blocks_at (suc most) memory_size blocks offset =
    if length blocks - offset == 0 then Fields []
    else (if has_block blocks offset then then_walk (block_entries memory_size blocks offset) (blocks_at most memory_size blocks (offset + block_size blocks offset))
    else MalformedAt offset)

abbrev pub walk_of : ℕ → List ℕ → Walk
walk_of memory_size blocks = blocks_at (length blocks + 1) memory_size blocks 0

-- the fields of a walk: none where a block is malformed
abbrev pub walked_fields : Walk → List BaseField
walked_fields (Fields fields) = fields
walked_fields (MalformedAt offset) = []

-- where a walk met a malformed block or entry
abbrev pub malformed_place : Walk → Option ℕ
malformed_place (Fields fields) = None
malformed_place (MalformedAt offset) = Some offset

-- the answer to a walk: a refusal exactly where it is malformed, with the place
abbrev pub IsAnswer : Walk → Result (Unit {0}) BadBlocks → Type 0
IsAnswer (Fields fields) answer = IsOk answer
IsAnswer (MalformedAt offset) answer = IsErrAnd answer (λ bad. bad.at ≡ offset)

-- ---- the fields raised

-- a field raised by delta, modulo its width
abbrev pub raised : ℕ → List ℕ → BaseField → List ℕ
raised delta memory field =
    take field.rva memory
    ++ (little_bytes (width_of field) ((number_at (width_of field) memory field.rva + delta) % 2 ^ (8 * width_of field))
    ++ drop (field.rva + width_of field) memory)

-- the field of an entry raised, where it lists one
abbrev pub entry_raised : ℕ → List ℕ → Entry → List ℕ
entry_raised delta memory Skip = memory
entry_raised delta memory (Field field) = raised delta memory field
entry_raised delta memory Malformed = memory

-- each field raised, in order
abbrev pub raised_all : ℕ → List ℕ → List BaseField → List ℕ
raised_all delta memory fields = fold (raised delta) memory fields
