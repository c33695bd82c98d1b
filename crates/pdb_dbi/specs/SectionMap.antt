-- The part that describes the sections of the image (LLVM, "The PDB DBI (Debug Info) Stream", "Section Map Substream", and
-- `OMFSegDescFlags`), by their headers (PE Format, "Section Table (Section Headers)").
use Rattle.std.specs.Prelude.{ℕ, ◌+◌, ◌*◌, ◌/◌, if◌then◌else◌, List, [], ◌∷◌, ◌++◌, length}
use Rattle.std.specs.List.{flat_map, range_with_len}
use Rattle.link_base.specs.Bytes.{u32_at, has_flag}
use Rattle.link_base.specs.Fields.{fields}
use Rattle.link_base.specs.PeFormat.{SIZEOF_SECTION_HEADER, SCN_MEM_READ, SCN_MEM_WRITE, SCN_MEM_EXECUTE}
use Rattle.link_base.specs.declared.numbers.LeNumber.TheVariants.{U16, U32}

-- ---- flags of a descriptor

abbrev pub SECTION_READ : ℕ
SECTION_READ = 0x1

abbrev pub SECTION_WRITE : ℕ
SECTION_WRITE = 0x2

abbrev pub SECTION_EXECUTE : ℕ
SECTION_EXECUTE = 0x4

-- addresses have 32 bits, and the frame is a section's number
abbrev pub SECTION_SELECTOR : ℕ
SECTION_SELECTOR = 0x108

-- addresses have 32 bits and are absolute
abbrev pub SECTION_ABSOLUTE : ℕ
SECTION_ABSOLUTE = 0x208

-- those of a section, by the flags of its header
unfoldable pub descriptor_flags : ℕ → ℕ
descriptor_flags flags =
    SECTION_SELECTOR
    + (if has_flag flags SCN_MEM_READ then SECTION_READ else 0)
    + (if has_flag flags SCN_MEM_WRITE then SECTION_WRITE else 0)
    + (if has_flag flags SCN_MEM_EXECUTE then SECTION_EXECUTE else 0)

-- ---- descriptors

-- flags, overlay, group, frame, no name of the section and of its class, offset, and size
unfoldable pub descriptor : ℕ → ℕ → ℕ → List ℕ
descriptor flags frame size =
    fields (U16 flags ∷ U16 0 ∷ U16 0 ∷ U16 frame ∷ U16 0xFFFF ∷ U16 0xFFFF ∷ U32 0 ∷ U32 size ∷ [])

abbrev pub section_count : List ℕ → ℕ
section_count headers = length headers / SIZEOF_SECTION_HEADER

-- that of a section, by its index: VirtualSize and Characteristics of its header
unfoldable pub section_descriptor : List ℕ → ℕ → List ℕ
section_descriptor headers index =
    descriptor (descriptor_flags (u32_at headers (SIZEOF_SECTION_HEADER * index + 36))) (index + 1) (u32_at headers (SIZEOF_SECTION_HEADER * index + 8))

-- their number twice, one for each section, and one for absolute addresses
unfoldable pub section_map : List ℕ → List ℕ
section_map headers =
    fields (U16 (section_count headers + 1) ∷ U16 (section_count headers + 1) ∷ [])
    ++ (flat_map (section_descriptor headers) (range_with_len 0 (section_count headers))
    ++ descriptor SECTION_ABSOLUTE (section_count headers + 1) 0xFFFFFFFF)
