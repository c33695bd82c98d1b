-- An image as it stands in memory (PE Format; which loaders refuse what, and when, is own). In this order: where the
-- headers stand and what their fields are; the twelve tests, each a Bool, and the kind of the first that fails; the memory
-- as copied from the file, byte by byte; the fields that base relocations raise; the memory at a base; and which files have
-- no byte that loading leaves out.
use Rattle.std.specs.Prelude.{◌≡◌, ◌≤◌, ℕ, zero, suc, ◌+◌, ◌-◌, ◌*◌, ◌%◌, ◌^◌, Bool, true, false, ◌&&◌, ◌||◌, ◌==◌, nat_le, nat_lt, min, if◌then◌else◌, List, [], ◌∷◌, length, map, take, drop, slice_index, Option, Some, None, is_none}
use Rattle.std.specs.List.{range_with_len}
use Rattle.link_base.specs.Bytes.{u16_at, u32_at, u64_at, has_bytes, bytes_at, has_flag, all_below, first_below}
use Rattle.link_base.specs.PeFormat.{PAGE_SIZE, FILE_ALIGNMENT, SIZEOF_OPTIONAL_HEADER, SIZEOF_SECTION_HEADER, NUMBEROF_DIRECTORY_ENTRIES, FILE_MACHINE_AMD64, NT_OPTIONAL_HDR64_MAGIC, DOS_SIGNATURE, NT_SIGNATURE, FILE_RELOCS_STRIPPED, FILE_LARGE_ADDRESS_AWARE, DIRECTORY_ENTRY_BASERELOC}
use Rattle.link_base.specs.Limits.{IMAGE_LIMIT}
use Rattle.link_base.specs.declared.kinds.image.ImageKind.{ImageKind}
use Rattle.link_base.specs.declared.kinds.image.ImageKind.TheVariants as bad
use Rattle.address_layout.specs.declared.base.BaseRule.{BaseRule}
use Rattle.address_layout.specs.PermittedBase.{is_permitted}
use Rattle.base_reloc.specs.Blocks.{Walk, Fields, MalformedAt, walk_of, walked_fields, raised_all}

-- ---- the headers' places

unfoldable pub signature_at : List ℕ → ℕ
signature_at image = u32_at image 60

abbrev pub file_header_at : List ℕ → ℕ
file_header_at image = signature_at image + 4

abbrev pub optional_at : List ℕ → ℕ
optional_at image = signature_at image + 24

-- ---- the headers' fields

unfoldable pub section_count : List ℕ → ℕ
section_count image = u16_at image (file_header_at image + 2)

unfoldable pub file_characteristics : List ℕ → ℕ
file_characteristics image = u16_at image (file_header_at image + 18)

unfoldable pub image_base : List ℕ → ℕ
image_base image = u64_at image (optional_at image + 24)

unfoldable pub size_of_image : List ℕ → ℕ
size_of_image image = u32_at image (optional_at image + 56)

unfoldable pub headers_size : List ℕ → ℕ
headers_size image = u32_at image (optional_at image + 60)

-- a data directory: its RVA and its size
unfoldable pub directory_rva : List ℕ → ℕ → ℕ
directory_rva image number = u32_at image (optional_at image + 112 + 8 * number)

unfoldable pub directory_size : List ℕ → ℕ → ℕ
directory_size image number = u32_at image (optional_at image + 116 + 8 * number)

-- the header of a section, by its index from 0
abbrev pub section_at : List ℕ → ℕ → ℕ
section_at image index = optional_at image + SIZEOF_OPTIONAL_HEADER + SIZEOF_SECTION_HEADER * index

unfoldable pub virtual_size : List ℕ → ℕ → ℕ
virtual_size image index = u32_at image (section_at image index + 8)

unfoldable pub virtual_address : List ℕ → ℕ → ℕ
virtual_address image index = u32_at image (section_at image index + 12)

unfoldable pub raw_size : List ℕ → ℕ → ℕ
raw_size image index = u32_at image (section_at image index + 16)

unfoldable pub raw_offset : List ℕ → ℕ → ℕ
raw_offset image index = u32_at image (section_at image index + 20)

abbrev pub is_fixed : List ℕ → Bool
is_fixed image = has_flag (file_characteristics image) FILE_RELOCS_STRIPPED

abbrev pub is_large : List ℕ → Bool
is_large image = has_flag (file_characteristics image) FILE_LARGE_ADDRESS_AWARE

-- ---- the tests, in the order of their refusals

-- the DOS header's length, and where the PE signature's offset (e_lfanew) stands in it
abbrev pub dos_header_size : ℕ
dos_header_size = 64

unfoldable pub has_dos_header : List ℕ → Bool
has_dos_header image = has_bytes image 0 dos_header_size && (u16_at image 0 == DOS_SIGNATURE)

unfoldable pub has_signature : List ℕ → Bool
has_signature image = has_bytes image (signature_at image) 4 && (u32_at image (signature_at image) == NT_SIGNATURE)

unfoldable pub has_machine : List ℕ → Bool
has_machine image = has_bytes image (file_header_at image) 2 && (u16_at image (file_header_at image) == FILE_MACHINE_AMD64)

unfoldable pub has_optional_header : List ℕ → Bool
has_optional_header image =
    has_bytes image (optional_at image) SIZEOF_OPTIONAL_HEADER && (u16_at image (file_header_at image + 16) == SIZEOF_OPTIONAL_HEADER)

unfoldable pub has_magic : List ℕ → Bool
has_magic image = u16_at image (optional_at image) == NT_OPTIONAL_HDR64_MAGIC

unfoldable pub has_alignments : List ℕ → Bool
has_alignments image = (u32_at image (optional_at image + 32) == PAGE_SIZE) && (u32_at image (optional_at image + 36) == FILE_ALIGNMENT)

unfoldable pub has_directories : List ℕ → Bool
has_directories image = u32_at image (optional_at image + 108) == NUMBEROF_DIRECTORY_ENTRIES

unfoldable pub has_size : List ℕ → Bool
has_size image = nat_lt 0 (size_of_image image) && nat_le (size_of_image image) IMAGE_LIMIT

unfoldable pub has_headers : List ℕ → Bool
has_headers image =
    nat_le (section_at image (section_count image)) (headers_size image)
    && (nat_le (headers_size image) (length image) && nat_le (headers_size image) (size_of_image image))

-- where what stands before a section ends: the section before it, or the headers
abbrev pub section_floor : List ℕ → ℕ → ℕ
section_floor image zero = headers_size image
section_floor image (suc index) = virtual_address image index + virtual_size image index

abbrev pub is_section_placed : List ℕ → ℕ → Bool
is_section_placed image index =
    (virtual_address image index % PAGE_SIZE == 0)
    && (nat_le (section_floor image index) (virtual_address image index)
    && nat_le (virtual_address image index + virtual_size image index) (size_of_image image))

unfoldable pub has_sections : List ℕ → Bool
has_sections image = all_below (section_count image) (is_section_placed image)

-- a range of no bytes leaves nothing
abbrev pub is_section_in_file : List ℕ → ℕ → Bool
is_section_in_file image index =
    (raw_size image index == 0) || nat_le (raw_offset image index + raw_size image index) (length image)

unfoldable pub has_raw_bytes : List ℕ → Bool
has_raw_bytes image = all_below (section_count image) (is_section_in_file image)

-- ---- the memory before fields are raised

-- how many bytes of a section come from the file
abbrev pub copied_len : List ℕ → ℕ → ℕ
copied_len image index = min (raw_size image index) (virtual_size image index)

abbrev pub is_copied_into : List ℕ → ℕ → ℕ → Bool
is_copied_into image rva index =
    nat_le (virtual_address image index) rva && nat_lt rva (virtual_address image index + copied_len image index)

abbrev pub section_byte : List ℕ → ℕ → Option ℕ → ℕ
section_byte image rva None = 0
section_byte image rva (Some index) = slice_index image (raw_offset image index + (rva - virtual_address image index))

-- the byte at an RVA: of the headers, of a section's raw bytes, or zero
unfoldable pub copied_byte : List ℕ → ℕ → ℕ
copied_byte image rva =
    if nat_lt rva (headers_size image) then slice_index image rva
    else section_byte image rva (first_below (section_count image) (is_copied_into image rva))

unfoldable pub copied : List ℕ → List ℕ
copied image = map (copied_byte image) (range_with_len 0 (size_of_image image))

-- ---- the fields that are raised: those of the base relocation directory

unfoldable pub base_walk : List ℕ → Walk
base_walk image =
    walk_of (size_of_image image) (bytes_at (copied image) (directory_rva image DIRECTORY_ENTRY_BASERELOC) (directory_size image DIRECTORY_ENTRY_BASERELOC))

abbrev pub is_walked : Walk → Bool
is_walked (Fields fields) = true
is_walked (MalformedAt offset) = false

unfoldable pub has_blocks : List ℕ → Bool
has_blocks image =
    (directory_size image DIRECTORY_ENTRY_BASERELOC == 0)
    || (nat_le (directory_rva image DIRECTORY_ENTRY_BASERELOC + directory_size image DIRECTORY_ENTRY_BASERELOC) (size_of_image image) && is_walked (base_walk image))

-- ---- the refusal, and the memory

-- the kind beside the first test that fails
abbrev pub first_failed : List (ImageKind × Bool) → Option ImageKind
first_failed [] = None
first_failed (test ∷ tests) = if test.1 then first_failed tests else Some test.0

-- the kinds in their order, each beside its test
abbrev pub image_tests : List ℕ → List (ImageKind × Bool)
image_tests image =
    ((bad.Dos, has_dos_header image)
    ∷ (bad.Signature, has_signature image)
    ∷ (bad.Machine, has_machine image)
    ∷ (bad.OptionalSize, has_optional_header image)
    ∷ (bad.Magic, has_magic image)
    ∷ (bad.Alignment, has_alignments image)
    ∷ (bad.Directories, has_directories image)
    ∷ (bad.ImageSize, has_size image)
    ∷ (bad.Headers, has_headers image)
    ∷ (bad.Sections, has_sections image)
    ∷ (bad.Raw, has_raw_bytes image)
    ∷ (bad.Blocks, has_blocks image)
    ∷ [])

-- what is wrong with the headers, by the first nine tests, and with the optional header, by five of them
unfoldable pub header_fault : List ℕ → Option ImageKind
header_fault image = first_failed (take 9 (image_tests image))

unfoldable pub optional_fault : List ℕ → Option ImageKind
optional_fault image = first_failed (take 5 (drop 4 (image_tests image)))

-- what is wrong before the blocks of base relocations are read, by the first eleven
unfoldable pub file_fault : List ℕ → Option ImageKind
file_fault image = first_failed (take 11 (image_tests image))

unfoldable pub image_fault : List ℕ → Option ImageKind
image_fault image = first_failed (image_tests image)

-- how much a base lies above another, modulo 2^64
abbrev pub base_delta : ℕ → ℕ → ℕ
base_delta own base = (base + 2 ^ 64 - own) % 2 ^ 64

-- what the headers say of the base
abbrev pub base_rule : List ℕ → BaseRule
base_rule image = record { base = image_base image; fixed = is_fixed image; large = is_large image }

-- the memory of an image at a base, where nothing refuses it and the base is permitted
unfoldable pub loaded : List ℕ → ℕ → Option (List ℕ)
loaded image base =
    if is_none (image_fault image) && is_permitted (base_rule image) (size_of_image image) base
    then Some (raised_all (base_delta (image_base image) base) (copied image) (walked_fields (base_walk image)))
    else None

-- ---- what loading leaves out

-- the file ends with the last section's raw bytes, or with the headers where there is no section with any
abbrev pub file_end : List ℕ → ℕ → ℕ
file_end image zero = headers_size image
file_end image (suc index) =
    if raw_size image index == 0 then file_end image index else raw_offset image index + raw_size image index

abbrev pub is_copied_from : List ℕ → ℕ → ℕ → Bool
is_copied_from image offset index =
    nat_le (raw_offset image index) offset && nat_lt offset (raw_offset image index + copied_len image index)

-- every byte of the file that loading does not copy is zero
pub record HasZeroSlack (image : List ℕ) : Type 0 where
  pub ends : length image ≡ file_end image (section_count image)
  pub zero_elsewhere : (offset : ℕ) → headers_size image ≤ offset → first_below (section_count image) (is_copied_from image offset) ≡ None → slice_index image offset ≡ 0
