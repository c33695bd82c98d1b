-- The headers of an image, byte by byte (PE Format, "MS-DOS Stub (Image Only)" to "Section Table (Section
-- Headers)"; the linker version, the time and the order of sums are own).
use Rattle.std.specs.Prelude.{ℕ, ◌+◌, ◌-◌, ◌*◌, cond, if◌then◌else◌, List, [], ◌∷◌, ◌++◌, length, take, replicate, sum_by}
use Rattle.std.specs.Int.{next_multiple_of}
use Rattle.std.specs.List.{flat_map}
use Rattle.link_base.specs.declared.numbers.LeNumber.TheVariants.{U8, U16, U32, U64}
use Rattle.link_base.specs.Bytes.{has_flag}
use Rattle.link_base.specs.Fields.{fields}
use Rattle.link_base.specs.PeFormat.{PAGE_SIZE, FILE_ALIGNMENT, PE_HEADER_OFFSET, SIZEOF_OPTIONAL_HEADER, SECTION_HEADERS_OFFSET, SIZEOF_SECTION_HEADER, NUMBEROF_DIRECTORY_ENTRIES, FILE_MACHINE_AMD64, NT_OPTIONAL_HDR64_MAGIC, DOS_SIGNATURE, NT_SIGNATURE, FILE_RELOCS_STRIPPED, FILE_EXECUTABLE_IMAGE, FILE_LARGE_ADDRESS_AWARE, FILE_DLL, SCN_CNT_CODE, SCN_CNT_UNINITIALIZED_DATA}
use Rattle.image_writer.specs.declared.headers.Headers.{Headers}
use Rattle.image_writer.specs.declared.headers.SectionHeader.{SectionHeader}

-- ---- sums over the sections

abbrev pub size_of_code : List SectionHeader → ℕ
size_of_code rows = sum_by (λ row. if has_flag row.flags SCN_CNT_CODE then row.raw_size else 0) rows

abbrev pub size_of_initialized_data : List SectionHeader → ℕ
size_of_initialized_data rows = sum_by (λ row. if has_flag row.flags SCN_CNT_CODE then 0 else row.raw_size) rows

abbrev pub size_of_uninitialized_data : List SectionHeader → ℕ
size_of_uninitialized_data rows =
    sum_by (λ row. if has_flag row.flags SCN_CNT_UNINITIALIZED_DATA then next_multiple_of row.size FILE_ALIGNMENT else 0) rows

-- the RVA of the first section with code, or 0
abbrev pub base_of_code : List SectionHeader → ℕ
base_of_code [] = 0
base_of_code (row ∷ rows) = if has_flag row.flags SCN_CNT_CODE then row.rva else base_of_code rows

abbrev pub size_of_headers : ℕ → ℕ
size_of_headers count = next_multiple_of (SECTION_HEADERS_OFFSET + SIZEOF_SECTION_HEADER * count) FILE_ALIGNMENT

-- ---- the parts, in their order

abbrev pub dos_header : List ℕ
dos_header = fields (U16 DOS_SIGNATURE ∷ []) ++ (replicate 58 0 ++ fields (U32 PE_HEADER_OFFSET ∷ []))

abbrev pub characteristics : Headers → ℕ
characteristics f =
    FILE_EXECUTABLE_IMAGE + cond f.fixed FILE_RELOCS_STRIPPED 0 + cond f.large FILE_LARGE_ADDRESS_AWARE 0 + cond f.dll FILE_DLL 0

abbrev pub file_header : Headers → ℕ → List ℕ
file_header f count =
    fields (U32 NT_SIGNATURE ∷ U16 FILE_MACHINE_AMD64 ∷ U16 count ∷ U32 f.time ∷ U32 0 ∷ U32 0 ∷ U16 SIZEOF_OPTIONAL_HEADER ∷ U16 (characteristics f) ∷ [])

abbrev pub standard_fields : Headers → List SectionHeader → List ℕ
standard_fields f rows =
    fields (U16 NT_OPTIONAL_HDR64_MAGIC ∷ U8 14 ∷ U8 0 ∷ U32 (size_of_code rows) ∷ U32 (size_of_initialized_data rows) ∷ U32 (size_of_uninitialized_data rows) ∷ U32 f.entry ∷ U32 (base_of_code rows) ∷ [])

abbrev pub version_fields : Headers → List ℕ
version_fields f =
    fields (U64 f.base ∷ U32 PAGE_SIZE ∷ U32 FILE_ALIGNMENT ∷ U16 6 ∷ U16 0 ∷ U16 f.version.0 ∷ U16 f.version.1 ∷ U16 6 ∷ U16 0 ∷ U32 0 ∷ [])

abbrev pub size_fields : Headers → ℕ → ℕ → List ℕ
size_fields f count image_size =
    fields (U32 image_size ∷ U32 (size_of_headers count) ∷ U32 0 ∷ U16 f.subsystem ∷ U16 f.flags ∷ [])

abbrev pub reserve_fields : Headers → List ℕ
reserve_fields f =
    fields (U64 f.stack.0 ∷ U64 f.stack.1 ∷ U64 f.heap.0 ∷ U64 f.heap.1 ∷ U32 0 ∷ U32 NUMBEROF_DIRECTORY_ENTRIES ∷ [])

abbrev pub directory_fields : ℕ × ℕ → List ℕ
directory_fields directory = fields (U32 directory.0 ∷ U32 directory.1 ∷ [])

-- the first eight bytes of the name, with NULs after a shorter one
abbrev pub short_name : List ℕ → List ℕ
short_name name = take 8 name ++ replicate (8 - length name) 0

abbrev pub section_header : SectionHeader → List ℕ
section_header row =
    short_name row.name
    ++ fields (U32 row.size ∷ U32 row.rva ∷ U32 row.raw_size ∷ U32 row.file_offset ∷ U32 0 ∷ U32 0 ∷ U16 0 ∷ U16 0 ∷ U32 row.flags ∷ [])

-- everything before the section headers
abbrev pub fixed_headers : Headers → List SectionHeader → ℕ → List ℕ
fixed_headers f rows image_size =
    dos_header
    ++ (file_header f (length rows)
    ++ (standard_fields f rows
    ++ (version_fields f ++ (size_fields f (length rows) image_size ++ (reserve_fields f ++ flat_map directory_fields f.directories)))))

-- the list with zeros after it, up to a length
abbrev pub padded : ℕ → List ℕ → List ℕ
padded len bytes = bytes ++ replicate (len - length bytes) 0

-- the whole header table, SizeOfHeaders bytes long
unfoldable pub header_table : Headers → List SectionHeader → ℕ → List ℕ
header_table f rows image_size =
    padded (size_of_headers (length rows)) (fixed_headers f rows image_size ++ flat_map section_header rows)
