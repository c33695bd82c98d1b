-- The stream of debug information (LLVM, "The PDB DBI (Debug Info) Stream"). Which streams it names is own.
use Rattle.std.specs.Prelude.{ℕ, ◌+◌, ◌*◌, List, [], ◌∷◌, ◌++◌, length, replicate, sum_by}
use Rattle.link_base.specs.Fields.{fields}
use Rattle.link_base.specs.PeFormat.{FILE_MACHINE_AMD64}
use Rattle.link_base.specs.declared.numbers.LeNumber.TheVariants.{U16, U32}
use Rattle.pdb_dbi.specs.declared.rows.Contribution.{Contribution}
use Rattle.pdb_dbi.specs.declared.rows.ModuleName.{ModuleName}
use Rattle.pdb_dbi.specs.Contribution.{contribution_part}
use Rattle.pdb_dbi.specs.ModuleInfo.{module_part, module_size}
use Rattle.pdb_dbi.specs.SectionMap.{section_map}

-- the greatest size of a stream that is written (own)
abbrev pub STREAM_LIMIT : ℕ
STREAM_LIMIT = 1073741824

-- ---- numbers of the format

abbrev pub DBI_SIGNATURE : ℕ
DBI_SIGNATURE = 0xFFFFFFFF

abbrev pub DBI_V70 : ℕ
DBI_V70 = 19990903

-- the age of the file, which is that of the image's debug data
abbrev pub AGE : ℕ
AGE = 1

-- the streams of globals, publics, symbol records and section headers
abbrev pub GLOBALS_STREAM : ℕ
GLOBALS_STREAM = 5

abbrev pub PUBLICS_STREAM : ℕ
PUBLICS_STREAM = 6

abbrev pub RECORDS_STREAM : ℕ
RECORDS_STREAM = 7

abbrev pub HEADERS_STREAM : ℕ
HEADERS_STREAM = 8

-- version 14.0 of the tools, in the new form
abbrev pub BUILD_NUMBER : ℕ
BUILD_NUMBER = 0x8E00

-- no stream
abbrev pub NO_STREAM : ℕ
NO_STREAM = 0xFFFF

-- the bytes of the numbers of optional streams
abbrev pub OPTIONAL_STREAMS_SIZE : ℕ
OPTIONAL_STREAMS_SIZE = 22

-- ---- the header

unfoldable pub header_front : List ℕ
header_front =
    fields (U32 DBI_SIGNATURE ∷ U32 DBI_V70 ∷ U32 AGE ∷ U16 GLOBALS_STREAM ∷ U16 BUILD_NUMBER ∷ U16 PUBLICS_STREAM ∷ U16 0 ∷ U16 RECORDS_STREAM ∷ U16 0 ∷ [])

-- the sizes of the parts: modules, contributions, section map, files, type servers; a number that is not used; the sizes of
-- the numbers of optional streams, and of the names for edit and continue
unfoldable pub header_sizes : ℕ → ℕ → ℕ → ℕ → List ℕ
header_sizes modules contributions sections files =
    fields (U32 modules ∷ U32 contributions ∷ U32 sections ∷ U32 files ∷ U32 0 ∷ U32 0 ∷ U32 OPTIONAL_STREAMS_SIZE ∷ U32 0 ∷ [])

-- flags, the machine, and four bytes of 0
unfoldable pub header_end : List ℕ
header_end = fields (U16 0 ∷ U16 FILE_MACHINE_AMD64 ∷ U32 0 ∷ [])

abbrev pub dbi_header : ℕ → ℕ → ℕ → ℕ → List ℕ
dbi_header modules contributions sections files = header_front ++ (header_sizes modules contributions sections files ++ header_end)

-- ---- the last parts

-- the number of modules, of source files, and for each module the index of its first file and their number
unfoldable pub file_part : List ModuleName → List ℕ
file_part modules = fields (U16 (length modules) ∷ U16 0 ∷ []) ++ replicate (4 * length modules) 0

-- eleven streams, of which the one of section headers is there
unfoldable pub optional_streams : List ℕ
optional_streams =
    fields (U16 NO_STREAM ∷ U16 NO_STREAM ∷ U16 NO_STREAM ∷ U16 NO_STREAM ∷ U16 NO_STREAM ∷ U16 HEADERS_STREAM ∷ U16 NO_STREAM ∷ U16 NO_STREAM ∷ U16 NO_STREAM ∷ U16 NO_STREAM ∷ U16 NO_STREAM ∷ [])

-- ---- the whole

abbrev pub dbi_of_parts : List ℕ → List ℕ → List ℕ → List ℕ → List ℕ
dbi_of_parts modules contributions sections files =
    dbi_header (length modules) (length contributions) (length sections) (length files)
    ++ (modules ++ (contributions ++ (sections ++ (files ++ optional_streams))))

abbrev pub dbi_of : List ModuleName → List Contribution → List ℕ → List ℕ
dbi_of modules list headers =
    dbi_of_parts (module_part list modules) (contribution_part list) (section_map headers) (file_part modules)

-- its size, by the names of the modules, the number of contributions and that of sections
abbrev pub dbi_size : List ModuleName → ℕ → ℕ → ℕ
dbi_size modules contributions sections =
    64 + (sum_by module_size modules + ((4 + 32 * contributions) + ((4 + 20 * (sections + 1)) + ((4 + 4 * length modules) + OPTIONAL_STREAMS_SIZE))))
