-- The sizes of the parts of the stream.
use Rattle.std.proofs.Common.{◌≡◌, ℕ, ◌+◌, ◌*◌, ◌%◌, ◌≤◌, List, [], ◌∷◌, ◌++◌, length, replicate, sum_by, refl, arith, length-append}
use Rattle.std.specs.List.{flat_map, range_with_len, enumerate_from}
use Rattle.std.proofs.lemmas.List.FromFn.{length-range_with_len}
use Rattle.std.proofs.lemmas.List.{length-replicate}
use Rattle.std.proofs.lemmas.List.Sums.{sum_by-cons}
use Rattle.link_base.specs.Bytes.{number_bytes}
use Rattle.link_base.specs.Fields.{fields}
use Rattle.link_base.specs.declared.numbers.LeNumber.TheVariants.{U16, U32}
use Rattle.link_base.proofs.ListLemmas.{length_each}
use Rattle.pdb_dbi.specs.declared.rows.Contribution.{Contribution}
use Rattle.pdb_dbi.specs.declared.rows.ModuleName.{ModuleName}
use Rattle.pdb_dbi.specs.Contribution.{record_ver60, record_v2, contribution_part}
use Rattle.pdb_dbi.specs.ModuleInfo.{first_of, module_header, module_text, padding, padded, module_record, module_part, text_size, module_size}
use Rattle.pdb_dbi.specs.SectionMap.{SECTION_ABSOLUTE, descriptor, section_descriptor, section_count, section_map}
use Rattle.pdb_dbi.specs.DbiStream.{header_front, header_sizes, header_end, dbi_header, file_part, optional_streams, dbi_of_parts, dbi_of, dbi_size}

-- ---- contributions

pub length_ver60 : (row : Contribution) → length (record_ver60 row) ≡ 28
unfolding record_ver60 number_bytes
length_ver60 row = refl

pub length_v2 : (row : Contribution) → length (record_v2 row) ≡ 32
unfolding record_v2 number_bytes
length_v2 row =
    let both = length-append (record_ver60 row) (fields (U32 row.coff ∷ [])) in
    let first = length_ver60 row in
    omega (arith, both, first)

pub length_contributions : (list : List Contribution) → length (contribution_part list) ≡ 4 + 32 * length list
unfolding contribution_part number_bytes
length_contributions list =
    let rows = length_each record_v2 32 list length_v2 in
    omega (arith, rows)

-- ---- modules

length_text : (names : ModuleName) → length (module_text names) ≡ text_size names
unfolding module_text
length_text names =
    let both = length-append (names.name ++ (0 ∷ [])) (names.file ++ (0 ∷ [])) in
    let first = length-append names.name (0 ∷ []) in
    let second = length-append names.file (0 ∷ []) in
    omega (arith, both, first, second)

length_module_header : (first : Contribution) → length (module_header first) ≡ 64
unfolding module_header number_bytes
length_module_header first =
    let row = length_ver60 first in
    let rest : List ℕ = fields (U16 0 ∷ U16 0xFFFF ∷ U32 0 ∷ U32 0 ∷ U32 0 ∷ U16 0 ∷ U16 0 ∷ U32 0 ∷ U32 0 ∷ U32 0 ∷ []) in
    let both = length-append (record_ver60 first) rest in
    omega (arith, row, both)

length_padded : (bytes : List ℕ) → length (padded bytes) ≡ length bytes + padding (length bytes)
length_padded bytes =
    let both = length-append bytes (replicate (padding (length bytes)) 0) in
    let zeros = length-replicate {A = ℕ} (padding (length bytes)) 0 in
    omega (arith, both, zeros)

length_record : (list : List Contribution) (position : ℕ) (names : ModuleName) → length (module_record list (position, names)) ≡ module_size names
unfolding module_record
length_record list position names =
    let both = length-append (module_header (first_of list position)) (padded (module_text names)) in
    let header = length_module_header (first_of list position) in
    let filled = length_padded (module_text names) in
    let text = length_text names in
    omega (arith, both, header, filled, text)

pub record_aligned : (list : List Contribution) (position : ℕ) (names : ModuleName) → length (module_record list (position, names)) % 4 ≡ 0
record_aligned list position names = let size = length_record list position names in omega (arith, size)

length_records : (list : List Contribution) (start : ℕ) (modules : List ModuleName) → length (flat_map (module_record list) (enumerate_from start modules)) ≡ sum_by module_size modules
length_records list start [] = refl
length_records list start (names ∷ modules) =
    let both = length-append (module_record list (start, names)) (flat_map (module_record list) (enumerate_from (start + 1) modules)) in
    let first = length_record list start names in
    let rest = length_records list (start + 1) modules in
    let more = sum_by-cons module_size names modules in
    omega (arith, both, first, rest, more)

-- ---- the section map

length_descriptor : (flags frame size : ℕ) → length (descriptor flags frame size) ≡ 20
unfolding descriptor number_bytes
length_descriptor flags frame size = refl

length_section : (headers : List ℕ) (index : ℕ) → length (section_descriptor headers index) ≡ 20
unfolding section_descriptor
length_section headers index = length_descriptor _ _ _

pub length_section_map : (headers : List ℕ) → length (section_map headers) ≡ 4 + 20 * (section_count headers + 1)
unfolding section_map number_bytes
length_section_map headers =
    let count = section_count headers in
    let sections = length_each (section_descriptor headers) 20 (range_with_len 0 count) (length_section headers) in
    let many = length-range_with_len 0 count in
    let last = length_descriptor SECTION_ABSOLUTE (count + 1) 0xFFFFFFFF in
    let both = length-append (flat_map (section_descriptor headers) (range_with_len 0 count)) (descriptor SECTION_ABSOLUTE (count + 1) 0xFFFFFFFF) in
    omega (arith, sections, many, last, both)

-- ---- files

pub length_files : (modules : List ModuleName) → length (file_part modules) ≡ 4 + 4 * length modules
unfolding file_part number_bytes
length_files modules =
    let zeros = length-replicate {A = ℕ} (4 * length modules) 0 in
    omega (arith, zeros)

-- ---- the whole

pub length_front : length header_front ≡ 24
unfolding header_front number_bytes
length_front = refl

length_sizes : (modules contributions sections files : ℕ) → length (header_sizes modules contributions sections files) ≡ 32
unfolding header_sizes number_bytes
length_sizes modules contributions sections files = refl

length_end : length header_end ≡ 8
unfolding header_end number_bytes
length_end = refl

pub length_header : (modules contributions sections files : ℕ) → length (dbi_header modules contributions sections files) ≡ 64
length_header modules contributions sections files =
    let outer = length-append header_front (header_sizes modules contributions sections files ++ header_end) in
    let inner = length-append (header_sizes modules contributions sections files) header_end in
    let front = length_front in
    let sizes = length_sizes modules contributions sections files in
    let end = length_end in
    omega (arith, outer, inner, front, sizes, end)

-- no part is longer than the whole
pub record PartsWithin (modules contributions sections files : List ℕ) : Type 0 where
  pub modules_in : 64 + length modules ≤ length (dbi_of_parts modules contributions sections files)
  pub contributions_in : 64 + length modules + length contributions ≤ length (dbi_of_parts modules contributions sections files)

pub parts_within : (modules contributions sections files : List ℕ) → PartsWithin modules contributions sections files
parts_within modules contributions sections files =
    let header = dbi_header (length modules) (length contributions) (length sections) (length files) in
    let rest = sections ++ (files ++ optional_streams) in
    let all = length-append header (modules ++ (contributions ++ rest)) in
    let first = length-append modules (contributions ++ rest) in
    let second = length-append contributions rest in
    let front = length_header (length modules) (length contributions) (length sections) (length files) in
    record { modules_in = omega (arith, all, first, front); contributions_in = omega (arith, all, first, second, front) }

length_optional : length optional_streams ≡ 22
unfolding optional_streams number_bytes
length_optional = refl

pub length_dbi : (modules : List ModuleName) (list : List Contribution) (headers : List ℕ) → length (dbi_of modules list headers) ≡ dbi_size modules (length list) (section_count headers)
length_dbi modules list headers =
    let a = module_part list modules in
    let b = contribution_part list in
    let c = section_map headers in
    let d = file_part modules in
    let header = length_header (length a) (length b) (length c) (length d) in
    let whole = length-append (dbi_header (length a) (length b) (length c) (length d)) (a ++ (b ++ (c ++ (d ++ optional_streams)))) in
    let first = length-append a (b ++ (c ++ (d ++ optional_streams))) in
    let second = length-append b (c ++ (d ++ optional_streams)) in
    let third = length-append c (d ++ optional_streams) in
    let fourth = length-append d optional_streams in
    let last = length_optional in
    let modules_are = length_records list 0 modules in
    let contributions_are = length_contributions list in
    let sections_are = length_section_map headers in
    let files_are = length_files modules in
    omega (arith, header, whole, first, second, third, fourth, last, modules_are, contributions_are, sections_are, files_are)
