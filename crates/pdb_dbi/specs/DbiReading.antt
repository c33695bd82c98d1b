-- The contributions of a program database (LLVM, "The PDB DBI (Debug Info) Stream"; which streams are refused is own). A
-- file that has no such stream is read as if it were empty.
use Rattle.std.specs.Prelude.{◌≡◌, ℕ, ◌+◌, ◌-◌, ◌*◌, ◌/◌, ◌%◌, Bool, ◌&&◌, ◌==◌, nat_le, if◌then◌else◌, List, [], map, length, Option, Some, None, unwrap_or, Result, Ok, Err, Vec}
use Rattle.std.specs.List.{range_with_len}
use Rattle.link_base.specs.Bytes.{u32_at, has_bytes, bytes_at, field}
use Rattle.link_base.specs.declared.kinds.database.PdbKind.TheVariants as bad
use Rattle.pdb_msf.specs.Streams.{stream_of}
use Rattle.pdb_dbi.specs.declared.rows.Contribution.{Contribution}
use Rattle.pdb_dbi.specs.declared.form.Form.{Form}
use Rattle.pdb_dbi.specs.declared.reading.DbiError.{DbiError}
use Rattle.pdb_dbi.specs.declared.reading.DbiError.TheVariants.{Kind, Memory}
use Rattle.pdb_dbi.specs.Contribution.{form_of_version, record_size, contribution_at}
use Rattle.pdb_dbi.specs.DbiStream.{DBI_SIGNATURE}

abbrev pub DBI_STREAM : ℕ
DBI_STREAM = 3

abbrev pub DBI_HEADER_SIZE : ℕ
DBI_HEADER_SIZE = 64

-- ---- the part of contributions

-- the header is there, and begins as one
unfoldable pub has_header : List ℕ → Bool
has_header stream = nat_le DBI_HEADER_SIZE (length stream) && (u32_at stream 0 == DBI_SIGNATURE)

-- behind the header and the part of modules
unfoldable pub part_place : List ℕ → ℕ
part_place stream = DBI_HEADER_SIZE + u32_at stream 24

unfoldable pub part_size : List ℕ → ℕ
part_size stream = u32_at stream 28

-- the part, where the header and all of the part are there
unfoldable pub part_of : List ℕ → Option (List ℕ)
part_of stream =
    if has_header stream && has_bytes stream (part_place stream) (part_size stream) then Some (bytes_at stream (part_place stream) (part_size stream)) else None

-- ---- its records

-- the form of its records, by its first word
abbrev pub form_by : Option ℕ → Option Form
form_by None = None
form_by (Some version) = form_of_version version

abbrev pub form_of : List ℕ → Option Form
form_of part = form_by (field 4 part 0)

-- what stands behind the first word is so many records, and no part of one
abbrev pub has_whole_records : Form → List ℕ → Bool
has_whole_records form part = (length part - 4) % record_size form == 0

-- a record, by its index
unfoldable pub record_in : Form → List ℕ → ℕ → Contribution
record_in form part index = contribution_at form part (4 + record_size form * index)

unfoldable pub records_of : Form → List ℕ → List Contribution
records_of form part = map (record_in form part) (range_with_len 0 ((length part - 4) / record_size form))

abbrev pub records_by : Option Form → List ℕ → Option (List Contribution)
records_by None part = None
records_by (Some form) part = if has_whole_records form part then Some (records_of form part) else None

-- ---- the contributions

abbrev pub contributions_by : Option (List ℕ) → Option (List Contribution)
contributions_by None = None
contributions_by (Some part) = records_by (form_of part) part

-- of a stream, where it is well formed
abbrev pub contributions_in : List ℕ → Option (List Contribution)
contributions_in stream = contributions_by (part_of stream)

-- of a multi-stream file
abbrev pub contributions_of : List ℕ → Option (List Contribution)
contributions_of file = contributions_in (unwrap_or (stream_of file DBI_STREAM) [])

-- they are given where the stream is well formed, and it is refused where it is not, or memory is wanting
abbrev pub GivesContributions : {A : Type 0} → Option (List Contribution) → Result (Vec Contribution A) DbiError → Type 0
GivesContributions (Some list) (Ok out) = out.items ≡ list
GivesContributions None (Ok out) = ⊥
GivesContributions (Some list) (Err (Kind kind)) = ⊥
GivesContributions None (Err (Kind kind)) = kind ≡ bad.Header
GivesContributions list (Err Memory) = Unit {0}
