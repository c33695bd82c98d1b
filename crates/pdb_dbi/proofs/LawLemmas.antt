-- What is read from a stream that was written.
use Rattle.std.proofs.Common.{◌≡◌, ℕ, zero, suc, ◌+◌, ◌-◌, ◌*◌, ◌/◌, ◌%◌, ◌^◌, ◌<◌, ◌≤◌, true, le-leb, eq-eqb, List, [], ◌∷◌, ◌++◌, length, get_or, take, drop, map, All, Option, Some, refl, sym, ap, subst, ◌∙◌, append_assoc, arith}
use Rattle.std.specs.List.{flat_map, range_with_len}
use Rattle.std.proofs.Math.Seq.{drop-cons, take-append_seam}
use Rattle.std.proofs.lemmas.List.{drop_at, drop-drop, length-map, get_or-map, map-id}
use Rattle.std.proofs.Math.Nat.{mul-zero}
use Rattle.std.proofs.lemmas.List.Elements.{All-get_or}
use Rattle.std.proofs.lemmas.List.FromFn.{fill_by_all}
use Rattle.link_base.specs.Bytes.{number_at, number_bytes, has_bytes, bytes_at}
use Rattle.link_base.specs.Fields.{fields}
use Rattle.link_base.proofs.CallerLemmas.{number_at-drop}
use Rattle.link_base.specs.declared.numbers.LeNumber.{LeNumber}
use Rattle.link_base.specs.declared.numbers.LeNumber.TheVariants.{U16, U32}
use Rattle.link_base.proofs.ListLemmas.{length_each}
use Rattle.pdb_dbi.specs.declared.rows.Contribution.{Contribution}
use Rattle.pdb_dbi.specs.declared.rows.ModuleName.{ModuleName}
use Rattle.pdb_dbi.specs.declared.form.Form.{Form}
use Rattle.pdb_dbi.specs.declared.form.Form.TheVariants.{Ver60, V2}
use Rattle.pdb_dbi.specs.Contribution.{FitsFields, SECTION_CONTRIBUTIONS_VER60, SECTION_CONTRIBUTIONS_V2, form_of_version, without_coff, first_part, coff_at, record_size, record_ver60, record_v2, contribution_part, contribution_at}
use Rattle.pdb_dbi.specs.ModuleInfo.{module_part}
use Rattle.pdb_dbi.specs.SectionMap.{section_map}
use Rattle.pdb_dbi.specs.DbiStream.{DBI_SIGNATURE, header_front, header_sizes, header_end, dbi_header, file_part, optional_streams, dbi_of_parts, dbi_of}
use Rattle.pdb_dbi.specs.DbiReading.{has_header, part_place, part_size, part_of, form_of, record_in, records_of, records_by, contributions_by, contributions_in}
use Rattle.pdb_dbi.proofs.FieldLemmas.{number_behind, field_read}
use Rattle.pdb_dbi.proofs.SizeLemmas.{length_ver60, length_v2, length_front, length_header, parts_within}

-- ---- a record

abbrev base : Contribution → List LeNumber
base row = U16 row.section ∷ U16 0 ∷ U32 row.offset ∷ U32 row.size ∷ U32 row.flags ∷ U16 row.«module» ∷ U16 0 ∷ U32 0 ∷ U32 0 ∷ []

-- the numbers that both forms have stand at their places
record StandsAt (row : Contribution) (bytes : List ℕ) : Type 0 where
  section_stands : number_at 2 bytes 0 ≡ row.section
  offset_stands : number_at 4 bytes 4 ≡ row.offset
  size_stands : number_at 4 bytes 8 ≡ row.size
  flags_stand : number_at 4 bytes 12 ≡ row.flags
  module_stands : number_at 2 bytes 16 ≡ row.«module»

base_stands : (row : Contribution) (rest : List ℕ) → FitsFields row → StandsAt row (fields (base row) ++ rest)
unfolding number_bytes
base_stands row rest fits = record {
  section_stands = field_read (base row) rest 0 (U16 0) (omega arith) fits.section_fits;
  offset_stands = field_read (base row) rest 2 (U16 0) (omega arith) fits.offset_fits;
  size_stands = field_read (base row) rest 3 (U16 0) (omega arith) fits.size_fits;
  flags_stand = field_read (base row) rest 4 (U16 0) (omega arith) fits.flags_fit;
  module_stands = field_read (base row) rest 5 (U16 0) (omega arith) fits.module_fits;
}

first_stands : (row : Contribution) (rest : List ℕ) → FitsFields row → StandsAt row (record_ver60 row ++ rest)
unfolding record_ver60
first_stands row rest fits = base_stands row rest fits

record_starts : (row : Contribution) (rest : List ℕ) → record_v2 row ++ rest ≡ record_ver60 row ++ (fields (U32 row.coff ∷ []) ++ rest)
unfolding record_v2
record_starts row rest = append_assoc (record_ver60 row) (fields (U32 row.coff ∷ [])) rest

second_stands : (row : Contribution) (rest : List ℕ) → FitsFields row → StandsAt row (record_v2 row ++ rest)
second_stands row rest fits =
    subst (StandsAt row) (sym (record_starts row rest)) (first_stands row (fields (U32 row.coff ∷ []) ++ rest) fits)

coff_stands : (row : Contribution) (rest : List ℕ) → FitsFields row → number_at 4 (record_v2 row ++ rest) 28 ≡ row.coff
coff_stands row rest fits =
    ap (λ (xs : List ℕ). number_at 4 xs 28) (record_starts row rest)
    ∙ number_behind 4 28 0 28 (record_ver60 row) (fields (U32 row.coff ∷ []) ++ rest) (length_ver60 row) refl
    ∙ field_read (U32 row.coff ∷ []) rest 0 (U16 0) (omega arith) fits.coff_fits

-- ---- a record that is read

same_row : (row : Contribution) (section offset size flags position coff : ℕ) → section ≡ row.section → offset ≡ row.offset → size ≡ row.size → flags ≡ row.flags → position ≡ row.«module» → coff ≡ row.coff → record { section = section; offset = offset; size = size; flags = flags; «module» = position; coff = coff } ≡ row
same_row row section offset size flags position coff a b c d e f = rw (a, b, c, d, e, f) refl

at_place : (width i place : ℕ) (part bytes : List ℕ) → drop place part ≡ bytes → number_at width part (place + i) ≡ number_at width bytes i
at_place width i place part bytes stands = sym (number_at-drop width place i part) ∙ ap (λ (xs : List ℕ). number_at width xs i) stands

row_read : (form : Form) (row : Contribution) (part bytes : List ℕ) (place : ℕ) → StandsAt row bytes → drop place part ≡ bytes → coff_at form part place ≡ row.coff → contribution_at form part place ≡ row
unfolding contribution_at
row_read form row part bytes place stands is coff_is =
    let start : place ≡ place + 0 = omega arith in
    same_row row _ _ _ _ _ _
    (ap (number_at 2 part) start ∙ at_place 2 0 place part bytes is ∙ stands.section_stands)
    (at_place 4 4 place part bytes is ∙ stands.offset_stands)
    (at_place 4 8 place part bytes is ∙ stands.size_stands)
    (at_place 4 12 place part bytes is ∙ stands.flags_stand)
    (at_place 2 16 place part bytes is ∙ stands.module_stands)
    coff_is

second_read : (row : Contribution) (part rest : List ℕ) (place : ℕ) → FitsFields row → drop place part ≡ record_v2 row ++ rest → contribution_at V2 part place ≡ row
second_read row part rest place fits is =
    row_read V2 row part (record_v2 row ++ rest) place (second_stands row rest fits) is
    (at_place 4 28 place part (record_v2 row ++ rest) is ∙ coff_stands row rest fits)

first_read : (row : Contribution) (part rest : List ℕ) (place : ℕ) → FitsFields row → drop place part ≡ record_ver60 row ++ rest → contribution_at Ver60 part place ≡ without_coff row
unfolding record_ver60
first_read row part rest place fits is =
    row_read Ver60 (without_coff row) part (record_ver60 row ++ rest) place
    (first_stands (without_coff row) rest (record { section_fits = fits.section_fits; offset_fits = fits.offset_fits; size_fits = fits.size_fits; flags_fit = fits.flags_fit; module_fits = fits.module_fits; coff_fits = omega arith }))
    is refl

-- ---- a part

none : Contribution
none = record { section = 0; offset = 0; size = 0; flags = 0; «module» = 0; coff = 0 }

-- by the form: its first word, a record, and what is read of it
abbrev version_of : Form → ℕ
version_of Ver60 = SECTION_CONTRIBUTIONS_VER60
version_of V2 = SECTION_CONTRIBUTIONS_V2

abbrev bytes_of : Form → Contribution → List ℕ
bytes_of Ver60 row = record_ver60 row
bytes_of V2 row = record_v2 row

abbrev seen_by : Form → Contribution → Contribution
seen_by Ver60 row = without_coff row
seen_by V2 row = row

abbrev rows_part : Form → List Contribution → List ℕ
rows_part form list = fields (U32 (version_of form) ∷ []) ++ flat_map (bytes_of form) list

length_bytes : (form : Form) (row : Contribution) → length (bytes_of form row) ≡ record_size form
length_bytes Ver60 row = length_ver60 row
length_bytes V2 row = length_v2 row

row_seen : (form : Form) (row : Contribution) (part rest : List ℕ) (place : ℕ) → FitsFields row → drop place part ≡ bytes_of form row ++ rest → contribution_at form part place ≡ seen_by form row
row_seen Ver60 row part rest place fits is = first_read row part rest place fits is
row_seen V2 row part rest place fits is = second_read row part rest place fits is

count_is : (form : Form) (n size : ℕ) → size ≡ 4 + record_size form * n → (size - 4) / record_size form ≡ n
count_is Ver60 n size is = omega (arith, is)
count_is V2 n size is = omega (arith, is)

whole_is : (form : Form) (n size : ℕ) → size ≡ 4 + record_size form * n → (size - 4) % record_size form ≡ 0
whole_is Ver60 n size is = omega (arith, is)
whole_is V2 n size is = omega (arith, is)

version_fits : (form : Form) → version_of form < 256 ^ 4
version_fits Ver60 = omega arith
version_fits V2 = omega arith

version_tells : (form : Form) → form_of_version (version_of form) ≡ Some form
version_tells Ver60 = refl
version_tells V2 = refl

module _ (form : Form) where
  length_rows : (list : List Contribution) → length (rows_part form list) ≡ 4 + record_size form * length list
  unfolding number_bytes
  length_rows list =
      let rows = length_each (bytes_of form) (record_size form) list (length_bytes form) in
      omega (arith, rows)

  -- the records from one on stand behind those before it
  rows_from : (list : List Contribution) (k : ℕ) → k ≤ length list → drop (record_size form * k) (flat_map (bytes_of form) list) ≡ flat_map (bytes_of form) (drop k list)
  rows_from list zero le = ap (λ (n : ℕ). drop n (flat_map (bytes_of form) list)) (mul-zero (record_size form))
  rows_from [] (suc k) le = absurd (omega (arith, le))
  rows_from (row ∷ list) (suc k) le =
      ap (λ (n : ℕ). drop n (bytes_of form row ++ flat_map (bytes_of form) list)) (place (record_size form) k)
      ∙ sym (drop-drop (record_size form * k) (record_size form) (bytes_of form row ++ flat_map (bytes_of form) list))
      ∙ ap (drop (record_size form * k)) (drop_at (bytes_of form row) (flat_map (bytes_of form) list) (record_size form) (length_bytes form row))
      ∙ rows_from list k (omega (arith, le))
    where
      place : (size n : ℕ) → size * suc n ≡ size + size * n
      place size n = grind arith

  row_stands : (list : List Contribution) (k : ℕ) → k < length list → drop (4 + record_size form * k) (rows_part form list) ≡ bytes_of form (get_or list k none) ++ flat_map (bytes_of form) (drop (suc k) list)
  unfolding number_bytes
  row_stands list k lt =
      sym (drop-drop (record_size form * k) 4 (rows_part form list))
      ∙ ap (drop (record_size form * k)) (drop_at (fields (U32 (version_of form) ∷ [])) (flat_map (bytes_of form) list) 4 refl)
      ∙ rows_from list k (omega (arith, lt))
      ∙ ap (flat_map (bytes_of form)) (drop-cons list k none lt)

  rows_read : (list : List Contribution) → All FitsFields list → records_of form (rows_part form list) ≡ map (seen_by form) list
  unfolding records_of record_in
  rows_read list fit =
      ap (λ (n : ℕ). map (record_in form (rows_part form list)) (range_with_len 0 n)) (count_is form (length list) (length (rows_part form list)) (length_rows list))
      ∙ sym (fill_by_all (record_in form (rows_part form list)) (map (seen_by form) list) (length list) none (length-map list (seen_by form))
      (λ k lt. get_or-map (seen_by form) list k none none lt ∙ sym (row_seen form (get_or list k none) (rows_part form list) (flat_map (bytes_of form) (drop (suc k) list)) (4 + record_size form * k) (All-get_or FitsFields list k none lt fit) (row_stands list k lt))))

  form_is : (list : List Contribution) → form_of (rows_part form list) ≡ Some form
  form_is list =
      let long = length_rows list in
      let there : has_bytes (rows_part form list) 0 4 ≡ true = le-leb _ _ (omega (arith, long)) in
      rw (there, field_read (U32 (version_of form) ∷ []) (flat_map (bytes_of form) list) 0 (U16 0) (omega arith) (version_fits form)) (version_tells form)

  part_read : (list : List Contribution) → All FitsFields list → contributions_by (Some (rows_part form list)) ≡ Some (map (seen_by form) list)
  part_read list fit =
      let whole = whole_is form (length list) (length (rows_part form list)) (length_rows list) in
      ap (λ (f : Option Form). records_by f (rows_part form list)) (form_is list)
      ∙ rw (eq-eqb _ _ whole) (ap Some (rows_read list fit))

pub first_part_read : (list : List Contribution) → All FitsFields list → contributions_by (Some (first_part list)) ≡ Some (map without_coff list)
unfolding first_part
first_part_read list fit = part_read Ver60 list fit

second_part_read : (list : List Contribution) → All FitsFields list → contributions_by (Some (contribution_part list)) ≡ Some list
unfolding contribution_part
second_part_read list fit = part_read V2 list fit ∙ ap Some (map-id list)

-- ---- the stream

module _ (modules contributions sections files : List ℕ) (small : length (dbi_of_parts modules contributions sections files) ≤ 1073741824) where
  abbrev stream : List ℕ
  stream = dbi_of_parts modules contributions sections files

  abbrev header : List ℕ
  header = dbi_header (length modules) (length contributions) (length sections) (length files)

  abbrev behind : List ℕ
  behind = modules ++ (contributions ++ (sections ++ (files ++ optional_streams)))

  abbrev sizes : List LeNumber
  sizes = U32 (length modules) ∷ U32 (length contributions) ∷ U32 (length sections) ∷ U32 (length files) ∷ U32 0 ∷ U32 0 ∷ U32 22 ∷ U32 0 ∷ []

  long : 64 + length modules + length contributions ≤ length stream
  long = (parts_within modules contributions sections files).contributions_in

  front_first : stream ≡ header_front ++ ((header_sizes (length modules) (length contributions) (length sections) (length files) ++ header_end) ++ behind)
  front_first = append_assoc header_front (header_sizes (length modules) (length contributions) (length sections) (length files) ++ header_end) behind

  signature_read : number_at 4 stream 0 ≡ DBI_SIGNATURE
  unfolding header_front
  signature_read =
      let rest = (header_sizes (length modules) (length contributions) (length sections) (length files) ++ header_end) ++ behind in
      ap (λ (xs : List ℕ). number_at 4 xs 0) front_first
      ∙ field_read (U32 0xFFFFFFFF ∷ U32 19990903 ∷ U32 1 ∷ U16 5 ∷ U16 0x8E00 ∷ U16 6 ∷ U16 0 ∷ U16 7 ∷ U16 0 ∷ []) rest 0 (U16 0) (omega arith) (omega arith)

  sizes_stand : (i : ℕ) → number_at 4 stream (24 + i) ≡ number_at 4 (fields sizes ++ (header_end ++ behind)) i
  unfolding header_sizes
  sizes_stand i =
      ap (λ (xs : List ℕ). number_at 4 xs (24 + i)) front_first
      ∙ number_behind 4 24 i (24 + i) header_front ((fields sizes ++ header_end) ++ behind) length_front refl
      ∙ ap (λ (xs : List ℕ). number_at 4 xs i) (append_assoc (fields sizes) header_end behind)

  modules_size : number_at 4 stream 24 ≡ length modules
  modules_size = sizes_stand 0 ∙ field_read sizes (header_end ++ behind) 0 (U16 0) (omega arith) (omega (arith, long, small))

  contributions_size : number_at 4 stream 28 ≡ length contributions
  unfolding number_bytes
  contributions_size = sizes_stand 4 ∙ field_read sizes (header_end ++ behind) 1 (U16 0) (omega arith) (omega (arith, long, small))

  header_passes : has_header stream ≡ true
  unfolding has_header
  header_passes = rw (le-leb 64 (length stream) (omega (arith, long)), eq-eqb _ _ signature_read) refl

  place_is : part_place stream ≡ 64 + length modules
  unfolding part_place
  place_is = ap (λ (n : ℕ). 64 + n) modules_size

  size_is : part_size stream ≡ length contributions
  unfolding part_size
  size_is = contributions_size

  part_lies : has_bytes stream (part_place stream) (part_size stream) ≡ true
  part_lies =
      let place = place_is in
      let size = size_is in
      le-leb _ _ (omega (arith, place, size, long))

  part_stands : bytes_at stream (64 + length modules) (length contributions) ≡ contributions
  part_stands =
      let rest = sections ++ (files ++ optional_streams) in
      ap (take (length contributions))
      (sym (drop-drop (length modules) 64 stream)
      ∙ ap (drop (length modules)) (drop_at header behind 64 (length_header (length modules) (length contributions) (length sections) (length files)))
      ∙ drop_at modules (contributions ++ rest) (length modules) refl)
      ∙ take-append_seam contributions rest

  pub part_is : part_of stream ≡ Some contributions
  unfolding part_of
  part_is =
      rw (header_passes, part_lies)
      (ap Some (ap (λ (n : ℕ). bytes_at stream n (part_size stream)) place_is ∙ ap (bytes_at stream (64 + length modules)) size_is ∙ part_stands))

pub stream_read : (modules : List ModuleName) (list : List Contribution) (headers : List ℕ) → All FitsFields list → length (dbi_of modules list headers) ≤ 1073741824 → contributions_in (dbi_of modules list headers) ≡ Some list
stream_read modules list headers fit small =
    ap contributions_by (part_is (module_part list modules) (contribution_part list) (section_map headers) (file_part modules) small)
    ∙ second_part_read list fit

-- a stream with a part of the first form
pub first_form_read : (modules sections files : List ℕ) (list : List Contribution) → All FitsFields list → length (dbi_of_parts modules (first_part list) sections files) ≤ 1073741824 → contributions_in (dbi_of_parts modules (first_part list) sections files) ≡ Some (map without_coff list)
first_form_read modules sections files list fit small =
    ap contributions_by (part_is modules (first_part list) sections files small)
    ∙ first_part_read list fit
