-- Where the parts of the headers stand in the file of a plan.
use Rattle.std.proofs.Common.{◌≡◌, ℕ, ◌-◌, ◌*◌, ◌≤◌, List, ◌++◌, length, refl, ap, ◌∙◌, take, replicate, arith, length-append, length-take}
use Rattle.std.specs.List.{flat_map}
use Rattle.std.proofs.lemmas.List.{length-replicate}
use Rattle.link_base.proofs.CallerLemmas.{length-number_bytes}
use Rattle.image_writer.specs.declared.headers.Headers.{Headers}
use Rattle.image_writer.specs.declared.headers.SectionHeader.{SectionHeader}
use Rattle.image_writer.specs.HeaderTable.{dos_header, file_header, standard_fields, version_fields, size_fields, reserve_fields, directory_fields, fixed_headers, section_header, header_table, short_name, size_of_headers, padded}
use Rattle.image_writer.specs.ExpectedImage.{ImagePlan, plan_headers, raw_bytes, image_file, own_bytes}
use Rattle.image_writer.proofs.StandsAt.{StandsAt, whole, first_part, second_part, length-parts}

-- ---- lengths

length-dos_header : length dos_header ≡ 64
length-dos_header = simp (length-append, length-number_bytes)

length-file_header : (f : Headers) (count : ℕ) → length (file_header f count) ≡ 24
length-file_header f count = simp (length-append, length-number_bytes)

length-standard_fields : (f : Headers) (rows : List SectionHeader) → length (standard_fields f rows) ≡ 24
length-standard_fields f rows = simp (length-append, length-number_bytes)

length-version_fields : (f : Headers) → length (version_fields f) ≡ 32
length-version_fields f = simp (length-append, length-number_bytes)

length-size_fields : (f : Headers) (count size : ℕ) → length (size_fields f count size) ≡ 16
length-size_fields f count size = simp (length-append, length-number_bytes)

length-reserve_fields : (f : Headers) → length (reserve_fields f) ≡ 40
length-reserve_fields f = simp (length-append, length-number_bytes)

pub length-directory_fields : (directory : ℕ × ℕ) → length (directory_fields directory) ≡ 8
length-directory_fields directory = simp (length-append, length-number_bytes)

pub length-short_name : (name : List ℕ) → length (short_name name) ≡ 8
length-short_name name = omega (arith, length-append (take 8 name) (replicate (8 - length name) 0), length-take 8 name, length-replicate {A = ℕ} (8 - length name) 0)

pub length-section_header : (row : SectionHeader) → length (section_header row) ≡ 40
length-section_header row = behind_name (short_name row.name) _ (length-short_name row.name) (simp (length-append, length-number_bytes))
  where
    behind_name : (name rest : List ℕ) → length name ≡ 8 → length rest ≡ 32 → length (name ++ rest) ≡ 40
    behind_name name rest a b = omega (arith, length-append name rest)

-- ---- places

-- the parts of the headers behind the first, each at its place
pub record HeaderPlaces (file standard version sizes reserve directories bytes : List ℕ) : Type 0 where
  pub file_at : StandsAt file 64 bytes
  pub standard_at : StandsAt standard 88 bytes
  pub version_at : StandsAt version 112 bytes
  pub sizes_at : StandsAt sizes 144 bytes
  pub reserve_at : StandsAt reserve 160 bytes
  pub directories_at : StandsAt directories 200 bytes

places : (dos file standard version sizes reserve directories bytes : List ℕ) → length dos ≡ 64 → length file ≡ 24 → length standard ≡ 24 → length version ≡ 32 → length sizes ≡ 16 → length reserve ≡ 40 → StandsAt (dos ++ (file ++ (standard ++ (version ++ (sizes ++ (reserve ++ directories)))))) 0 bytes → HeaderPlaces file standard version sizes reserve directories bytes
places dos file standard version sizes reserve directories bytes d f s v z r h =
    let h64 = second_part dos (file ++ (standard ++ (version ++ (sizes ++ (reserve ++ directories))))) 0 64 64 bytes d refl h in
    let h88 = second_part file (standard ++ (version ++ (sizes ++ (reserve ++ directories)))) 64 24 88 bytes f refl h64 in
    let h112 = second_part standard (version ++ (sizes ++ (reserve ++ directories))) 88 24 112 bytes s refl h88 in
    let h144 = second_part version (sizes ++ (reserve ++ directories)) 112 32 144 bytes v refl h112 in
    let h160 = second_part sizes (reserve ++ directories) 144 16 160 bytes z refl h144 in
    record {
      file_at = first_part file (standard ++ (version ++ (sizes ++ (reserve ++ directories)))) 64 bytes h64;
      standard_at = first_part standard (version ++ (sizes ++ (reserve ++ directories))) 88 bytes h88;
      version_at = first_part version (sizes ++ (reserve ++ directories)) 112 bytes h112;
      sizes_at = first_part sizes (reserve ++ directories) 144 bytes h144;
      reserve_at = first_part reserve directories 160 bytes h160;
      directories_at = second_part reserve directories 160 40 200 bytes r refl h160;
    }

pub headers_stand : (plan : ImagePlan) → StandsAt (plan_headers plan) 0 (image_file plan)
unfolding image_file
headers_stand plan = first_part (plan_headers plan) (flat_map (raw_bytes (own_bytes plan)) plan.rows) 0 (image_file plan) (whole (image_file plan))

table_stands : (plan : ImagePlan) → StandsAt (fixed_headers plan.headers plan.rows plan.size ++ flat_map section_header plan.rows) 0 (image_file plan)
unfolding header_table
table_stands plan =
    let table = fixed_headers plan.headers plan.rows plan.size ++ flat_map section_header plan.rows in
    first_part table (replicate (size_of_headers (length plan.rows) - length table) 0) 0 (image_file plan) (headers_stand plan)

fixed_stands : (plan : ImagePlan) → StandsAt (fixed_headers plan.headers plan.rows plan.size) 0 (image_file plan)
fixed_stands plan = first_part (fixed_headers plan.headers plan.rows plan.size) (flat_map section_header plan.rows) 0 (image_file plan) (table_stands plan)

pub dos_stands : (plan : ImagePlan) → StandsAt dos_header 0 (image_file plan)
dos_stands plan = first_part dos_header _ 0 (image_file plan) (fixed_stands plan)

pub parts_stand : (plan : ImagePlan) → HeaderPlaces (file_header plan.headers (length plan.rows)) (standard_fields plan.headers plan.rows) (version_fields plan.headers) (size_fields plan.headers (length plan.rows) plan.size) (reserve_fields plan.headers) (flat_map directory_fields plan.headers.directories) (image_file plan)
parts_stand plan =
    places dos_header (file_header plan.headers (length plan.rows)) (standard_fields plan.headers plan.rows) (version_fields plan.headers) (size_fields plan.headers (length plan.rows) plan.size) (reserve_fields plan.headers) (flat_map directory_fields plan.headers.directories) (image_file plan)
    length-dos_header
    (length-file_header plan.headers (length plan.rows))
    (length-standard_fields plan.headers plan.rows)
    (length-version_fields plan.headers)
    (length-size_fields plan.headers (length plan.rows) plan.size)
    (length-reserve_fields plan.headers)
    (fixed_stands plan)

-- ---- the whole table

length_of_all : (d f s v z r t : List ℕ) → length d ≡ 64 → length f ≡ 24 → length s ≡ 24 → length v ≡ 32 → length z ≡ 16 → length r ≡ 40 → length t ≡ 128 → length (d ++ (f ++ (s ++ (v ++ (z ++ (r ++ t)))))) ≡ 328
length_of_all d f s v z r t ed ef es ev ez er et = simp (length-append, ed, ef, es, ev, ez, er, et)

pub length-fixed_headers : (f : Headers) (rows : List SectionHeader) (size : ℕ) → length f.directories ≡ 16 → length (fixed_headers f rows size) ≡ 328
length-fixed_headers f rows size e =
    length_of_all dos_header (file_header f (length rows)) (standard_fields f rows) (version_fields f) (size_fields f (length rows) size) (reserve_fields f) (flat_map directory_fields f.directories)
    length-dos_header
    (length-file_header f (length rows))
    (length-standard_fields f rows)
    (length-version_fields f)
    (length-size_fields f (length rows) size)
    (length-reserve_fields f)
    (length-parts directory_fields 8 length-directory_fields f.directories ∙ ap (λ (k : ℕ). 8 * k) e)

pub sections_stand : (plan : ImagePlan) → length plan.headers.directories ≡ 16 → StandsAt (flat_map section_header plan.rows) 328 (image_file plan)
sections_stand plan e =
    second_part (fixed_headers plan.headers plan.rows plan.size) (flat_map section_header plan.rows) 0 328 328 (image_file plan) (length-fixed_headers plan.headers plan.rows plan.size e) refl (table_stands plan)

length-padded : (len : ℕ) (bytes : List ℕ) → length bytes ≤ len → length (padded len bytes) ≡ len
length-padded len bytes le = omega (arith, length-append bytes (replicate (len - length bytes) 0), length-replicate {A = ℕ} (len - length bytes) 0)

pub length-plan_headers : (plan : ImagePlan) → length plan.headers.directories ≡ 16 → length (plan_headers plan) ≡ size_of_headers (length plan.rows)
unfolding header_table
length-plan_headers plan e =
    let fixed = fixed_headers plan.headers plan.rows plan.size in
    let sections = flat_map section_header plan.rows in
    length-padded (size_of_headers (length plan.rows)) (fixed ++ sections)
    (fits fixed sections (length plan.rows) (length-fixed_headers plan.headers plan.rows plan.size e) (length-parts section_header 40 length-section_header plan.rows))
  where
    fits : (fixed sections : List ℕ) (count : ℕ) → length fixed ≡ 328 → length sections ≡ 40 * count → length (fixed ++ sections) ≤ size_of_headers count
    fits fixed sections count a b = omega (arith, length-append fixed sections)

pub raw_stand : (plan : ImagePlan) → length plan.headers.directories ≡ 16 → StandsAt (flat_map (raw_bytes (own_bytes plan)) plan.rows) (size_of_headers (length plan.rows)) (image_file plan)
unfolding image_file
raw_stand plan e =
    second_part (plan_headers plan) (flat_map (raw_bytes (own_bytes plan)) plan.rows) 0 (size_of_headers (length plan.rows)) (size_of_headers (length plan.rows)) (image_file plan) (length-plan_headers plan e) (omega arith) (whole (image_file plan))
