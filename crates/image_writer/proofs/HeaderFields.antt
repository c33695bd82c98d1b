-- The fields of the headers, read back from the file of a plan.
use Rattle.std.proofs.Common.{◌≡◌, ℕ, ◌+◌, ◌^◌, ◌<◌, ◌≤◌, Bool, true, false, cond, List, [], ◌++◌, length, replicate, refl, ap, ◌∙◌, length-append, arith}
use Rattle.link_base.specs.Bytes.{number_at, number_bytes}
use Rattle.link_base.proofs.CallerLemmas.{length-number_bytes}
use Rattle.link_base.specs.Bytes.{has_flag}
use Rattle.link_base.specs.PeFormat.{DOS_SIGNATURE, NT_SIGNATURE, FILE_MACHINE_AMD64, SIZEOF_OPTIONAL_HEADER, NT_OPTIONAL_HDR64_MAGIC, PAGE_SIZE, FILE_ALIGNMENT, NUMBEROF_DIRECTORY_ENTRIES, FILE_RELOCS_STRIPPED, FILE_EXECUTABLE_IMAGE, FILE_LARGE_ADDRESS_AWARE, FILE_DLL}
use Rattle.link_base.specs.Limits.{IMAGE_LIMIT}
use Rattle.image_writer.specs.HeaderTable.{directory_fields, size_of_headers}
use Rattle.link_base.specs.PeFormat.{DIRECTORY_ENTRY_BASERELOC}
use Rattle.std.proofs.lemmas.Bool.{and_parts, leb-true}
use Rattle.address_layout.specs.PermittedBase.{address_limit}
use Rattle.pe_loader.specs.LoadedImage.{signature_at, file_header_at, optional_at, section_count, file_characteristics, image_base, size_of_image, headers_size, directory_rva, directory_size, is_fixed, is_large}
use Rattle.image_writer.specs.ExpectedImage.{ImagePlan, image_file}
use Rattle.image_writer.specs.LoadablePlan.{IsLoadable}
use Rattle.image_writer.proofs.StandsAt.{StandsAt, first_part, second_part, behind, reads, part_at}
use Rattle.image_writer.proofs.HeaderParts.{dos_stands, parts_stand, length-directory_fields}

-- ---- the header before the signature

pub dos_reads : (plan : ImagePlan) → number_at 2 (image_file plan) 0 ≡ DOS_SIGNATURE
dos_reads plan = reads _ _ _ 0 (first_part (number_bytes 2 DOS_SIGNATURE ++ []) _ 0 (image_file plan) (dos_stands plan)) refl (omega arith)

pub signature_place : (plan : ImagePlan) → signature_at (image_file plan) ≡ 64
unfolding signature_at
signature_place plan =
    let behind_magic = second_part (number_bytes 2 DOS_SIGNATURE ++ []) (replicate 58 0 ++ (number_bytes 4 64 ++ [])) 0 2 2 (image_file plan) (simp (length-append, length-number_bytes)) refl (dos_stands plan) in
    reads _ _ _ 60 (second_part (replicate 58 0) (number_bytes 4 64 ++ []) 2 58 60 (image_file plan) refl refl behind_magic) refl (omega arith)

-- ---- the file header

pub pe_reads : (plan : ImagePlan) → number_at 4 (image_file plan) (signature_at (image_file plan)) ≡ NT_SIGNATURE
pe_reads plan = rw (signature_place plan) (reads _ _ _ 64 (parts_stand plan).file_at refl (omega arith))

pub machine_reads : (plan : ImagePlan) → number_at 2 (image_file plan) (file_header_at (image_file plan)) ≡ FILE_MACHINE_AMD64
machine_reads plan = rw (signature_place plan) (reads _ _ _ 68 (behind _ _ _ (parts_stand plan).file_at) refl (omega arith))

pub count_reads : (plan : ImagePlan) → IsLoadable plan → section_count (image_file plan) ≡ length plan.rows
unfolding section_count
count_reads plan placed =
    rw (signature_place plan) (reads _ _ _ 70 (behind _ _ _ (behind _ _ _ (parts_stand plan).file_at)) refl placed.few)

pub optional_len_reads : (plan : ImagePlan) → number_at 2 (image_file plan) (file_header_at (image_file plan) + 16) ≡ SIZEOF_OPTIONAL_HEADER
optional_len_reads plan =
    rw (signature_place plan) (reads _ _ _ 84 (behind _ _ _ (behind _ _ _ (behind _ _ _ (behind _ _ _ (behind _ _ _ (behind _ _ _ (parts_stand plan).file_at)))))) refl (omega arith))

flags_of : Bool → Bool → Bool → ℕ
flags_of fixed large dll =
    FILE_EXECUTABLE_IMAGE + cond fixed FILE_RELOCS_STRIPPED 0 + cond large FILE_LARGE_ADDRESS_AWARE 0 + cond dll FILE_DLL 0

flags_fit : (fixed large dll : Bool) → flags_of fixed large dll < 2 ^ 16
unfolding flags_of
flags_fit true true true = omega arith
flags_fit true true false = omega arith
flags_fit true false true = omega arith
flags_fit true false false = omega arith
flags_fit false true true = omega arith
flags_fit false true false = omega arith
flags_fit false false true = omega arith
flags_fit false false false = omega arith

fixed_flag : (fixed large dll : Bool) → has_flag (flags_of fixed large dll) FILE_RELOCS_STRIPPED ≡ fixed
unfolding flags_of
fixed_flag true true true = refl
fixed_flag true true false = refl
fixed_flag true false true = refl
fixed_flag true false false = refl
fixed_flag false true true = refl
fixed_flag false true false = refl
fixed_flag false false true = refl
fixed_flag false false false = refl

large_flag : (fixed large dll : Bool) → has_flag (flags_of fixed large dll) FILE_LARGE_ADDRESS_AWARE ≡ large
unfolding flags_of
large_flag true true true = refl
large_flag true true false = refl
large_flag true false true = refl
large_flag true false false = refl
large_flag false true true = refl
large_flag false true false = refl
large_flag false false true = refl
large_flag false false false = refl

characteristics_read : (plan : ImagePlan) → file_characteristics (image_file plan) ≡ flags_of plan.headers.fixed plan.headers.large plan.headers.dll
unfolding file_characteristics flags_of
characteristics_read plan =
    rw (signature_place plan) (reads _ _ _ 86 (behind _ _ _ (behind _ _ _ (behind _ _ _ (behind _ _ _ (behind _ _ _ (behind _ _ _ (behind _ _ _ (parts_stand plan).file_at))))))) refl (flags_fit plan.headers.fixed plan.headers.large plan.headers.dll))

pub fixed_reads : (plan : ImagePlan) → is_fixed (image_file plan) ≡ plan.headers.fixed
fixed_reads plan =
    ap (λ (n : ℕ). has_flag n FILE_RELOCS_STRIPPED) (characteristics_read plan) ∙ fixed_flag plan.headers.fixed plan.headers.large plan.headers.dll

pub large_reads : (plan : ImagePlan) → is_large (image_file plan) ≡ plan.headers.large
large_reads plan =
    ap (λ (n : ℕ). has_flag n FILE_LARGE_ADDRESS_AWARE) (characteristics_read plan) ∙ large_flag plan.headers.fixed plan.headers.large plan.headers.dll

-- ---- the optional header

pub magic_reads : (plan : ImagePlan) → number_at 2 (image_file plan) (optional_at (image_file plan)) ≡ NT_OPTIONAL_HDR64_MAGIC
magic_reads plan = rw (signature_place plan) (reads _ _ _ 88 (parts_stand plan).standard_at refl (omega arith))

limit_small : (large : Bool) (n : ℕ) → n ≤ address_limit large → n < 2 ^ 64
limit_small true n le = omega arith
limit_small false n le = omega arith

-- a permitted base is one of 64 bits
pub base_fits : (plan : ImagePlan) → IsLoadable plan → plan.headers.base < 2 ^ 64
base_fits plan placed =
    let base = plan.headers.base in
    let large = plan.headers.large in
    limit_small large base (under base plan.size (address_limit large) (leb-true (base + plan.size) (address_limit large) (and_parts _ _ (and_parts _ _ placed.permitted).1).0))
  where
    under : (a b c : ℕ) → a + b ≤ c → a ≤ c
    under a b c le = omega arith

pub base_reads : (plan : ImagePlan) → IsLoadable plan → image_base (image_file plan) ≡ plan.headers.base
unfolding image_base
base_reads plan placed = rw (signature_place plan) (reads _ _ _ 112 (parts_stand plan).version_at refl (base_fits plan placed))

pub page_size_reads : (plan : ImagePlan) → number_at 4 (image_file plan) (optional_at (image_file plan) + 32) ≡ PAGE_SIZE
page_size_reads plan = rw (signature_place plan) (reads _ _ _ 120 (behind _ _ _ (parts_stand plan).version_at) refl (omega arith))

pub file_alignment_reads : (plan : ImagePlan) → number_at 4 (image_file plan) (optional_at (image_file plan) + 36) ≡ FILE_ALIGNMENT
file_alignment_reads plan =
    rw (signature_place plan) (reads _ _ _ 124 (behind _ _ _ (behind _ _ _ (parts_stand plan).version_at)) refl (omega arith))

pub size_reads : (plan : ImagePlan) → IsLoadable plan → size_of_image (image_file plan) ≡ plan.size
unfolding size_of_image
size_reads plan placed =
    let le = placed.size_fits in
    rw (signature_place plan) (reads _ _ _ 144 (parts_stand plan).sizes_at refl (omega arith))

pub headers_size_reads : (plan : ImagePlan) → IsLoadable plan → headers_size (image_file plan) ≡ size_of_headers (length plan.rows)
unfolding headers_size
headers_size_reads plan placed =
    rw (signature_place plan) (reads _ _ _ 148 (behind _ _ _ (parts_stand plan).sizes_at) refl (below (size_of_headers (length plan.rows)) plan.size placed.headers_inside placed.size_fits))
  where
    below : (a b : ℕ) → a ≤ b → b ≤ IMAGE_LIMIT → a < 256 ^ 4
    below a b le fits = omega arith

pub directory_count_reads : (plan : ImagePlan) → number_at 4 (image_file plan) (optional_at (image_file plan) + 108) ≡ NUMBEROF_DIRECTORY_ENTRIES
directory_count_reads plan =
    rw (signature_place plan) (reads _ _ _ 196 (behind _ _ _ (behind _ _ _ (behind _ _ _ (behind _ _ _ (behind _ _ _ (parts_stand plan).reserve_at))))) refl (omega arith))

-- the directory of base relocations is that of the plan
pub record TableReads (image : List ℕ) (table : ℕ × ℕ) : Type 0 where
  pub rva : directory_rva image DIRECTORY_ENTRY_BASERELOC ≡ table.0
  pub size : directory_size image DIRECTORY_ENTRY_BASERELOC ≡ table.1

pub table_reads : (plan : ImagePlan) (placed : IsLoadable plan) → TableReads (image_file plan) placed.relocatable.table
unfolding directory_rva directory_size
table_reads plan placed =
    let table = placed.relocatable.table in
    let inside = placed.relocatable.inside in
    let fits = placed.size_fits in
    let here : StandsAt (directory_fields table) 240 (image_file plan) = part_at directory_fields 8 length-directory_fields plan.headers.directories 5 table 200 (image_file plan) (parts_stand plan).directories_at placed.relocatable.directory in
    record {
      rva = rw (signature_place plan) (reads _ _ _ 240 here refl (omega (arith, inside, fits)));
      size = rw (signature_place plan) (reads _ _ _ 244 (behind _ _ _ here) refl (omega (arith, inside, fits)));
    }
