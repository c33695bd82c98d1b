-- What an image holds: each byte of the memory by its address, at each base, and the file that gives it.
use Rattle.std.specs.Prelude.{◌≡◌, ℕ, ◌+◌, ◌-◌, Bool, true, ◌&&◌, nat_le, nat_lt, if◌then◌else◌, List, [], ◌∷◌, ◌++◌, length, map, slice_index, Option, Some, None}
use Rattle.std.specs.List.{range_with_len, flat_map}
use Rattle.address_layout.specs.declared.base.BaseRule.{BaseRule}
use Rattle.address_layout.specs.PermittedBase.{is_permitted}
use Rattle.pe_loader.specs.LoadedImage.{image_base, loaded, HasZeroSlack}
use Rattle.image_writer.specs.declared.headers.Headers.{Headers}
use Rattle.image_writer.specs.declared.headers.SectionHeader.{SectionHeader}
use Rattle.image_writer.specs.HeaderTable.{size_of_headers, header_table}

-- a unit of layout that has bytes, at its place; what they are may depend on the base that the image stands at
pub record PlacedPiece : Type 0 where
  pub rva : ℕ
  pub bytes : ℕ → List ℕ

-- all that decides the bytes of an image
pub record ImagePlan : Type 0 where
  pub headers : Headers
  pub rows : List SectionHeader
  pub size : ℕ
  pub pieces : List PlacedPiece

-- ---- the memory

-- bytes at an RVA
pub record PlacedBytes : Type 0 where
  pub rva : ℕ
  pub bytes : List ℕ

abbrev pub bytes_at_base : ℕ → PlacedPiece → PlacedBytes
bytes_at_base base piece = record { rva = piece.rva; bytes = piece.bytes base }

-- what the pieces of a plan hold at a base, and at the image's own
abbrev pub plan_bytes : ImagePlan → ℕ → List PlacedBytes
plan_bytes plan base = map (bytes_at_base base) plan.pieces

abbrev pub own_bytes : ImagePlan → List PlacedBytes
own_bytes plan = plan_bytes plan plan.headers.base

abbrev pub holds : PlacedBytes → ℕ → Bool
holds piece rva = nat_le piece.rva rva && nat_lt rva (piece.rva + length piece.bytes)

-- the byte that the pieces put at an RVA, or zero where none does
abbrev pub piece_byte : List PlacedBytes → ℕ → ℕ
piece_byte [] rva = 0
piece_byte (piece ∷ pieces) rva = if holds piece rva then slice_index piece.bytes (rva - piece.rva) else piece_byte pieces rva

abbrev pub plan_headers : ImagePlan → List ℕ
plan_headers plan = header_table plan.headers plan.rows plan.size

-- the byte at an RVA of the image at a base
unfoldable pub expected_byte : ImagePlan → ℕ → ℕ → ℕ
expected_byte plan base rva =
    if nat_lt rva (size_of_headers (length plan.rows)) then slice_index (plan_headers plan) rva else piece_byte (plan_bytes plan base) rva

unfoldable pub expected_image : ImagePlan → ℕ → List ℕ
expected_image plan base = map (expected_byte plan base) (range_with_len 0 plan.size)

-- what the plan says of the base
abbrev pub plan_rule : ImagePlan → BaseRule
plan_rule plan = record { base = plan.headers.base; fixed = plan.headers.fixed; large = plan.headers.large }

abbrev pub permits : ImagePlan → ℕ → Bool
permits plan base = is_permitted (plan_rule plan) plan.size base

-- the memory at a base, where the base is permitted
abbrev pub expected_at : ImagePlan → ℕ → Option (List ℕ)
expected_at plan base = if permits plan base then Some (expected_image plan base) else None

-- the file loads as the plan says, at exactly the permitted bases, of which its own is one, and has no byte besides
pub record MeansPlan (plan : ImagePlan) (image : List ℕ) : Type 0 where
  pub loads : (base : ℕ) → loaded image base ≡ expected_at plan base
  pub own : image_base image ≡ plan.headers.base
  pub permitted : permits plan plan.headers.base ≡ true
  pub slack : HasZeroSlack image

-- ---- the file

-- the raw bytes of a section: those of its memory, and zeros after its size
abbrev pub raw_byte : List PlacedBytes → SectionHeader → ℕ → ℕ
raw_byte pieces row k = if nat_lt k row.size then piece_byte pieces (row.rva + k) else 0

abbrev pub raw_bytes : List PlacedBytes → SectionHeader → List ℕ
raw_bytes pieces row = map (raw_byte pieces row) (range_with_len 0 row.raw_size)

-- the headers, and the raw bytes of each section, with what the pieces hold at the image's own base
unfoldable pub image_file : ImagePlan → List ℕ
image_file plan = plan_headers plan ++ flat_map (raw_bytes (own_bytes plan)) plan.rows
