-- The blocks that list some fields (PE Format, "The .reloc Section (Image Only)"): one for each page that has a field,
-- pages and entries ascending.
use Rattle.std.specs.Prelude.{ℕ, ◌+◌, ◌-◌, ◌*◌, ◌%◌, ◌≤◌, ◌==◌, if◌then◌else◌, List, [], ◌∷◌, ◌++◌, length, map, All}
use Rattle.std.specs.List.{flat_map}
use Rattle.std.specs.List.Sorted.{IsStrictlyIncreasing}
use Rattle.link_base.specs.Bytes.{number_bytes}
use Rattle.base_reloc.specs.declared.field.BaseField.{BaseField}
use Rattle.link_base.specs.PeFormat.{REL_BASED_ABSOLUTE, REL_BASED_HIGHLOW, REL_BASED_DIR64, PAGE_SIZE}
use Rattle.base_reloc.specs.Blocks.{width_of}

-- ---- fields

-- each field lies above the one before it
abbrev pub IsAscending : List BaseField → Type 0
IsAscending fields = IsStrictlyIncreasing (map (λ field. field.rva) fields)

-- the fields lie in a memory of a size
abbrev pub LieWithin : ℕ → List BaseField → Type 0
LieWithin memory_size fields = All (λ field. field.rva + width_of field ≤ memory_size) fields

-- the RVA of the page that a field begins in
abbrev pub page_of : BaseField → ℕ
page_of field = field.rva - field.rva % PAGE_SIZE

-- ---- fields page by page

-- a field put before the pages of those behind it: it joins the first page where it lies in it
abbrev pub before_pages : BaseField → List (List BaseField) → List (List BaseField)
before_pages field [] = (field ∷ []) ∷ []
before_pages field ([] ∷ pages) = (field ∷ []) ∷ pages
before_pages field ((next ∷ others) ∷ pages) =
    if page_of field == page_of next then (field ∷ next ∷ others) ∷ pages else (field ∷ []) ∷ (next ∷ others) ∷ pages

unfoldable pub pages_of : List BaseField → List (List BaseField)
pages_of [] = []
pages_of (field ∷ fields) = before_pages field (pages_of fields)

-- the RVA of the page of fields that share one
abbrev pub page_rva : List BaseField → ℕ
page_rva [] = 0
page_rva (field ∷ fields) = page_of field

-- ---- the block of a page

-- an entry is a type in the upper four bits and an offset in the page
abbrev pub entry_word : BaseField → ℕ
entry_word field =
    (if field.wide then REL_BASED_DIR64 else REL_BASED_HIGHLOW) * PAGE_SIZE + field.rva % PAGE_SIZE

-- one entry without a field fills a block of an odd number to a multiple of four
abbrev pub filler_words : ℕ → List ℕ
filler_words count = if count % 2 == 0 then [] else REL_BASED_ABSOLUTE * PAGE_SIZE ∷ []

unfoldable pub block_words : List BaseField → List ℕ
block_words fields = map entry_word fields ++ filler_words (length fields)

-- the page, the size with this header of eight bytes, and the entries
unfoldable pub block_bytes : ℕ → List ℕ → List ℕ
block_bytes page words = number_bytes 4 page ++ (number_bytes 4 (8 + 2 * length words) ++ flat_map (number_bytes 2) words)

abbrev pub block_of : List BaseField → List ℕ
block_of [] = []
block_of (field ∷ fields) = block_bytes (page_of field) (block_words (field ∷ fields))

-- the blocks of all pages
unfoldable pub blocks_of : List BaseField → List ℕ
blocks_of fields = flat_map block_of (pages_of fields)
