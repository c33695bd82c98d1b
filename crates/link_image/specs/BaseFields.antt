-- The fields of a link that hold addresses: those that the table of base relocations lists (PE Format, "The .reloc Section
-- (Image Only)").
use Rattle.std.specs.Prelude.{◌≡◌, ◌<◌, ℕ, true, Bool, ◌&&◌, not, List, length, slice_index, slice_index_or}
use Rattle.std.specs.List.{Contains, list_any, range_with_len}
use Rattle.address_fields.specs.AddressFields.{base_field}
use Rattle.base_reloc.specs.declared.field.BaseField.{BaseField}
use Rattle.base_reloc.specs.PageBlocks.{IsAscending}
use Rattle.base_reloc.specs.Raising.{ShareNoByte}
use Rattle.relocate.specs.Field.{fix_at}
use Rattle.relocate.specs.PatchedBytes.{is_based}
use Rattle.link_pieces.specs.TablePieces.{KeptParts, whole_pieces}
use Rattle.link_words.specs.Outcome.{LinkOptions}
use Rattle.link_plan.specs.Planned.{planned_fixes}

-- ---- whether there are any

abbrev pub piece_holds_address : KeptParts → ℕ → Bool
piece_holds_address link k = list_any is_based (planned_fixes link k)

unfoldable pub holds_address : KeptParts → Bool
holds_address link = list_any (piece_holds_address link) (range_with_len 0 (length (whole_pieces link)))

-- the image has a table of base relocations where it can move and holds an address
abbrev pub is_relocated : LinkOptions → KeptParts → Bool
is_relocated options link = not options.fixed && holds_address link

-- ---- which they are

-- a relocation of a piece holds an address in this field
pub record IsBaseField (link : KeptParts) (rvas : List ℕ) (field : BaseField) : Type 0 where
  pub piece : ℕ
  pub index : ℕ
  pub there : piece < length (whole_pieces link)
  pub within : index < length (planned_fixes link piece)
  pub based : is_based (fix_at (planned_fixes link piece) index) ≡ true
  pub is : field ≡ base_field (slice_index rvas piece) (fix_at (planned_fixes link piece) index)

-- all of them and no other field, each once and in the order of the RVAs, and no two share a byte
pub record AreBaseFields (link : KeptParts) (rvas : List ℕ) (fields : List BaseField) : Type 0 where
  pub ascending : IsAscending fields
  pub apart : ShareNoByte fields
  pub listed : (n : ℕ) (d : BaseField) → n < length fields → IsBaseField link rvas (slice_index_or fields n d)
  pub all : (field : BaseField) → IsBaseField link rvas field → Contains fields field
