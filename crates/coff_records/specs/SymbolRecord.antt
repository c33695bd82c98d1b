-- A symbol record with the string table that its name may stand in (PE Format, "COFF Symbol Table"; for big objects LLVM,
-- `COFF::symbol32`).
use Rattle.std.specs.Prelude.{ℕ, ℤ, pos, ◌-ℤ◌, Bool, false, ◌==◌, nat_le, if◌then◌else◌, List, [], slice_index, Option, Some, None, is_none, unwrap_or}
use Rattle.std.specs.List.{before_first}
use Rattle.link_base.specs.Bytes.{u16_at, u32_at, bytes_at, is_nul}
use Rattle.link_base.specs.PeFormat.{SIZEOF_SYMBOL, SIZEOF_SYMBOL_EX}
use Rattle.coff_records.specs.Offsets.{SIZEOF_SHORT_NAME, SYMBOL_NAME_OFFSET, SYMBOL_VALUE, SYMBOL_SECTION_NUMBER, SYMBOL_TYPE, SYMBOL_STORAGE_CLASS, SYMBOL_NUMBER_OF_AUX_SYMBOLS, BIG_SYMBOL_TYPE, BIG_SYMBOL_STORAGE_CLASS, BIG_SYMBOL_NUMBER_OF_AUX_SYMBOLS}
use Rattle.coff_records.specs.StringTable.{text_in}

-- a record of a plain object has 18 bytes, one of a big object 20
pub record SymbolView : Type 0 where
  pub is_big : Bool
  pub bytes : List ℕ
  pub strings : List ℕ

abbrev pub record_size : Bool → ℕ
record_size is_big = if is_big then SIZEOF_SYMBOL_EX else SIZEOF_SYMBOL

-- ---- its name

-- where a name field of four bytes of zero says that the name stands in the string table
unfoldable pub long_name_offset_in : SymbolView → Option ℕ
long_name_offset_in symbol =
    if u32_at symbol.bytes 0 == 0 then Some (u32_at symbol.bytes SYMBOL_NAME_OFFSET) else None

abbrev pub short_symbol_name : List ℕ → List ℕ
short_symbol_name bytes = before_first is_nul (bytes_at bytes 0 SIZEOF_SHORT_NAME)

-- the text there, or that of the field itself, which ends at its first NUL
unfoldable pub name_in : SymbolView → List ℕ
name_in symbol =
    if u32_at symbol.bytes 0 == 0 then unwrap_or (text_in symbol.strings (u32_at symbol.bytes SYMBOL_NAME_OFFSET)) []
    else short_symbol_name symbol.bytes

-- an offset that is written is that of no text
abbrev pub lacks_text : List ℕ → Option ℕ → Bool
lacks_text strings None = false
lacks_text strings (Some offset) = is_none (text_in strings offset)

-- a symbol's name refers to no text of the string table
unfoldable pub lacks_symbol_name : SymbolView → Bool
lacks_symbol_name symbol = lacks_text symbol.strings (long_name_offset_in symbol)

-- ---- its numbers

abbrev pub value_in : SymbolView → ℕ
value_in symbol = u32_at symbol.bytes SYMBOL_VALUE

-- the number that a field means: up to the greatest it is itself, and above it is less by the modulus
abbrev pub signed_field : ℕ → ℕ → ℕ → ℤ
signed_field greatest modulus field = if nat_le field greatest then pos field else pos field -ℤ pos modulus

-- in a plain object the numbers above 65,279 are the negative ones; in a big one the field is a signed number.
-- 0 is undefined, -1 absolute, -2 for debuggers
unfoldable pub section_number_in : SymbolView → ℤ
section_number_in symbol =
    if symbol.is_big then signed_field 0x7FFF_FFFF 0x1_0000_0000 (u32_at symbol.bytes SYMBOL_SECTION_NUMBER)
    else signed_field 65279 65536 (u16_at symbol.bytes SYMBOL_SECTION_NUMBER)

-- the section that a number is that of: 0 where it is that of none
abbrev pub section_of_number : ℤ → ℕ
section_of_number (pos number) = number
section_of_number _ = 0

unfoldable pub kind_in : SymbolView → ℕ
kind_in symbol = u16_at symbol.bytes (if symbol.is_big then BIG_SYMBOL_TYPE else SYMBOL_TYPE)

unfoldable pub class_in : SymbolView → ℕ
class_in symbol = slice_index symbol.bytes (if symbol.is_big then BIG_SYMBOL_STORAGE_CLASS else SYMBOL_STORAGE_CLASS)

-- how many auxiliary records follow it
unfoldable pub aux_count_in : SymbolView → ℕ
aux_count_in symbol =
    slice_index symbol.bytes (if symbol.is_big then BIG_SYMBOL_NUMBER_OF_AUX_SYMBOLS else SYMBOL_NUMBER_OF_AUX_SYMBOLS)
