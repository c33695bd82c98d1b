-- How a printed line shows names and numbers. Own.
use Rattle.std.specs.Prelude.{ℕ, ◌+◌, ◌*◌, ◌/◌, ◌%◌, Bool, ◌&&◌, not, ◌==◌, nat_le, nat_lt, if◌then◌else◌, List, [], ◌∷◌, ◌++◌, length, map, Option, Some, None}
use Rattle.std.specs.List.{flat_map, range_with_len}
use Rattle.std.specs.Int.{to_be_bytes, w16, w64}
use Rattle.std.specs.Fmt.{decimal}
use Rattle.hex.specs.Hex.{encode_upper}
use Rattle.link_base.specs.Bytes.{u16_at}
use Rattle.link_base.specs.declared.kinds.resource.ResName.{ResName}
use Rattle.link_base.specs.declared.kinds.resource.ResName.TheVariants.{Number, Text}

-- an upper-case hexadecimal digit
abbrev pub hex_digit : ℕ → ℕ
hex_digit n = if nat_lt n 10 then 48 + n else 55 + n

-- a byte that prints as itself: a visible ASCII character other than the backslash
abbrev pub prints_plain : ℕ → Bool
prints_plain byte = nat_le 33 byte && nat_le byte 126 && not (byte == 92)

-- any other byte prints as `\x` and two upper-case digits
abbrev pub escaped_byte : ℕ → List ℕ
escaped_byte byte = if prints_plain byte then byte ∷ [] else 92 ∷ 120 ∷ hex_digit (byte / 16) ∷ hex_digit (byte % 16) ∷ []

abbrev pub escaped : List ℕ → List ℕ
escaped text = flat_map escaped_byte text

-- an operand stands after one blank
abbrev pub operand : List ℕ → List ℕ
operand text = 32 ∷ text

-- a file and, after a colon, the member of it
abbrev pub file_text : List ℕ → Option (List ℕ) → List ℕ
file_text file None = escaped file
file_text file (Some member) = escaped file ++ (58 ∷ escaped member)

-- a module by its position, or a dash for the command line
abbrev pub module_text : Option ℕ → List ℕ
module_text None = 45 ∷ []
module_text (Some position) = decimal position

-- an address in sixteen upper-case hexadecimal digits
abbrev pub address_text : ℕ → List ℕ
address_text address = encode_upper (to_be_bytes w64 address)

-- a relocation, by its module, its section and its index in the section
abbrev pub place_operands : Option ℕ → ℕ → ℕ → List ℕ
place_operands position section relocation =
    operand (module_text position) ++ (operand (decimal section) ++ operand (decimal relocation))

-- ---- types and names of resources

-- a unit of UTF-16 that prints as itself: a visible ASCII character other than the number sign and the backslash
abbrev pub unit_prints_plain : ℕ → Bool
unit_prints_plain unit = nat_le 33 unit && nat_le unit 126 && not (unit == 35) && not (unit == 92)

-- any other unit prints as `\u` and four upper-case digits
abbrev pub escaped_unit : ℕ → List ℕ
escaped_unit unit = if unit_prints_plain unit then unit ∷ [] else 92 ∷ 117 ∷ encode_upper (to_be_bytes w16 unit)

-- the units of a text, each of two bytes, the lower first
abbrev pub text_units : List ℕ → List ℕ
text_units text = map (λ k. u16_at text (2 * k)) (range_with_len 0 (length text / 2))

-- a number prints in decimal, after a number sign
abbrev pub resource_text : ResName → List ℕ
resource_text (Number number) = 35 ∷ decimal number
resource_text (Text text) = flat_map escaped_unit (text_units text.now)
