-- The text of a map: a list of lines, each a word and a list of fields. Own.
use Rattle.std.specs.Prelude.{ℕ, List, [], ◌∷◌, ◌++◌, Option, Some, None, codes}
use Rattle.std.specs.List.{flat_map, enumerate_from}
use Rattle.std.specs.Int.{to_be_bytes, w32}
use Rattle.std.specs.Fmt.{decimal}
use Rattle.hex.specs.Hex.{encode_upper}
use Rattle.diagnostics.specs.LineText.{operand, escaped, file_text, address_text}
use Rattle.map_file.specs.declared.field.Field.{Field}
use Rattle.map_file.specs.declared.field.Field.TheVariants.{Decimal, Hexadecimal, Address, Text, Member}
use Rattle.map_file.specs.declared.rows.MapModule.{MapModule}
use Rattle.map_file.specs.declared.rows.MapSection.{MapSection}
use Rattle.map_file.specs.declared.rows.MapPiece.{MapPiece}
use Rattle.map_file.specs.declared.rows.MapPublic.{MapPublic}
use Rattle.map_file.specs.declared.rows.MapRows.{MapRows}

-- ---- a line

-- a number of 32 bits in eight upper-case hexadecimal digits
abbrev pub hexadecimal : ℕ → List ℕ
hexadecimal number = encode_upper (to_be_bytes w32 number)

abbrev pub field_text : Field → List ℕ
field_text (Decimal number) = decimal number
field_text (Hexadecimal number) = hexadecimal number
field_text (Address address) = address_text address
field_text (Text name) = escaped name
field_text (Member file member) = file_text file (Some member)

abbrev pub blank_and_field : Field → List ℕ
blank_and_field field = operand (field_text field)

-- the word, the fields, each after one blank, and a newline
abbrev pub line_text : List ℕ → List Field → List ℕ
line_text word fields = (word ++ flat_map blank_and_field fields) ++ (10 ∷ [])

-- ---- the lines

-- the address that the image prefers, its size, and its entry
unfoldable pub image_line : ℕ → ℕ → ℕ → List ℕ
image_line base size entry =
    line_text (codes "image") (Address base ∷ Hexadecimal size ∷ Text (codes "entry") ∷ Hexadecimal entry ∷ [])

abbrev pub module_field : MapModule → Option (List ℕ) → Field
module_field row None = Text row.file
module_field row (Some member) = Member row.file member

-- a module, by its position
unfoldable pub module_line : ℕ × MapModule → List ℕ
module_line (position, row) = line_text (codes "module") (Decimal position ∷ module_field row row.member ∷ [])

-- a section, by its number
unfoldable pub section_line : ℕ × MapSection → List ℕ
section_line (number, row) =
    line_text (codes "section") (Decimal number ∷ Text row.name ∷ Hexadecimal row.rva ∷ Hexadecimal row.size ∷ Hexadecimal row.flags ∷ [])

unfoldable pub piece_line : MapPiece → List ℕ
piece_line row = line_text (codes "piece") (Hexadecimal row.rva ∷ Hexadecimal row.size ∷ Decimal row.«module» ∷ Text row.name ∷ [])

unfoldable pub public_line : MapPublic → List ℕ
public_line row = line_text (codes "public") (Hexadecimal row.rva ∷ Decimal row.«module» ∷ Text row.name ∷ [])

-- ---- the whole

-- modules are counted from 0, sections from 1
abbrev pub module_lines : List MapModule → List ℕ
module_lines rows = flat_map module_line (enumerate_from 0 rows)

abbrev pub section_lines : List MapSection → List ℕ
section_lines rows = flat_map section_line (enumerate_from 1 rows)

abbrev pub map_text : MapRows → List ℕ
map_text rows =
    image_line rows.base rows.image rows.entry
    ++ (module_lines rows.modules.items
    ++ (section_lines rows.sections.items ++ (flat_map piece_line rows.pieces.items ++ flat_map public_line rows.publics.items)))
