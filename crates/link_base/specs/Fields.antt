-- The bytes of a table's fields (PE Format, the tables of its headers).
use Rattle.std.specs.Prelude.{ℕ, List}
use Rattle.std.specs.List.{flat_map}
use Rattle.link_base.specs.declared.numbers.LeNumber.{LeNumber}
use Rattle.link_base.specs.declared.numbers.LeNumber.TheVariants.{U8, U16, U32, U64}
use Rattle.link_base.specs.Bytes.{number_bytes}

abbrev pub field_bytes : LeNumber → List ℕ
field_bytes (U8 number) = number_bytes 1 number
field_bytes (U16 number) = number_bytes 2 number
field_bytes (U32 number) = number_bytes 4 number
field_bytes (U64 number) = number_bytes 8 number

-- one after the other
abbrev pub fields : List LeNumber → List ℕ
fields table = flat_map field_bytes table
