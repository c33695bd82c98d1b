-- Decimal numbers in the fields of a format. Own.
use Rattle.std.specs.Prelude.{ℕ, ◌+◌, ◌-◌, ◌*◌, Bool, ◌&&◌, nat_le, nat_lt, if◌then◌else◌, List, length, Option, Some, None, fold}
use Rattle.std.specs.List.{list_all}

abbrev pub is_digit : ℕ → Bool
is_digit byte = nat_le 48 byte && nat_le byte 57

abbrev pub decimal_value : List ℕ → ℕ
decimal_value digits = fold (λ value digit. 10 * value + (digit - 48)) 0 digits

-- the number that a text of digits writes, zeros before it allowed; an empty text, or one with another byte, writes none
unfoldable pub decimal_number : List ℕ → Option ℕ
decimal_number text = if nat_lt 0 (length text) && list_all is_digit text then Some (decimal_value text) else None
