-- Numbers as words have them: decimal digits without a sign and without a leading zero, or `0x` and 1 to 16 hexadecimal
-- digits. Own.
use Rattle.std.specs.Prelude.{ℕ, ◌+◌, ◌*◌, Bool, ◌&&◌, ◌||◌, not, ◌==◌, nat_eq, nat_le, nat_lt, if◌then◌else◌, List, length, slice_index, drop, Option, Some, None, fold, codes}
use Rattle.std.specs.Char.{digit_value, is_digit}
use Rattle.std.specs.List.{list_all, starts_with}
use Rattle.std.specs.Str.{byte}

abbrev pub more_digits : ℕ → ℕ → ℕ → ℕ
more_digits base number digit = base * number + digit_value digit

-- the number that digits write in a base
unfoldable pub digits_value : ℕ → List ℕ → ℕ
digits_value base text = fold (more_digits base) 0 text

-- digits of a base alone, one at least
unfoldable pub are_digits : ℕ → List ℕ → Bool
are_digits base text = nat_lt 0 (length text) && list_all (λ b. is_digit b base) text

-- the number of the text, where it is one in this base and at most `limit`
unfoldable pub digits_up_to : ℕ → ℕ → List ℕ → Option ℕ
digits_up_to base limit text =
    if are_digits base text && nat_le (digits_value base text) limit then Some (digits_value base text) else None

-- decimal: no zero stands before other digits
unfoldable pub decimal_up_to : ℕ → List ℕ → Option ℕ
decimal_up_to limit text =
    if length text == 1 || not (slice_index text 0 == byte "0") then digits_up_to 10 limit text else None

-- decimal, or hexadecimal after `0x`
unfoldable pub number_up_to : ℕ → List ℕ → Option ℕ
number_up_to limit text =
    if starts_with nat_eq text (codes "0x")
    then (if nat_le (length text) 18 then digits_up_to 16 limit (drop 2 text) else None) else decimal_up_to limit text
