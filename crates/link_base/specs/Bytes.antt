-- Numbers and texts in a list of bytes. The formats of a link hold numbers with the lowest byte first
-- (PE Format, "COFF File Header (Object and Image)" and the tables after it).
use Rattle.std.specs.Prelude.{ℕ, zero, suc, ◌+◌, Bool, true, ◌&&◌, not, ◌==◌, nat_le, if◌then◌else◌, List, length, take, drop, Option, Some, None, option_map, position, bit_and}
use Rattle.std.specs.Option.{option_or}
use Rattle.byteorder.specs.Endian.{little_from, little_bytes}

-- the number in the `width` bytes from `offset` on, the lowest byte first
unfoldable pub number_at : ℕ → List ℕ → ℕ → ℕ
number_at width bytes offset = little_from offset width bytes

-- the lowest `width` bytes of a number, the lowest first
unfoldable pub number_bytes : ℕ → ℕ → List ℕ
number_bytes width number = little_bytes width number

abbrev pub u16_at : List ℕ → ℕ → ℕ
u16_at bytes offset = number_at 2 bytes offset

abbrev pub u32_at : List ℕ → ℕ → ℕ
u32_at bytes offset = number_at 4 bytes offset

abbrev pub u64_at : List ℕ → ℕ → ℕ
u64_at bytes offset = number_at 8 bytes offset

-- all of the `count` bytes from `offset` on are there
abbrev pub has_bytes : List ℕ → ℕ → ℕ → Bool
has_bytes bytes offset count = nat_le (offset + count) (length bytes)

-- a field of `width` bytes, where it fits
abbrev pub field : ℕ → List ℕ → ℕ → Option ℕ
field width bytes offset = if has_bytes bytes offset width then Some (number_at width bytes offset) else None

-- the `count` bytes from `offset` on
abbrev pub bytes_at : List ℕ → ℕ → ℕ → List ℕ
bytes_at bytes offset count = take count (drop offset bytes)

abbrev pub is_nul : ℕ → Bool
is_nul byte = byte == 0

-- the text from `offset` up to the first NUL at or after it, where there is one
abbrev pub text_at : List ℕ → ℕ → Option (List ℕ)
text_at bytes offset = option_map (λ len. take len (drop offset bytes)) (position is_nul (drop offset bytes))

-- some bit of a mask is set
abbrev pub has_flag : ℕ → ℕ → Bool
has_flag flags mask = not (bit_and flags mask == 0)

-- each number below n passes
unfoldable pub all_below : ℕ → (ℕ → Bool) → Bool
all_below zero test = true
all_below (suc n) test = all_below n test && test n

-- the least number below n that passes
unfoldable pub first_below : ℕ → (ℕ → Bool) → Option ℕ
first_below zero test = None
first_below (suc n) test = option_or (first_below n test) (if test n then Some n else None)
