-- The definitions on small tables: three rows, of which two begin alike, and rows whose numbers lie above 2 ^ 31.
use Rattle.std.proofs.Common.{◌≡◌, ℕ, List, [], ◌∷◌, refl}
use Rattle.sorted_lists.specs.Order.{inserted, in_order}
use Rattle.pdata_table.specs.Rows.{row_at, rows_of, row_bytes, sorted_table}
use Rattle.link_base.specs.Bytes.{number_at, number_bytes}

three : List ℕ
three =
    0x20 ∷ 0x10 ∷ 0 ∷ 0 ∷ 0x38 ∷ 0x10 ∷ 0 ∷ 0 ∷ 0x08 ∷ 0x30 ∷ 0 ∷ 0 ∷
    0x00 ∷ 0x10 ∷ 0 ∷ 0 ∷ 0x1B ∷ 0x10 ∷ 0 ∷ 0 ∷ 0x00 ∷ 0x30 ∷ 0 ∷ 0 ∷
    0x20 ∷ 0x10 ∷ 0 ∷ 0 ∷ 0x30 ∷ 0x10 ∷ 0 ∷ 0 ∷ 0x10 ∷ 0x30 ∷ 0 ∷ 0 ∷ []

second_row : row_at three 1 ≡ record { begin = 0x1000; end = 0x101B; unwind = 0x3000 }
unfolding three number_at
second_row = refl

three_sorted : sorted_table three ≡
    0x00 ∷ 0x10 ∷ 0 ∷ 0 ∷ 0x1B ∷ 0x10 ∷ 0 ∷ 0 ∷ 0x00 ∷ 0x30 ∷ 0 ∷ 0 ∷
    0x20 ∷ 0x10 ∷ 0 ∷ 0 ∷ 0x30 ∷ 0x10 ∷ 0 ∷ 0 ∷ 0x10 ∷ 0x30 ∷ 0 ∷ 0 ∷
    0x20 ∷ 0x10 ∷ 0 ∷ 0 ∷ 0x38 ∷ 0x10 ∷ 0 ∷ 0 ∷ 0x08 ∷ 0x30 ∷ 0 ∷ 0 ∷ []
unfolding three number_at number_bytes rows_of row_bytes inserted in_order sorted_table
three_sorted = refl

high : List ℕ
high =
    0x00 ∷ 0x00 ∷ 0x00 ∷ 0x80 ∷ 0x08 ∷ 0x00 ∷ 0x00 ∷ 0x80 ∷ 0 ∷ 0x30 ∷ 0 ∷ 0 ∷
    0xF0 ∷ 0xFF ∷ 0xFF ∷ 0x7F ∷ 0x00 ∷ 0x00 ∷ 0x00 ∷ 0x80 ∷ 0 ∷ 0x30 ∷ 0 ∷ 0 ∷ []

high_sorted : sorted_table high ≡
    0xF0 ∷ 0xFF ∷ 0xFF ∷ 0x7F ∷ 0x00 ∷ 0x00 ∷ 0x00 ∷ 0x80 ∷ 0 ∷ 0x30 ∷ 0 ∷ 0 ∷
    0x00 ∷ 0x00 ∷ 0x00 ∷ 0x80 ∷ 0x08 ∷ 0x00 ∷ 0x00 ∷ 0x80 ∷ 0 ∷ 0x30 ∷ 0 ∷ 0 ∷ []
unfolding high number_at number_bytes rows_of row_bytes inserted in_order sorted_table
high_sorted = refl
