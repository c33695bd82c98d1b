-- The section that a piece stands in. Own.
use Rattle.std.specs.Prelude.{ℕ, Bool, List, [], length, map, slice_index_or, unwrap_or, ◌==◌}
use Rattle.std.specs.List.{list_any, range_with_len}
use Rattle.link_base.specs.Bytes.{first_below}
use Rattle.section_group.specs.Uniqueness.{SectionRow}

abbrev pub no_row : SectionRow
no_row = record { name = []; flags = 0; pieces = [] }

abbrev pub row_holds : List SectionRow → ℕ → ℕ → Bool
row_holds rows k i = list_any (λ member. member == k) (slice_index_or rows i no_row).pieces

-- its index; the number of sections for a piece that stands in none
abbrev pub section_of : List SectionRow → ℕ → ℕ
section_of rows k = unwrap_or (first_below (length rows) (row_holds rows k)) (length rows)

-- that of each of the first pieces
unfoldable pub owners : List SectionRow → ℕ → List ℕ
owners rows count = map (section_of rows) (range_with_len 0 count)
