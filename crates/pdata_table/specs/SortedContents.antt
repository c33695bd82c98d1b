-- An exception table whose bytes several pieces of an image hold, one after another, and what they hold once its rows
-- are in order.
use Rattle.std.specs.Prelude.{ℕ, Bool, ◌==◌, if◌then◌else◌, List, [], length, map, take, drop, slice_index_or}
use Rattle.std.specs.List.{before_first, flat_map, list_any, range_with_len, sum_by}
use Rattle.pdata_table.specs.Rows.{sorted_table}

-- ---- what pieces hold, by their indexes

abbrev pub content_of : List (List ℕ) → ℕ → List ℕ
content_of contents k = slice_index_or contents k []

-- what some of them hold, one after another
abbrev pub joined : List (List ℕ) → List ℕ → List ℕ
joined contents pieces = flat_map (content_of contents) pieces

abbrev pub len_of : List (List ℕ) → ℕ → ℕ
len_of contents k = length (content_of contents k)

abbrev pub is_among : ℕ → List ℕ → Bool
is_among k pieces = list_any (λ piece. piece == k) pieces

-- the part of a table that a piece holds, where these pieces hold the table one after another, each as many bytes as
-- its size: it begins where those before it end
unfoldable pub part_of : (size : ℕ → ℕ) → List ℕ → ℕ → List ℕ → List ℕ
part_of size pieces k table = take (size k) (drop (sum_by size (before_first (λ piece. piece == k) pieces)) table)

-- a piece of the exception table holds its part of the sorted rows, and any other what it holds
abbrev pub sorted_at : List ℕ → List (List ℕ) → ℕ → List ℕ
sorted_at pieces contents k =
    if is_among k pieces then part_of (len_of contents) pieces k (sorted_table (joined contents pieces)) else content_of contents k

-- the contents of pieces, once the rows of the exception table, whose pieces these are, are put in order
unfoldable pub sorted_contents : List ℕ → List (List ℕ) → List (List ℕ)
sorted_contents pieces contents = map (sorted_at pieces contents) (range_with_len 0 (length contents))
