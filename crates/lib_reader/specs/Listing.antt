-- What a directory lists: pairs of a name and the offset of the header of the member that defines it, in the
-- directory's order.
use Rattle.std.specs.Prelude.{◌≡◌, ◌<◌, ◌≤◌, ◌+◌, ◌^◌, ℕ, zero, suc, Bool, true, false, ◌||◌, not, nat_eq, if◌then◌else◌, List, [], ◌∷◌, drop, Option, Some, None}
use lib.Pointwise.{pointwise}
use Rattle.lib_reader.specs.Texts.{first_text, behind_text, texts_end}
use Rattle.lib_reader.specs.FirstDirectory.{first_count, first_offset, first_names_place, first_table_leaves}
use Rattle.lib_reader.specs.SecondDirectory.{second_count, second_offset, second_names_place, second_table_leaves}

-- ---- a directory of either form: the second linker member, or the first

unfoldable pub listed_count : Bool → List ℕ → ℕ
listed_count is_second directory = if is_second then second_count directory else first_count directory

unfoldable pub listed_offset : Bool → List ℕ → ℕ → ℕ
listed_offset is_second directory index =
    if is_second then second_offset directory index else first_offset directory index

unfoldable pub names_place : Bool → List ℕ → ℕ
names_place is_second directory = if is_second then second_names_place directory else first_names_place directory

-- the counts, the offsets or the indices leave the member
unfoldable pub table_leaves : Bool → List ℕ → Bool
table_leaves is_second directory = if is_second then second_table_leaves directory else first_table_leaves directory

-- the names, behind the table
abbrev pub listed_names : Bool → List ℕ → List ℕ
listed_names is_second directory = drop (names_place is_second directory) directory

-- the table or the names leave the member
unfoldable pub directory_is_bad : Bool → List ℕ → Bool
directory_is_bad is_second directory =
    table_leaves is_second directory
    || not (texts_end (listed_count is_second directory) (listed_names is_second directory))

-- ---- listings

abbrev pub Entry : Type 0
Entry = List ℕ × ℕ

-- `n` listings from an index on, whose names stand at the start of a text
unfoldable pub listings_from : (ℕ → ℕ) → ℕ → ℕ → List ℕ → List Entry
listings_from offset index zero text = []
listings_from offset index (suc n) text =
    (first_text text, offset index) ∷ listings_from offset (suc index) n (behind_text text)

-- all that a directory lists
unfoldable pub listings_in : Bool → List ℕ → List Entry
listings_in is_second directory =
    listings_from (listed_offset is_second directory) 0 (listed_count is_second directory) (listed_names is_second directory)

-- the offset of the first listing of a name
unfoldable pub first_of_name : List ℕ → List Entry → Option ℕ
first_of_name name [] = None
first_of_name name (entry ∷ rest) = if pointwise nat_eq entry.0 name then Some entry.1 else first_of_name name rest

-- ---- listings that are still to come

-- `left` more can be read from an index on, whose names stand at the start of a text
pub record IsReadable (is_second : Bool) (directory : List ℕ) (index left : ℕ) (names : List ℕ) : Type 0 where
  pub table : table_leaves is_second directory ≡ false
  pub there : index + left ≤ listed_count is_second directory
  pub fits : index + left < 2 ^ 32
  pub names_end : texts_end left names ≡ true
