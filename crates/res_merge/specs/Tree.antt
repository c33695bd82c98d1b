-- The resource tree of some resources in order, part by part (PE Format, "The .rsrc Section"; the order of the parts is own).
use Rattle.std.specs.Prelude.{ℕ, ◌+◌, ◌-◌, ◌*◌, ◌/◌, Bool, nat_le, not, List, [], ◌∷◌, ◌++◌, length, take, drop, replicate, count_by, sum_by}
use Rattle.std.specs.List.{flat_map}
use Rattle.link_base.specs.Bytes.{number_bytes}
use Rattle.link_base.specs.Fields.{fields}
use Rattle.link_base.specs.declared.numbers.LeNumber.TheVariants.{U16, U32}
use Rattle.res_merge.specs.declared.rows.Row.{Row}
use Rattle.res_merge.specs.Entries.{Key, Number, Text, Entry}
use Rattle.res_merge.specs.ResourceFile.{aligned}
use Rattle.res_merge.specs.Runs.{Run, names_of, kinds_of, kind_of_run, name_of_run}

-- what is added to the offset of a text, and to that of a table
abbrev pub HIGH_BIT : ℕ
HIGH_BIT = 0x8000_0000

abbrev pub TABLE_SIZE : ℕ
TABLE_SIZE = 16

abbrev pub ROW_SIZE : ℕ
ROW_SIZE = 8

abbrev pub LEAF_SIZE : ℕ
LEAF_SIZE = 16

-- ---- tables

-- an entry of a table is a number, or a text by its offset; and where it leads, to a table or to a leaf

abbrev pub is_text_row : Row → Bool
is_text_row row = nat_le HIGH_BIT row.id

abbrev pub row_bytes : Row → List ℕ
row_bytes row = fields (U32 row.id ∷ U32 row.target ∷ [])

abbrev pub table_header : ℕ → ℕ → ℕ → List ℕ
table_header time texts numbers = fields (U32 0 ∷ U32 time ∷ U16 0 ∷ U16 0 ∷ U16 texts ∷ U16 numbers ∷ [])

-- a table: its counts of texts and of numbers, and its entries
unfoldable pub table : ℕ → List Row → List ℕ
table time rows =
    table_header time (count_by is_text_row rows) (count_by (λ row. not (is_text_row row)) rows) ++ flat_map row_bytes rows

-- tables of so many entries each
unfoldable pub tables : ℕ → List Run → List Row → List ℕ
tables time [] rows = []
tables time (run ∷ runs) rows = table time (take run.count rows) ++ tables time runs (drop run.count rows)

abbrev pub table_size : ℕ → ℕ
table_size count = TABLE_SIZE + ROW_SIZE * count

abbrev pub tables_size : List Run → ℕ
tables_size runs = sum_by (λ run. table_size run.count) runs

-- ---- texts

abbrev pub text_size : Key → ℕ
text_size (Number number) = 0
text_size (Text units) = aligned (2 + length units)

abbrev pub texts_size : (Run → Key) → List Run → ℕ
texts_size key runs = sum_by (λ run. text_size (key run)) runs

-- the count of the units, the units, and zeros to a multiple of four
abbrev pub text_bytes : Key → List ℕ
text_bytes (Number number) = []
text_bytes (Text units) =
    number_bytes 2 (length units / 2) ++ (units ++ replicate (aligned (2 + length units) - (2 + length units)) 0)

unfoldable pub texts : (Run → Key) → List Run → List ℕ
texts key runs = flat_map (λ run. text_bytes (key run)) runs

-- ---- entries of tables

abbrev pub row_id : ℕ → Key → ℕ
row_id text (Number number) = number
row_id text (Text units) = HIGH_BIT + text

-- entries that lead to tables: their texts stand one after the other from an offset on, and so do their tables
unfoldable pub rows : (Run → Key) → ℕ → ℕ → List Run → List Row
rows key text table [] = []
rows key text table (run ∷ runs) =
    record { id = row_id text (key run); target = HIGH_BIT + table }
    ∷ rows key (text + text_size (key run)) (table + table_size run.count) runs

-- entries that lead to leaves
unfoldable pub language_rows : ℕ → List Entry → List Row
language_rows leaf [] = []
language_rows leaf (entry ∷ rest) = record { id = entry.language; target = leaf } ∷ language_rows (leaf + LEAF_SIZE) rest

-- ---- leaves and data

-- the RVA of the data, and their size
unfoldable pub leaves : ℕ → List Entry → List ℕ
leaves rva [] = []
leaves rva (entry ∷ rest) =
    fields (U32 rva ∷ U32 (length entry.body) ∷ U32 0 ∷ U32 0 ∷ []) ++ leaves (rva + aligned (length entry.body)) rest

abbrev pub padding : ℕ → ℕ
padding size = aligned size - size

-- the data, behind so many zeros, each from a multiple of four on
unfoldable pub data_from : ℕ → List Entry → List ℕ
data_from filling [] = []
data_from filling (entry ∷ rest) = replicate filling 0 ++ (entry.body ++ data_from (padding (length entry.body)) rest)

-- ---- the parts

-- where the parts stand: the tables of names, those of languages, the leaves, the texts of types, those of names, the data
abbrev pub names_place : List Entry → ℕ
names_place entries = table_size (length (kinds_of entries))

abbrev pub languages_place : List Entry → ℕ
languages_place entries = names_place entries + tables_size (kinds_of entries)

abbrev pub leaves_place : List Entry → ℕ
leaves_place entries = languages_place entries + tables_size (names_of entries)

abbrev pub texts_place : List Entry → ℕ
texts_place entries = leaves_place entries + LEAF_SIZE * length entries

abbrev pub name_texts_place : List Entry → ℕ
name_texts_place entries = texts_place entries + texts_size kind_of_run (kinds_of entries)

abbrev pub data_place : List Entry → ℕ
data_place entries = name_texts_place entries + texts_size name_of_run (names_of entries)

abbrev pub kind_rows : List Entry → List Row
kind_rows entries = rows kind_of_run (texts_place entries) (names_place entries) (kinds_of entries)

abbrev pub name_rows : List Entry → List Row
name_rows entries = rows name_of_run (name_texts_place entries) (languages_place entries) (names_of entries)

-- all tables
unfoldable pub all_tables : ℕ → List Entry → List ℕ
all_tables time entries =
    table time (kind_rows entries)
    ++ (tables time (kinds_of entries) (name_rows entries)
    ++ tables time (names_of entries) (language_rows (leaves_place entries) entries))

-- the tree of resources in order, at an RVA
unfoldable pub tree_of : ℕ → ℕ → List Entry → List ℕ
tree_of time rva entries =
    all_tables time entries
    ++ (leaves (rva + data_place entries) entries
    ++ (texts kind_of_run (kinds_of entries) ++ (texts name_of_run (names_of entries) ++ data_from 0 entries)))

unfoldable pub tree_size : List Entry → ℕ
tree_size entries = data_place entries + length (data_from 0 entries)
