-- The definitions on a tree of two resources of the type 10 and the language 0x409: the data 0x59 of the number 1, and the
-- data 0x58 of the text N.
use Rattle.std.proofs.Common.{◌≡◌, ◌+◌, ◌<◌, ◌^◌, lit<, lit≤, ℕ, List, [], ◌∷◌, length, Some, None, refl}
use Rattle.std.specs.List.{IsDistinct}
use Rattle.std.proofs.lemmas.List.Elements.{All-from_recursion}
use Rattle.link_base.specs.Bytes.{number_at, number_bytes, bytes_at}
use Rattle.res_merge.specs.Entries.{Number, Text, Entry}
use Rattle.res_merge.specs.ResourceFile.{aligned}
use Rattle.res_merge.specs.Order.{in_order, put_in_order, IsShort, AreMergeable}
use Rattle.res_merge.specs.Runs.{runs}
use Rattle.res_merge.specs.Tree.{table, tables, texts, rows, language_rows, leaves, data_from, all_tables, tree_of, tree_size}
use Rattle.res_merge.specs.Lookup.{row_count, rows_at, is_named, first_named, table_step, leaf_step, leaf_data, place_in}

abbrev pub entries : List Entry
entries =
    record { kind = Number 10; name = Number 1; language = 0x409; body = 0x59 ∷ [] }
    ∷ record { kind = Number 10; name = Text (78 ∷ 0 ∷ []); language = 0x409; body = 0x58 ∷ [] }
    ∷ []

tree : List ℕ
tree = tree_of 0 0x2000 (in_order entries)

-- the counts of the table of names, and its entries: the text first
tree-names : bytes_at tree 0x24 20 ≡ 1 ∷ 0 ∷ 1 ∷ 0 ∷ 0x88 ∷ 0 ∷ 0 ∷ 0x80 ∷ 0x38 ∷ 0 ∷ 0 ∷ 0x80 ∷ 1 ∷ 0 ∷ 0 ∷ 0 ∷ 0x50 ∷ 0 ∷ 0 ∷ 0x80 ∷ []
unfolding tree number_bytes aligned in_order put_in_order runs table tables texts rows language_rows leaves data_from all_tables tree_of
tree-names = refl

tree-size : tree_size (in_order entries) ≡ length tree
unfolding tree number_bytes aligned in_order put_in_order runs table tables texts rows language_rows leaves data_from all_tables tree_of tree_size
tree-size = refl

-- what is found in it: the data of the text, those of the number, and nothing of another type
tree-text : place_in tree 0x2000 (Number 10) (Text (78 ∷ 0 ∷ [])) 0x409 ≡ Some (0x208C, 1)
unfolding tree number_at number_bytes aligned in_order put_in_order runs table tables texts rows language_rows leaves data_from all_tables tree_of row_count rows_at is_named first_named table_step leaf_step leaf_data place_in
tree-text = refl

tree-number : place_in tree 0x2000 (Number 10) (Number 1) 0x409 ≡ Some (0x2090, 1)
unfolding tree number_at number_bytes aligned in_order put_in_order runs table tables texts rows language_rows leaves data_from all_tables tree_of row_count rows_at is_named first_named table_step leaf_step leaf_data place_in
tree-number = refl

tree-other : place_in tree 0x2000 (Number 11) (Number 1) 0x409 ≡ None
unfolding tree number_at number_bytes aligned in_order put_in_order runs table tables texts rows language_rows leaves data_from all_tables tree_of row_count rows_at is_named first_named table_step leaf_step leaf_data place_in
tree-other = refl

-- they can be merged
pub entries-mergeable : AreMergeable entries
unfolding IsDistinct
entries-mergeable = record {
  few = lit≤ tt;
  apart = ((refl, tt), (tt, tt));
  short = All-from_recursion (λ (entry : Entry). IsShort entry.kind × IsShort entry.name) entries ((tt, tt), ((tt, (refl, lit≤ tt)), tt));
  small = lit≤ tt;
}

pub tree-fits : 0x2000 + tree_size (in_order entries) < 2 ^ 32
unfolding tree number_bytes aligned in_order put_in_order runs table tables texts rows language_rows leaves data_from all_tables tree_of tree_size
tree-fits = lit< tt
