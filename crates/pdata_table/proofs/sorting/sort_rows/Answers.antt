use Rattle.std.proofs.Common.{ap, ◌∙◌, subst, length, List, arith}
use Rattle.std.specs.List.Sorted.{IsPermutation}
use Rattle.std.proofs.lemmas.List.Sorted.{length_permutation}
use Rattle.pdata_table.specs.declared.row.Row.{Row}
use Rattle.pdata_table.specs.Rows.{table_of}
use Rattle.pdata_table.proofs.RowLemmas.{length_rows_of}
use Rattle.pdata_table.proofs.TableLemmas.{sorted_is}
use Rattle.pdata_table.proofs.sorting.sort_rows.Goals as goal

pub write_rows-requires : goal.write_rows-requires
write_rows-requires c =
    let kept = length_permutation c.in_ok-rows.rows.items c.sort.new.rows.items c.sort.ensures.permutation in
    let read = ap length c.in_ok-rows.ensures in
    let given = ap length c.deref.ensures.value in
    let count = length_rows_of c.args.table.now in
    omega (arith, kept, read, given, count, c.requires)

pub returns-clause-sorted : goal.returns-clause-sorted
returns-clause-sorted c =
    let moved = subst (λ (rows : List Row). IsPermutation rows c.sort.new.rows.items) c.in_ok-rows.ensures c.sort.ensures.permutation in
    c.write_rows.ensures
    ∙ ap table_of c.deref.ensures.value
    ∙ sorted_is c.args.table.now c.sort.new.rows.items moved c.sort.ensures.sorted
