use Rattle.std.proofs.Common.{◌≡◌, true, false, sym, refl, ◌∙◌, arith}
use Rattle.std.specs.Ordering.{is_lt}
use Rattle.std.proofs.lemmas.Bool.{false≢true}
use Rattle.pdata_table.specs.Rows.{row_cmp}
use Rattle.pdata_table.proofs.RowLemmas.{length_rows_of}
use Rattle.pdata_table.proofs.OrderLemmas.{less_is}
use Rattle.pdata_table.proofs.TableLemmas.{ascend_more, descends, sorted_stays}
use Rattle.pdata_table.proofs.sorting.is_sorted.Goals as goal

pub returns-then-lt : goal.returns-then-lt
returns-then-lt c =
    let below : is_lt (row_cmp c.row_in.result c.row_in-in-loop-index.result) ≡ true = sym (less_is c.row_in.result c.row_in-in-loop-index.result) ∙ sym c.lt.ensures ∙ c.if-lt.true in (
      λ wrong. absurd (false≢true wrong),
      λ is. absurd (descends c.args.table.now c.loop-index.index c.row_in.result c.row_in-in-loop-index.result (omega arith) (omega arith) c.row_in.ensures c.row_in-in-loop-index.ensures below (λ k. (c.type_inv.table k).fits) is),
    )

pub loop-index-preserved : goal.loop-index-preserved
loop-index-preserved c =
    let behind : is_lt (row_cmp c.row_in.result c.row_in-in-loop-index.result) ≡ false = sym (less_is c.row_in.result c.row_in-in-loop-index.result) ∙ sym c.lt.ensures ∙ c.if-lt.false in
    ascend_more c.args.table.now c.loop-index.index c.row_in.result c.row_in-in-loop-index.result (omega arith) (omega arith) c.row_in.ensures c.row_in-in-loop-index.ensures behind c.loop-index.invariant

pub returns : goal.returns
returns c =
    let count = length_rows_of c.args.table.now in
    let past = c.loop-index-test.false in (
      λ _. sorted_stays c.args.table.now (λ k. (c.type_inv.table k).fits) c.requires (λ k d low lt. c.loop-index.invariant k d low (omega (arith, lt, count, past))),
      λ _. refl,
    )
