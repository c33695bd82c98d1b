use Rattle.std.proofs.Common.{ℕ, ◌/◌, ◌≡◌, ◌∙◌, length, map, ap, arith, rules}
use Rattle.std.specs.List.{range_with_len}
use Rattle.std.proofs.lemmas.List.FromFn.{map-range_with_len_more}
use Rattle.pdata_table.specs.Rows.{row_at, rows_of}
use Rattle.pdata_table.proofs.sorting.rows_of.Goals as goal

pub loop-index-preserved : goal.loop-index-preserved
loop-index-preserved c =
    let more = map-range_with_len_more (row_at c.args.table.now) 0 c.loop-index.index c.loop-index.index (omega arith) in
    search (rules, more)

pub returns : goal.returns
unfolding rows_of
returns c =
    let all : c.loop-index.index ≡ length c.args.table.now / 12 = omega arith in
    c.loop-index.invariant ∙ ap (λ (n : ℕ). map (row_at c.args.table.now) (range_with_len 0 n)) all
