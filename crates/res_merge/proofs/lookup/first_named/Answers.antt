use Rattle.std.proofs.Common.{sym, ◌∙◌, arith}
use Rattle.res_merge.specs.Entries.{key_of}
use Rattle.res_merge.proofs.LookupLemmas.{left_all, found, passed, none_left}
use Rattle.res_merge.proofs.lookup.first_named.Goals as goal

pub loop-index-init : goal.loop-index-init
loop-index-init c = record { left = left_all c.args.part.now (key_of c.args.key) c.args.table c.row_count-count.result c.row_count-count.ensures.count }

pub returns-then-is_named : goal.returns-then-is_named
returns-then-is_named c =
    found c.args.part.now (key_of c.args.key) c.args.table c.loop-index.index c.row_count-count.result _ c.loop-index.invariant.left c.row_at-row.result (omega (arith, c.loop-index-test.true)) c.row_at-row.ensures (sym c.is_named.ensures ∙ c.if-is_named.true)

pub loop-index-preserved : goal.loop-index-preserved
loop-index-preserved c = record {
  left = passed c.args.part.now (key_of c.args.key) c.args.table c.loop-index.index c.row_count-count.result _ c.loop-index.invariant.left c.row_at-row.result (omega (arith, c.loop-index-test.true)) c.row_at-row.ensures (sym c.is_named.ensures ∙ c.if-is_named.false);
}

pub returns : goal.returns
returns c =
    none_left c.args.part.now (key_of c.args.key) c.args.table c.loop-index.index c.row_count-count.result _ c.loop-index.invariant.left (omega (arith, c.loop-index-test.false))
