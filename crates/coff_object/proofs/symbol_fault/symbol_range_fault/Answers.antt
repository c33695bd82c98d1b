use Rattle.std.proofs.Common.{sym, arith}
use Rattle.coff_object.proofs.RecordLemmas.{leaving_found, leaving_passed, none_left, range_of_symbol, range_of_record, range_none}
use Rattle.coff_object.proofs.symbol_fault.symbol_range_fault.Goals as goal

pub returns-then-aux_leave : goal.returns-then-aux_leave
returns-then-aux_leave c =
    let found = leaving_found c.args.file.now c.record_count-count.result c.loop-index.index c.aux_count-aux.result c.aux_leave.result c.record_count-count.ensures (omega (arith, c.record_count-count.ensures, c.whole_records-whole.ensures.within)) c.aux_count-aux.ensures c.aux_leave.ensures c.if-aux_leave.true c.loop-index.invariant in
    sym (range_of_symbol c.args.file.now c.whole_records-whole.result c.loop-index.index c.whole_records-whole.ensures.torn c.whole_records-whole.ensures.none c.whole_records-whole.ensures.within (omega arith) found)

pub loop-index-preserved : goal.loop-index-preserved
loop-index-preserved c =
    leaving_passed c.args.file.now c.record_count-count.result c.loop-index.index c.next_start-index.result c.aux_count-aux.result c.aux_leave.result c.record_count-count.ensures (omega (arith, c.record_count-count.ensures, c.whole_records-whole.ensures.within)) c.aux_count-aux.ensures c.aux_leave.ensures c.if-aux_leave.false c.next_start-index.ensures.there c.next_start-index.ensures.beyond c.loop-index.invariant

pub returns-then-whole-count : goal.returns-then-whole-count
returns-then-whole-count c =
    sym (range_of_record c.args.file.now c.whole_records-whole.result c.loop-index.index (c.whole_records-whole.ensures.torn (omega (arith, c.record_count-count.ensures))) (omega arith) c.loop-index.invariant)

pub returns-else-whole-count : goal.returns-else-whole-count
returns-else-whole-count c =
    sym (range_none c.args.file.now (c.whole_records-whole.ensures.none (omega (arith, c.record_count-count.ensures, c.whole_records-whole.ensures.within))) (none_left c.args.file.now c.loop-index.index (omega (arith, c.record_count-count.ensures)) c.loop-index.invariant))
