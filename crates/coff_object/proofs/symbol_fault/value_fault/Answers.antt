use Rattle.std.proofs.Common.{sym}
use Rattle.coff_object.specs.ObjectFaults.{of_symbol, first_symbol, has_no_section, value_exceeds}
use Rattle.coff_object.proofs.LoopLemmas.{symbol_found, symbol_more, symbol_none, symbol_passes}
use Rattle.coff_object.proofs.symbol_fault.value_fault.Goals as goal

pub value_exceeds-requires-clause-number : goal.value_exceeds-requires-clause-number
value_exceeds-requires-clause-number c =
    (symbol_passes (of_symbol (has_no_section c.args.file.now)) c.loop-index.index-iterator c.next.new.self (c.in-Some.index, c.in-Some.symbol) c.in-Some.ensures.steps c.loop-index.invariant.numbers).0

pub returns-then-value_exceeds : goal.returns-then-value_exceeds
returns-then-value_exceeds c =
    sym (symbol_found (of_symbol (value_exceeds c.args.file.now)) (first_symbol c.args.file.now (value_exceeds c.args.file.now)) c.loop-index.index-iterator c.next.new.self c.in-Some.index c.in-Some.symbol c.value_exceeds.result c.loop-index.invariant.first c.in-Some.ensures.steps c.value_exceeds.ensures c.if-value_exceeds.true)

pub loop-index-preserved : goal.loop-index-preserved
loop-index-preserved c = record {
  can = tt;
  ends = tt;
  numbers = (symbol_passes (of_symbol (has_no_section c.args.file.now)) c.loop-index.index-iterator c.next.new.self (c.in-Some.index, c.in-Some.symbol) c.in-Some.ensures.steps c.loop-index.invariant.numbers).1;
  first = symbol_more (of_symbol (value_exceeds c.args.file.now)) (first_symbol c.args.file.now (value_exceeds c.args.file.now)) c.loop-index.index-iterator c.next.new.self c.in-Some.index c.in-Some.symbol c.value_exceeds.result c.loop-index.invariant.first c.in-Some.ensures.steps c.value_exceeds.ensures c.if-value_exceeds.false;
}

pub returns : goal.returns
returns c =
    sym (symbol_none (of_symbol (value_exceeds c.args.file.now)) (first_symbol c.args.file.now (value_exceeds c.args.file.now)) c.loop-index.index-iterator c.loop-index.invariant.first c.in-None.ensures.steps.0)
