use Rattle.std.proofs.Common.{sym}
use Rattle.coff_object.specs.ObjectFaults.{of_symbol, first_symbol, has_no_section}
use Rattle.coff_object.proofs.LoopLemmas.{symbol_found, symbol_more, symbol_none}
use Rattle.coff_object.proofs.symbol_fault.section_number_fault.Goals as goal

pub returns-then-has_no_section : goal.returns-then-has_no_section
returns-then-has_no_section c =
    sym (symbol_found (of_symbol (has_no_section c.args.file.now)) (first_symbol c.args.file.now (has_no_section c.args.file.now)) c.loop-index.index-iterator c.next.new.self c.in-Some.index c.in-Some.symbol c.has_no_section.result c.loop-index.invariant.first c.in-Some.ensures.steps c.has_no_section.ensures c.if-has_no_section.true)

pub loop-index-preserved : goal.loop-index-preserved
loop-index-preserved c = record {
  can = tt;
  ends = tt;
  first = symbol_more (of_symbol (has_no_section c.args.file.now)) (first_symbol c.args.file.now (has_no_section c.args.file.now)) c.loop-index.index-iterator c.next.new.self c.in-Some.index c.in-Some.symbol c.has_no_section.result c.loop-index.invariant.first c.in-Some.ensures.steps c.has_no_section.ensures c.if-has_no_section.false;
}

pub returns : goal.returns
returns c =
    sym (symbol_none (of_symbol (has_no_section c.args.file.now)) (first_symbol c.args.file.now (has_no_section c.args.file.now)) c.loop-index.index-iterator c.loop-index.invariant.first c.in-None.ensures.steps.0)
