use Rattle.std.proofs.Common.{sym, ◌∙◌}
use Rattle.coff_records.specs.SymbolRecord.{lacks_symbol_name}
use Rattle.coff_object.specs.ObjectFaults.{of_symbol, first_symbol}
use Rattle.coff_object.proofs.LoopLemmas.{symbol_found, symbol_more, symbol_none}
use Rattle.coff_records.proofs.CallerLemmas.{symbols_left-step, symbol_strings}
use Rattle.coff_object.proofs.symbol_fault.symbol_name_fault.Goals as goal

pub lacks_name-requires : goal.lacks_name-requires
lacks_name-requires c =
    let here = symbols_left-step c.args.file.now c.loop-index.index-iterator c.next.new.self c.in-Some.index c.in-Some.symbol c.loop-index.invariant.left c.in-Some.ensures.steps in
    rw (symbol_strings c.args.file.now c.in-Some.index c.in-Some.symbol here.is ∙ sym c.requires.table) c.requires.texts

pub returns-then-lacks_name-clause-bound : goal.returns-then-lacks_name-clause-bound
returns-then-lacks_name-clause-bound c = (symbols_left-step c.args.file.now c.loop-index.index-iterator c.next.new.self c.in-Some.index c.in-Some.symbol c.loop-index.invariant.left c.in-Some.ensures.steps).below

pub returns-then-lacks_name-clause-least : goal.returns-then-lacks_name-clause-least
returns-then-lacks_name-clause-least c =
    sym (symbol_found (of_symbol lacks_symbol_name) (first_symbol c.args.file.now lacks_symbol_name) c.loop-index.index-iterator c.next.new.self c.in-Some.index c.in-Some.symbol c.lacks_name.result c.loop-index.invariant.first c.in-Some.ensures.steps c.lacks_name.ensures c.if-lacks_name.true)

pub loop-index-preserved : goal.loop-index-preserved
loop-index-preserved c = record {
  can = tt;
  ends = tt;
  left = (symbols_left-step c.args.file.now c.loop-index.index-iterator c.next.new.self c.in-Some.index c.in-Some.symbol c.loop-index.invariant.left c.in-Some.ensures.steps).left;
  first = symbol_more (of_symbol lacks_symbol_name) (first_symbol c.args.file.now lacks_symbol_name) c.loop-index.index-iterator c.next.new.self c.in-Some.index c.in-Some.symbol c.lacks_name.result c.loop-index.invariant.first c.in-Some.ensures.steps c.lacks_name.ensures c.if-lacks_name.false;
}

pub returns-clause-least : goal.returns-clause-least
returns-clause-least c =
    sym (symbol_none (of_symbol lacks_symbol_name) (first_symbol c.args.file.now lacks_symbol_name) c.loop-index.index-iterator c.loop-index.invariant.first c.in-None.ensures.steps.0)
