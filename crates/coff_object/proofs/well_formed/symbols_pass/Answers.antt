use Rattle.std.proofs.Common.{sym, ◌∙◌}
use Rattle.coff_records.specs.ObjectFile.{symbol_entries}
use Rattle.coff_object.specs.ObjectFaults.{first_of}
use Rattle.coff_object.specs.AnyFault.{symbol_fails}
use Rattle.coff_object.proofs.LoopLemmas.{symbol_more, symbol_none}
use Rattle.coff_records.proofs.CallerLemmas.{symbols_left-step, symbol_strings}
use Rattle.coff_object.proofs.well_formed.symbols_pass.Goals as goal

pub symbol_fails-requires-clause-below : goal.symbol_fails-requires-clause-below
symbol_fails-requires-clause-below c = (symbols_left-step c.args.file.now c.loop-index.index-iterator c.next.new.self c.in-Some.index c.in-Some.symbol c.loop-index.invariant.left c.in-Some.ensures.steps).below

pub symbol_fails-requires-clause-texts : goal.symbol_fails-requires-clause-texts
symbol_fails-requires-clause-texts c =
    let here = symbols_left-step c.args.file.now c.loop-index.index-iterator c.next.new.self c.in-Some.index c.in-Some.symbol c.loop-index.invariant.left c.in-Some.ensures.steps in
    rw (symbol_strings c.args.file.now c.in-Some.index c.in-Some.symbol here.is ∙ sym c.requires.table) c.requires.texts

pub loop-index-preserved : goal.loop-index-preserved
loop-index-preserved c = record {
  can = tt;
  ends = tt;
  left = (symbols_left-step c.args.file.now c.loop-index.index-iterator c.next.new.self c.in-Some.index c.in-Some.symbol c.loop-index.invariant.left c.in-Some.ensures.steps).left;
  first = symbol_more (symbol_fails c.args.file.now) (first_of (symbol_fails c.args.file.now) (symbol_entries c.args.file.now)) c.loop-index.index-iterator c.next.new.self c.in-Some.index c.in-Some.symbol c.symbol_fails.result c.loop-index.invariant.first c.in-Some.ensures.steps c.symbol_fails.ensures c.if-symbol_fails.false;
}

pub returns : goal.returns
returns c =
    λ passed. symbol_none (symbol_fails c.args.file.now) (first_of (symbol_fails c.args.file.now) (symbol_entries c.args.file.now)) c.loop-index.index-iterator c.loop-index.invariant.first c.in-None.ensures.steps.0
