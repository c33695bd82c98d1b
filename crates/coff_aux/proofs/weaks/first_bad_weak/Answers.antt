use Rattle.std.proofs.Common.{sym, ap, ◌∙◌}
use Rattle.coff_records.specs.ObjectFile.{symbol_entries}
use Rattle.coff_object.specs.ObjectFaults.{first_of}
use Rattle.coff_object.proofs.CallerLemmas.{symbols_left-all, symbols_left-step, symbol_found, symbol_more, symbol_none}
use Rattle.coff_aux.specs.AuxFaults.{is_bad_weak}
use Rattle.coff_aux.proofs.weaks.first_bad_weak.Goals as goal

pub loop-index-init : goal.loop-index-init
loop-index-init c =
    let bytes = c.args.object.now in
    let all = c.into_iter-index-iterator.ensures.into_iter_gives ∙ c.symbols-index-items.ensures in
    record {
      can = tt;
      ends = tt;
      left = symbols_left-all bytes c.into_iter-index-iterator.result all;
      first = ap (first_of (is_bad_weak bytes)) (sym all);
    }

pub is_bad_weak-requires-clause-start : goal.is_bad_weak-requires-clause-start
is_bad_weak-requires-clause-start c =
    (symbols_left-step c.args.object.now c.loop-index.index-iterator c.next.new.self c.in-Some.index c.in-Some.symbol c.loop-index.invariant.left c.in-Some.ensures.steps).starts

pub is_bad_weak-requires-clause-symbol : goal.is_bad_weak-requires-clause-symbol
is_bad_weak-requires-clause-symbol c =
    (symbols_left-step c.args.object.now c.loop-index.index-iterator c.next.new.self c.in-Some.index c.in-Some.symbol c.loop-index.invariant.left c.in-Some.ensures.steps).is

pub returns-then-is_bad_weak : goal.returns-then-is_bad_weak
returns-then-is_bad_weak c =
    let bytes = c.args.object.now in
    sym (symbol_found (is_bad_weak bytes) (first_of (is_bad_weak bytes) (symbol_entries bytes)) c.loop-index.index-iterator c.next.new.self c.in-Some.index c.in-Some.symbol c.is_bad_weak.result c.loop-index.invariant.first c.in-Some.ensures.steps c.is_bad_weak.ensures c.if-is_bad_weak.true)

pub loop-index-preserved : goal.loop-index-preserved
loop-index-preserved c =
    let bytes = c.args.object.now in
    record {
      can = tt;
      ends = tt;
      left = (symbols_left-step bytes c.loop-index.index-iterator c.next.new.self c.in-Some.index c.in-Some.symbol c.loop-index.invariant.left c.in-Some.ensures.steps).left;
      first = symbol_more (is_bad_weak bytes) (first_of (is_bad_weak bytes) (symbol_entries bytes)) c.loop-index.index-iterator c.next.new.self c.in-Some.index c.in-Some.symbol c.is_bad_weak.result c.loop-index.invariant.first c.in-Some.ensures.steps c.is_bad_weak.ensures c.if-is_bad_weak.false;
    }

pub returns : goal.returns
returns c =
    let bytes = c.args.object.now in
    sym (symbol_none (is_bad_weak bytes) (first_of (is_bad_weak bytes) (symbol_entries bytes)) c.loop-index.index-iterator c.loop-index.invariant.first c.in-None.ensures.steps.0)
