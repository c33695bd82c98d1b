use Rattle.std.proofs.Common.{sym, ◌∙◌, arith}
use Rattle.std.proofs.lemmas.Result.{err_from_is_err_and}
use Rattle.import_tables.proofs.WalkLemmas.{imports_none, imports_start, imports_last, imports_refused, imports_more, imports_end}
use Rattle.import_tables.proofs.reading.read_imports.Goals as goal

pub returns-then-rva-eq0-clause-found : goal.returns-then-rva-eq0-clause-found
returns-then-rva-eq0-clause-found c =
    imports_none c.args.memory.now c.args.rva c.new-found.result.items c.if-rva-eq0.true c.new-found.ensures.items

pub loop-at-init : goal.loop-at-init
loop-at-init c = record {
  near = omega arith;
  same = imports_start c.args.memory.now c.args.rva c.new-found.result.items c.if-rva-eq0.false c.new-found.ensures.items;
}

pub returns-then-is_last-clause-found : goal.returns-then-is_last-clause-found
returns-then-is_last-clause-found c =
    sym c.loop-at.invariant.same
    ∙ imports_last c.loop-at.found.items c.args.memory.now c.loop-at.at c.loop-at-test.true (sym c.is_last.ensures ∙ c.if-is_last.true)

pub returns-in_err-read_descriptor-clause-refused : goal.returns-in_err-read_descriptor-clause-refused
returns-in_err-read_descriptor-clause-refused c =
    let given = err_from_is_err_and c.from_residual.result c.from_residual.ensures.1 in
    rw (given.1, given.2)
    (imports_refused c.loop-at.found.items c.args.memory.now c.loop-at.at _ _ c.loop-at-test.true (sym c.is_last.ensures ∙ c.if-is_last.false) c.loop-at.invariant.same c.in_err-read_descriptor.ensures.refused)

pub loop-at-preserved : goal.loop-at-preserved
loop-at-preserved c = record {
  near = omega arith;
  same = imports_more c.loop-at.found.items _ c.args.memory.now c.loop-at.at _ c.loop-at-test.true (sym c.is_last.ensures ∙ c.if-is_last.false) c.loop-at.invariant.same c.in_ok-read_descriptor.ensures.more;
}

pub returns-clause-refused : goal.returns-clause-refused
returns-clause-refused c =
    sym c.loop-at.invariant.same ∙ imports_end c.loop-at.found.items c.args.memory.now c.loop-at.at c.loop-at-test.false
