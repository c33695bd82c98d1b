use Rattle.std.proofs.Common.{sym, ◌∙◌}
use Rattle.lib_reader.proofs.ListingLemmas.{name_found, name_passed, name_missing}
use Rattle.lib_reader.proofs.library.Library.find.Goals as goal

pub returns-then-eq : goal.returns-then-eq
returns-then-eq c =
    sym (c.loop-listed.invariant.first
    ∙ name_found c.args.name c.in-Some.listed c.in-Some.at c.loop-listed.listings c.next.new.self c.in-Some.ensures.steps (sym c.eq.ensures ∙ c.if-eq.true))

pub loop-listed-preserved : goal.loop-listed-preserved
loop-listed-preserved c = record {
  can = tt;
  ends = tt;
  first =
      c.loop-listed.invariant.first
      ∙ name_passed c.args.name c.in-Some.listed c.in-Some.at c.loop-listed.listings c.next.new.self c.in-Some.ensures.steps (sym c.eq.ensures ∙ c.if-eq.false);
}

pub returns : goal.returns
returns c =
    sym (c.loop-listed.invariant.first ∙ name_missing c.args.name c.loop-listed.listings c.in_default.ensures.steps.0)
