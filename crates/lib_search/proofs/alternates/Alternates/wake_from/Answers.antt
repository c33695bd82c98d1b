use Rattle.std.proofs.Common.{◌≡◌, Some, sym, ◌∙◌, arith}
use Rattle.symbol_table.specs.OpenNames.{open_from}
use Rattle.lib_search.proofs.FromLemmas.{first_open}
use Rattle.lib_search.proofs.WaitLemmas.{woken, all_woken}
use Rattle.lib_search.proofs.alternates.Alternates.wake_from.Goals as goal

pub returns-in_default-clause-kept : goal.returns-in_default-clause-kept
returns-in_default-clause-kept c =
    all_woken c.args.searched.now c.loop-seen.seen c.loop-seen.self c.loop-seen.invariant.within (sym c.open_from.ensures ∙ c.in_default.is) c.loop-seen.invariant.kept

pub overflow_add-seen : goal.overflow_add-seen
overflow_add-seen c =
    let link = c.args.searched.now.link in
    let opens : open_from link c.loop-seen.seen ≡ Some (c.in-Some.number, c.in-Some.name) = sym c.open_from.ensures ∙ c.in-Some.is in
    let first = first_open link c.loop-seen.seen c.in-Some.number c.in-Some.name c.loop-seen.invariant.within opens in
    omega (arith, first.high, c.asked_count-count.ensures, c.asked_count-count.type_inv)

pub loop-seen-smaller : goal.loop-seen-smaller
loop-seen-smaller c =
    let link = c.args.searched.now.link in
    let opens : open_from link c.loop-seen.seen ≡ Some (c.in-Some.number, c.in-Some.name) = sym c.open_from.ensures ∙ c.in-Some.is in
    let first = first_open link c.loop-seen.seen c.in-Some.number c.in-Some.name c.loop-seen.invariant.within opens in
    omega (arith, first.high, first.low)

pub loop-seen-preserved : goal.loop-seen-preserved
loop-seen-preserved c =
    let s = c.args.searched.now in
    let opens : open_from s.link c.loop-seen.seen ≡ Some (c.in-Some.number, c.in-Some.name) = sym c.open_from.ensures ∙ c.in-Some.is in
    let first = first_open s.link c.loop-seen.seen c.in-Some.number c.in-Some.name c.loop-seen.invariant.within opens in
    record {
      within = omega (arith, first.high);
      kept = woken s c.loop-seen.seen c.in-Some.number c.in-Some.name c.loop-seen.self c.wake.new.self c.loop-seen.invariant.kept first c.in_ok-wake.ensures;
      pairs = c.in_ok-wake.ensures.pairs_stay ∙ c.loop-seen.invariant.pairs;
    }
