use Rattle.std.proofs.Common.{◌≡◌, ◌<◌, ℕ, length, refl, sym, ap, ◌∙◌, arith}
use Rattle.coff_aux.specs.Parents.{ancestor, parent_at}
use Rattle.comdat.proofs.ChainLemmas.{DoEnd, ancestor_first, ancestor_more, has_ended, end_here, end_above}
use Rattle.comdat.proofs.chains.end_of.Goals as goal

pub loop-init : goal.loop-init
loop-init c = record {
  steps = sym (ancestor_first c.args.parents.now c.args.section);
  some = c.requires.first;
  within = c.requires.within;
  same = refl;
}

pub returns-then-end-ne0 : goal.returns-then-end-ne0
returns-then-end-ne0 c =
    c.requires.known.right c.loop.at c.loop.invariant.within (omega (arith, c.if-end-ne0.true)) ∙ c.loop.invariant.same

pub returns-then-parent-eq0 : goal.returns-then-parent-eq0
returns-then-parent-eq0 c =
    sym (end_here c.args.parents.now c.loop.at c.loop.invariant.within c.if-parent-eq0.true) ∙ c.loop.invariant.same

pub loop-preserved : goal.loop-preserved
loop-preserved c =
    let parents = c.args.parents.now in
    let before = c.loop.invariant in
    let are : DoEnd parents = record { are = c.requires.parents; ends = c.requires.ends } in
    let some : 0 < parent_at parents c.loop.at = omega (arith, c.if-parent-eq0.false) in
    record {
      steps = ap (parent_at parents) before.steps ∙ sym (ancestor_more parents c.loop.counter c.args.section);
      some = some;
      within = c.requires.parents.within c.loop.at before.within;
      same = sym (end_above parents c.loop.at are before.some before.within some) ∙ before.same;
    }

pub unreachable-requires : goal.unreachable-requires
unreachable-requires c =
    let parents = c.args.parents.now in
    let before = c.loop.invariant in
    let are : DoEnd parents = record { are = c.requires.parents; ends = c.requires.ends } in
    let all : c.loop.counter ≡ length parents = omega arith in
    omega (arith, before.some, before.steps ∙ ap (λ (n : ℕ). ancestor parents n c.args.section) all ∙ has_ended parents c.args.section are c.requires.within)
