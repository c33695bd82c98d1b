use Rattle.std.proofs.Common.{◌≡◌, ℕ, length, refl, sym, ap, ◌∙◌, subst, arith}
use Rattle.std.specs.Map.{lookup}
use Rattle.std.specs.Vec.Iter.{into_iter_items}
use Rattle.indexmap.specs.IndexMap.{get}
use Rattle.icf.specs.FirstEqual.{AreFirstTo, Enters}
use Rattle.icf.proofs.ListLemmas.{size_more}
use Rattle.icf.proofs.FirstLemmas.{taken, rest_more, rest_none, entered, entered_all, first_none, finds_none}
use Rattle.icf.proofs.first_equal.first_equal.Goals as goal

pub loop-key-init : goal.loop-key-init
loop-key-init g c =
    let keys = c.args.keys.items in
    let numbers = c.in_ok-numbers.numbers.items in
    let none = c.in_ok-numbers.ensures.items in
    let all = c.into_iter-key-iterator.ensures.into_iter_gives in
    record {
      can = tt;
      ends = tt;
      count = omega (arith, ap length none, all.1);
      rest = rest_none keys numbers (into_iter_items c.into_iter-key-iterator.result) none all.0;
      first = first_none g.K.PartialEq.eq keys numbers none;
      finds = λ key. finds_none g.K.PartialEq.eq keys numbers key (get g.K.PartialEq.eq c.new-firsts.result key) none (ap (lookup (g.K.PartialEq.eq key)) c.new-firsts.ensures.empty);
    }

pub overflow_cast-number : goal.overflow_cast-number
overflow_cast-number g c =
    let steps = c.in-Some.ensures.steps in
    let inv = c.loop-key.invariant in
    let one = taken c.args.keys.items (length c.loop-key.numbers.items) c.in-Some.key (into_iter_items c.next.new.self) (sym steps.0 ∙ inv.rest) in
    record { fits = omega (arith, c.len-number.ensures, one.0, c.requires) }

pub loop-key-preserved : goal.loop-key-preserved
loop-key-preserved g c =
    let steps = c.in-Some.ensures.steps in
    let inv = c.loop-key.invariant in
    let keys = c.args.keys.items in
    let numbers = c.loop-key.numbers.items in
    let one = taken keys (length numbers) c.in-Some.key (into_iter_items c.next.new.self) (sym steps.0 ∙ inv.rest) in
    let is = c.in_ok-push.ensures.items in
    let longer = c.push.new.self.items in
    let size : c.len-number.result ≡ length numbers = omega (arith, c.len-number.ensures) in
    let enters = subst (λ (n : ℕ). Enters g.K.PartialEq.eq (get g.K.PartialEq.eq c.loop-key.firsts) (get g.K.PartialEq.eq c.enter.new.firsts) c.in-Some.key n c.in_ok-first.first) size c.in_ok-first.ensures in
    let done = entered g.met.K.Eq.laws keys numbers c.in-Some.key (get g.K.PartialEq.eq c.loop-key.firsts) (get g.K.PartialEq.eq c.enter.new.firsts) c.in_ok-first.first one.1.0 inv.first inv.finds enters in
    let all = entered_all g.met.K.Eq.laws keys numbers c.in-Some.key (get g.K.PartialEq.eq c.loop-key.firsts) (get g.K.PartialEq.eq c.enter.new.firsts) c.in_ok-first.first longer is done in
    record {
      can = tt;
      ends = tt;
      count = let size = size_more (λ n v. Unit {0}) numbers c.in_ok-first.first (length numbers) refl longer is in omega (arith, size, steps.1, inv.count);
      rest = rest_more keys numbers c.in_ok-first.first longer (into_iter_items c.next.new.self) is one.1.1;
      first = all.0;
      finds = all.1;
    }

pub returns : goal.returns
returns g c =
    let done = c.in-None.ensures.steps in
    let inv = c.loop-key.invariant in
    let size : length c.loop-key.numbers.items ≡ length c.args.keys.items = omega (arith, done.0, inv.count) in
    subst (λ (n : ℕ). AreFirstTo g.K.PartialEq.eq c.args.keys.items n c.loop-key.numbers.items) size inv.first
