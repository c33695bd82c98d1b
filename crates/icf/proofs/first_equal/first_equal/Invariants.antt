use Rattle.std.proofs.Common.{◌≡◌, ◌+◌, length, drop}
use Rattle.std.specs.Vec.Iter.{into_iter_items, into_iter_len}
use Rattle.indexmap.specs.IndexMap.{get}
use Rattle.icf.specs.FirstEqual.{AreFirstTo, FindsFirst}
use Rattle.icf.proofs.first_equal.first_equal.Given as goal

abbrev pub invariant-loop-key : goal.invariant-loop-key
invariant-loop-key g l = record {
  can : (goal.iterator-loop-key g).can_next l.key-iterator;
  ends : (goal.iterator-loop-key g).is_finite l.key-iterator;
  count : length l.numbers.items + into_iter_len l.key-iterator ≡ length l.fn.keys.items;
  rest : into_iter_items l.key-iterator ≡ drop (length l.numbers.items) l.fn.keys.items;
  first : AreFirstTo g.K.PartialEq.eq l.fn.keys.items (length l.numbers.items) l.numbers.items;
  finds : (key : g.row.K.Denot) → FindsFirst g.K.PartialEq.eq l.fn.keys.items (length l.numbers.items) l.numbers.items key (get g.K.PartialEq.eq l.firsts key);
}
