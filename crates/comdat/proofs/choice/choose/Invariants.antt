use Rattle.std.proofs.Common.{◌≡◌, ◌+◌, None, take}
use Rattle.std.specs.List.{list_any}
use Rattle.link_base.specs.Bytes.{first_below}
use Rattle.comdat.specs.Choice.{is_largest, conflicts}
use Rattle.comdat.proofs.GreatestLemmas.{IsGreatestOf}
use Rattle.comdat.proofs.choice.choose.Given as goal

abbrev pub invariant-loop-place : goal.invariant-loop-place
invariant-loop-place l = record {
  goes_on : first_below l.place (λ k. conflicts (take (k + 1) l.list)) ≡ None;
  by_size : l.by_size ≡ list_any is_largest (take l.place l.list);
  greatest : IsGreatestOf l.list l.place l.greatest;
}
