use Rattle.std.proofs.Common.{◌≡◌, ℕ, None, length, get_or, option_map}
use Rattle.std.specs.List.{find}
use Rattle.std.specs.Option.{option_or}
use Rattle.coff_records.specs.ObjectFile.{record_total}
use Rattle.coff_object.proofs.CallerLemmas.{SymbolsLeft}
use Rattle.link_fields.specs.Targets.{symbol_target, is_record, record_target}
use Rattle.link_fields.proofs.targets.read_targets.Given as goal

abbrev pub invariant-loop-at : goal.invariant-loop-at
invariant-loop-at l = record {
  can : (goal.iterator-loop-at).can_next l.at-iterator;
  ends : (goal.iterator-loop-at).is_finite l.at-iterator;
  left : SymbolsLeft l.object l.at-iterator;
  count : length l.targets.items ≡ record_total l.object;
  noted : (other : ℕ) → option_or (get_or l.targets.items other None) (option_map (λ entry. symbol_target l.names l.position entry.1) (find (is_record other) l.at-iterator)) ≡ record_target l.names l.position l.object other;
}
