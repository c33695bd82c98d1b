use Rattle.std.proofs.Common.{◌≡◌, ℕ, ◌<◌, length, take, get_or, None}
use Rattle.std.specs.List.{find}
use Rattle.pdb_dbi.specs.ModuleInfo.{is_of}
use Rattle.pdb_dbi.proofs.modules.first_contributions.Given as goal

abbrev pub invariant-loop-row : goal.invariant-loop-row
invariant-loop-row l = record {
  long : length l.firsts.items ≡ l.count;
  each : (k : ℕ) → k < l.count → get_or l.firsts.items k None ≡ find (is_of k) (take l.row-index l.list);
}
