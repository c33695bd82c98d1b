use Rattle.std.proofs.Common.{◌≡◌, ◌+◌, ◌-◌, ◌<◌, ◌^◌, length}
use Rattle.import_tables.specs.ImportDirectory.{Imports, then_walk, entries_of}
use Rattle.import_tables.proofs.WalkLemmas.{rest_entries}
use Rattle.import_tables.proofs.reading.read_entries.Given as goal

-- what was found before and the entries that are left are what was found at first and all entries
abbrev pub invariant-loop-at : goal.invariant-loop-at
invariant-loop-at l = record {
  near : l.at < 2 ^ 32;
  beside : l.slot + l.lookup ≡ l.at + l.slots;
  same : then_walk (Imports l.found.items) (rest_entries l.memory l.dll l.at l.slot) ≡ then_walk (Imports l.fn.found.items) (entries_of l.memory l.dll l.lookup l.slots);
}

abbrev pub decreases-loop-at : goal.decreases-loop-at
decreases-loop-at l = length l.memory + 1 - l.at
