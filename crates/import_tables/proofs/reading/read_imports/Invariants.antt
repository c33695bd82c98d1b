use Rattle.std.proofs.Common.{◌≡◌, ◌+◌, ◌-◌, ◌<◌, ◌^◌, length}
use Rattle.import_tables.specs.ImportDirectory.{Imports, then_walk, imports_of}
use Rattle.import_tables.proofs.WalkLemmas.{rest_descriptors}
use Rattle.import_tables.proofs.reading.read_imports.Given as goal

-- what was found and the descriptors that are left are all
abbrev pub invariant-loop-at : goal.invariant-loop-at
invariant-loop-at l = record {
  near : l.at < 2 ^ 32;
  same : then_walk (Imports l.found.items) (rest_descriptors l.memory l.at) ≡ imports_of l.memory l.rva;
}

abbrev pub decreases-loop-at : goal.decreases-loop-at
decreases-loop-at l = length l.memory + 1 - l.at
