-- The counts of failures at the real files. Own.
use Rattle.std.specs.Prelude.{ℕ}

-- how many reads and how many writes failed
pub record HostCounts : Type 0 where
  pub read_faults : ℕ
  pub write_faults : ℕ

-- no failure yet
abbrev pub no_faults : HostCounts
no_faults = record { read_faults = 0; write_faults = 0 }
