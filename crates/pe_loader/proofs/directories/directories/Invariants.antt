use Rattle.std.proofs.Common.{◌≡◌, ◌<◌, ℕ, length, get_or}
use Rattle.pe_loader.specs.Extents.{directory_extent}
use Rattle.pe_loader.proofs.directories.directories.Given as goal

abbrev pub invariant-loop-k : goal.invariant-loop-k
invariant-loop-k l = (length l.found ≡ 16) × ((j : ℕ) → j < l.k → get_or l.found j (0, 0) ≡ directory_extent l.image j)
