use Rattle.std.proofs.Common.{◌≡◌, ◌++◌, ℕ, List}
use Rattle.std.specs.Io.KnownBytes.{Consumes}
use Rattle.link_files.proofs.host_files.append_pieces.Given as goal

abbrev pub invariant-loop : goal.invariant-loop
invariant-loop g l = (done : List ℕ) × (l.bytes.items ≡ l.initial.bytes.items ++ done) × Consumes (g.F.Read.remaining l.initial.file) (g.F.Read.remaining l.file) done
