use Rattle.std.proofs.Common.{ℕ, List, ap}
use Rattle.pdb_msf.specs.WrittenFile.{parted}
use Rattle.pdb_file.proofs.joined.JoinedStreams.new.Goals as goal

pub returns : goal.returns
unfolding parted
returns c = ap (λ (lengths : List ℕ). parted c.new.result.items lengths) c.new-2.ensures.items
