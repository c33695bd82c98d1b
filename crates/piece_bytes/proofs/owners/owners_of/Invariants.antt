use Rattle.std.proofs.Common.{◌≡◌, ◌<◌, ℕ, length, get_or}
use Rattle.section_group.specs.Uniqueness.{rows_of}
use Rattle.piece_bytes.proofs.OwnerLemmas.{owner_among}
use Rattle.piece_bytes.proofs.owners.owners_of.Given as goal

abbrev pub invariant-loop-i : goal.invariant-loop-i
invariant-loop-i l = record {
  same_length : length l.owner.items ≡ l.count;
  noted : (k : ℕ) → k < l.count → get_or l.owner.items k 0 ≡ owner_among (rows_of l.sections) l.i k;
}
