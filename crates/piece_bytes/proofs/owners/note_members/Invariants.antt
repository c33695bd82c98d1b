use Rattle.std.proofs.Common.{◌≡◌, ℕ, length, get_or, take, eqb}
use Rattle.std.specs.List.{list_any}
use Rattle.piece_bytes.proofs.OwnerLemmas.{noted}
use Rattle.piece_bytes.proofs.owners.note_members.Given as goal

abbrev pub invariant-loop-member : goal.invariant-loop-member
invariant-loop-member l = record {
  same_length : length l.owner.items ≡ length l.fn.owner.items;
  noted : (k : ℕ) → get_or l.owner.items k 0 ≡ noted (list_any (λ m. eqb m k) (take l.member-index l.members)) l.none l.section (get_or l.fn.owner.items k 0);
}
