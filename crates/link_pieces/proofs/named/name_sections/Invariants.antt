use Rattle.std.proofs.Common.{◌≡◌, ℕ, ◌+◌, false, length, take, get_or}
use Rattle.std.specs.List.{list_any}
use Rattle.link_pieces.specs.Pieces.{stands_in}
use Rattle.link_pieces.proofs.named.name_sections.Given as goal

abbrev pub invariant-loop-definition : goal.invariant-loop-definition
invariant-loop-definition l = record {
  count : length l.named.items ≡ l.count + 1;
  marks : (section : ℕ) → get_or l.named.items section false ≡ list_any (stands_in section) (take l.definition-index l.definition-items);
}
