use Rattle.std.proofs.Common.{◌≡◌, ◌++◌, take}
use Rattle.std.specs.List.{filter_map}
use Rattle.debug_rows.specs.Contributions.{contribution_at}
use Rattle.debug_rows.proofs.contribution_rows.push_pieces.Given as goal

abbrev pub invariant-loop-index : goal.invariant-loop-index
invariant-loop-index l = l.list.items ≡ l.fn.list.items ++ filter_map (contribution_at l.modules l.pieces l.rvas l.number l.start) (take l.index-index l.indexes)
