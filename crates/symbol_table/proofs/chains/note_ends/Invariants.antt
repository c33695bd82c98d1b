use Rattle.std.proofs.Common.{length}
use Rattle.symbol_table.proofs.ChainLemmas.{NotesBack}
use Rattle.symbol_table.proofs.chains.note_ends.Given as goal

abbrev pub invariant-loop-passed : goal.invariant-loop-passed
invariant-loop-passed l =
    NotesBack l.names.keys l.initial.links.items l.initial.path.items l.initial.end l.links.items l.path.items l.end

abbrev pub decreases-loop-passed : goal.decreases-loop-passed
decreases-loop-passed l = length l.path.items
