use Rattle.std.proofs.Common.{◌≡◌, take}
use Rattle.section_group.specs.Uniqueness.{rows_of}
use Rattle.debug_rows.specs.Contributions.{contributions_of}
use Rattle.debug_rows.proofs.contribution_rows.contributions.Given as goal

abbrev pub invariant-loop-index : goal.invariant-loop-index
invariant-loop-index l = l.list.items ≡ contributions_of l.modules l.pieces l.layout.sections.items l.layout.pieces.items (take l.index (rows_of l.sections))
