use Rattle.std.proofs.Common.{ℕ, List}
use Rattle.indexmap.specs.IndexMap.{get}
use Rattle.section_group.specs.Merging.{same_name}
use Rattle.section_group.specs.Gathering.{input_of, IsFirstUpTo}
use Rattle.section_group.proofs.owners.first_owners.Given as goal

abbrev pub invariant-loop-index : goal.invariant-loop-index
invariant-loop-index l = (name : List ℕ) → IsFirstUpTo (input_of l.parts) l.index name (get same_name l.owners name)
