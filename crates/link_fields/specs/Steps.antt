-- What the steps of the code promise one another. It decides nothing.
use Rattle.std.specs.Prelude.{ℕ, ◌<◌, ◌^◌, List, length, slice_index_or, Contains, Option, Some, None, Result}
use Rattle.link_base.specs.declared.kinds.target.TargetFault.{TargetFault}
use Rattle.relocate.specs.declared.fix.Target.{Target}
use Rattle.module_view.specs.Module.{module_at}
use Rattle.link_pieces.specs.LinkParts.{LinkParts}
use Rattle.link_fields.specs.Targets.{AreTargets}

-- where a module was read last, the list tells what its symbols mean
abbrev pub HoldsTargets : LinkParts → Option ℕ → List (Option (Result Target TargetFault)) → Type 0
HoldsTargets link None targets = Unit {0}
HoldsTargets link (Some position) targets = AreTargets link position (module_at link.modules position).bytes targets

-- the piece that is noted of a node, where it is one, was listed with it
abbrev pub AreNoted : List (ℕ × ℕ) → List ℕ → Type 0
AreNoted edges last = (to : ℕ) → to < length last → slice_index_or last to 0 < 2 ^ 31 → Contains edges (slice_index_or last to 0, to)
