-- The fields of what the linker makes for imports (PE Format, "Type Indicators", x64 Processors).
use Rattle.std.specs.Prelude.{Some, Result}
use Rattle.link_base.specs.PeFormat.{REL_AMD64_ADDR64, REL_AMD64_REL32}
use Rattle.link_base.specs.declared.kinds.target.TargetFault.{TargetFault}
use Rattle.relocate.specs.declared.fix.Fix.{Fix}
use Rattle.relocate.specs.declared.fix.Target.{Target}

-- of a jump: the slot that it goes through
abbrev pub thunk_field : Result Target TargetFault → Fix
thunk_field meant = record { index = 0; at = 2; kind = REL_AMD64_REL32; target = Some meant }

-- of a slot: what it points to
abbrev pub slot_field : Result Target TargetFault → Fix
slot_field meant = record { index = 0; at = 0; kind = REL_AMD64_ADDR64; target = Some meant }
