-- What the exports of a link stand for (MSVC linker reference, "/EXPORT"; the refusals are own).
use Rattle.std.specs.Prelude.{ℕ, Bool, List, map, Option, Some, None, option_map, option_and_then, Result, Ok, Err}
use Rattle.std.specs.List.{list_any}
use Rattle.link_base.specs.Refusals.{first_standing}
use Rattle.link_base.specs.declared.fault.Fault.{Fault}
use Rattle.link_base.specs.declared.kinds.target.TargetFault.{TargetFault}
use Rattle.directives.specs.declared.item.Export.{Export}
use Rattle.symbol_names.specs.Exports.{internal_name}
use Rattle.relocate.specs.declared.fix.Target.{Target}
use Rattle.link_pieces.specs.LinkParts.{LinkParts}
use Rattle.link_pieces.specs.NameMeaning.{name_meaning}
use Rattle.link_fields.specs.Targets.{meant_target, piece_in, is_that}
use Rattle.link_fields.specs.Entry.{pointer_fault}

-- ---- one export

-- what the name behind it means; a forwarder has none
abbrev pub export_meant : LinkParts → Export → Option (Result Target TargetFault)
export_meant link row = option_map (λ name. meant_target link (name_meaning link name)) (internal_name row)

abbrev pub target_of : Result Target TargetFault → Option Target
target_of (Ok target) = Some target
target_of (Err kind) = None

abbrev pub export_target : LinkParts → Export → Option Target
export_target link row = option_and_then target_of (export_meant link row)

-- it does not come into the image: before all modules, so that no section and no relocation is named
abbrev pub export_fault : LinkParts → Export → Option Fault
export_fault link row = option_and_then pointer_fault (export_meant link row)

-- ---- all of them

abbrev pub export_targets : LinkParts → List (Option Target)
export_targets link = map (export_target link) link.exports.rows

-- the first in their order
abbrev pub exports_fault : LinkParts → Option Fault
exports_fault link = first_standing (map (export_fault link) link.exports.rows)

-- ---- pieces that exports stand in

abbrev pub exports_piece : ℕ → Option Target → Bool
exports_piece k target = is_that k (option_and_then piece_in target)

abbrev pub is_exported : LinkParts → ℕ → Bool
is_exported link k = list_any (exports_piece k) (export_targets link)
