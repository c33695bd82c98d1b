-- What is named before all modules and has no place in the image: the entry, or what is exported, or what a local slot points to.
-- The order is own.
use Rattle.std.specs.Prelude.{Option}
use Rattle.std.specs.Option.{option_or}
use Rattle.link_base.specs.declared.fault.Fault.{Fault}
use Rattle.symbol_table.specs.declared.meaning.Meaning.{Meaning}
use Rattle.link_pieces.specs.LinkParts.{LinkParts}
use Rattle.link_fields.specs.Entry.{meant_fault}
use Rattle.link_fields.specs.ExportTargets.{exports_fault}
use Rattle.link_fields.specs.Fixes.{slots_fault}

abbrev pub places_fault : LinkParts → Option Meaning → Option Fault
places_fault link start = option_or (meant_fault link start) (option_or (exports_fault link) (slots_fault link))
