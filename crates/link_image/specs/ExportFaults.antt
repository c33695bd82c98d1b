-- What is wrong with the exports of a link, beyond names that nothing defines (own).
use Rattle.std.specs.Prelude.{ℕ, ◌+◌, Bool, true, false, ◌&&◌, ◌==◌, nat_le, nat_lt, if◌then◌else◌, List, map, Option, Some, None}
use Rattle.std.specs.Option.{option_or}
use Rattle.piece_bytes.specs.Extents.{rva_of}
use Rattle.link_base.specs.Refusals.{first_standing}
use Rattle.link_base.specs.declared.fault.Fault.{Fault}
use Rattle.link_base.specs.declared.fault.Fault.TheVariants as faults
use Rattle.link_base.specs.declared.kinds.export.ExportFault.TheVariants.{Absolute, InTable}
use Rattle.directives.specs.declared.item.Export.{Export}
use Rattle.relocate.specs.declared.fix.Target.{Target}
use Rattle.relocate.specs.declared.fix.Target.TheVariants as target
use Rattle.export_tables.specs.declared.row.ExportRow.{ExportRow}
use Rattle.export_tables.specs.declared.row.ExportTo.{ExportTo}
use Rattle.export_tables.specs.declared.row.ExportTo.TheVariants.{Rva, Forward}
use Rattle.synthetic_sections.specs.LinkerPieces.{EXPORTS}
use Rattle.link_pieces.specs.TablePieces.{KeptParts, table_index}
use Rattle.link_fields.specs.ExportTargets.{export_target}
use Rattle.link_image.specs.LinkedBytes.{exported_row}

-- ---- before anything has a place

-- it stands for a number, or for the start of the image
abbrev pub is_absolute : Option Target → Bool
is_absolute None = false
is_absolute (Some (target.Piece piece value)) = false
is_absolute (Some (target.Absolute value)) = true
is_absolute (Some target.ImageBase) = true

abbrev pub absolute_fault : KeptParts → Export → Option Fault
absolute_fault link row = if is_absolute (export_target link.parts row) then Some (faults.BadExport Absolute row.name) else None

-- the first that is wrong with ordinals, or else the first export that stands for no place
unfoldable pub export_fault : KeptParts → Option Fault
export_fault link = option_or link.parts.exports.fault (first_standing (map (absolute_fault link) link.parts.exports.rows))

-- ---- where they stand

-- an address lies in the table of this size at an RVA, where it would be that of a forwarder
abbrev pub lies_in : ℕ → ℕ → ExportTo → Bool
lies_in rva size (Rva address) = nat_le rva address && nat_lt address (rva + size)
lies_in rva size (Forward text) = false

abbrev pub inside_of : ℕ → ℕ → ExportRow → Option Fault
inside_of rva size row = if lies_in rva size row.what then Some (faults.BadExport InTable row.name) else None

abbrev pub inside_fault : KeptParts → List ℕ → ℕ → Export → Option Fault
inside_fault link rvas rva row = inside_of rva link.parts.exports.size (exported_row link rvas row)

-- the first export that lies in the export table itself, where pieces have these RVAs
unfoldable pub in_table_fault : KeptParts → List ℕ → Option Fault
in_table_fault link rvas =
    if link.parts.exports.size == 0 then None
    else first_standing (map (inside_fault link rvas (rva_of rvas (table_index link EXPORTS))) link.parts.exports.rows)
