-- What the pieces of a link hold in its image, and the first field whose value does not fit (PE Format, "The .idata
-- Section", "The .edata Section (Image Only)", "Debug Directory (Image Only)", "The .rsrc Section" and "Type Indicators", x64 Processors; the order is
-- own).
use Rattle.std.specs.Prelude.{ℕ, ◌+◌, if◌then◌else◌, List, [], ◌∷◌, ◌++◌, length, map, slice_index, slice_index_or, Option, Some, None, option_map, ◌==◌, slice_set}
use Rattle.std.specs.List.{range_with_len}
use Rattle.piece_bytes.specs.Extents.{rva_of}
use Rattle.link_base.specs.Refusals.{first_refusal_below}
use Rattle.link_base.specs.declared.fault.Fault.{Fault}
use Rattle.link_base.specs.declared.fault.Fault.TheVariants as faults
use Rattle.section_group.specs.declared.piece.Piece.{Piece}
use Rattle.section_group.specs.Uniqueness.{SectionRow}
use Rattle.address_layout.specs.declared.layout.Layout.{Layout}
use Rattle.piece_bytes.specs.Owners.{owners}
use Rattle.relocate.specs.declared.range.RelocRange.{RelocRange}
use Rattle.relocate.specs.PatchedBytes.{patched_bytes, range_fault}
use Rattle.directives.specs.declared.item.Export.{Export}
use Rattle.relocate.specs.declared.fix.Target.{Target}
use Rattle.relocate.specs.declared.fix.Target.TheVariants as target
use Rattle.export_tables.specs.declared.row.ExportRow.{ExportRow}
use Rattle.export_tables.specs.ExportTable.{export_table}
use Rattle.synthetic_sections.specs.LinkerPieces.{EXPORTS, DEBUG_DATA, RESOURCES}
use Rattle.link_debug.specs.LinkDebug.{no_identifier, entry_bytes, data_bytes}
use Rattle.link_resources.specs.LinkResources.{tree_bytes}
use Rattle.link_exports.specs.Exports.{table_row}
use Rattle.import_tables.specs.ImportTables.{tables_of as import_tables_of}
use Rattle.link_pieces.specs.TablePieces.{KeptParts, kept_rows, whole_pieces, whole_piece, whole_contents, table_index, is_table}
use Rattle.link_fields.specs.ExportTargets.{export_target}
use Rattle.link_plan.specs.Planned.{planned_fixes, planned_target}
use Rattle.pdata_table.specs.SortedContents.{sorted_contents}
use Rattle.link_image.specs.NamedSections.{pdata_pieces}

-- ---- the section of a piece

-- the section of each piece that a layout has a place for
abbrev pub owners_in : List SectionRow → Layout → List ℕ
owners_in rows layout = owners rows (length layout.pieces.items)

-- ---- the import tables

-- the RVA of the table of a number, or 0 where there is none
abbrev pub table_rva : KeptParts → Layout → ℕ → ℕ
table_rva link layout number = rva_of layout.pieces.items (table_index link number)

-- those of the directory, the lookup tables, the slots, the hints with names and the names of DLLs
unfoldable pub table_rvas : KeptParts → Layout → List ℕ
table_rvas link layout = map (table_rva link layout) (range_with_len 0 5)

-- the bytes of the import tables
unfoldable pub import_tables_at : KeptParts → Layout → List (List ℕ)
import_tables_at link layout = import_tables_of (kept_rows link) (table_rvas link layout)

-- ---- the export table

-- the RVA of what an export stands for; without a place in a piece it is not looked at
abbrev pub target_rva : List ℕ → Option Target → ℕ
target_rva rvas None = 0
target_rva rvas (Some (target.Piece piece value)) = slice_index rvas piece + value
target_rva rvas (Some (target.Absolute value)) = 0
target_rva rvas (Some target.ImageBase) = 0

abbrev pub exported_row : KeptParts → List ℕ → Export → ExportRow
exported_row link rvas row = table_row row (target_rva rvas (planned_target link (export_target link.parts row)))

-- the exports as rows of the table, where pieces have these RVAs
unfoldable pub exported_rows : KeptParts → List ℕ → List ExportRow
exported_rows link rvas = map (exported_row link rvas) link.parts.exports.rows

-- the bytes of the table; without exports there are none
unfoldable pub export_table_at : KeptParts → Layout → List ℕ
export_table_at link layout =
    if link.parts.exports.size == 0 then []
    else export_table (exported_rows link layout.pieces.items) link.parts.exports.ordinals link.parts.exports.dll link.parts.exports.time (table_rva link layout EXPORTS)

-- ---- the debug directory

-- the bytes of its entry, by the place of the data that this names; without a PDB there are none
unfoldable pub debug_entry_at : KeptParts → Layout → List ℕ
debug_entry_at link layout = entry_bytes link.parts.debug layout.sections.items (table_rva link layout DEBUG_DATA)

-- ---- the resource tree

-- its bytes, by its place; without resources there are none
unfoldable pub resource_tree_at : KeptParts → Layout → List ℕ
resource_tree_at link layout = tree_bytes link.parts.resources (table_rva link layout RESOURCES)

-- ---- all tables

-- those behind the import tables; the data that names the PDB has no identifier yet
abbrev pub other_tables_at : KeptParts → Layout → List (List ℕ)
other_tables_at link layout =
    export_table_at link layout
    ∷ debug_entry_at link layout
    ∷ data_bytes link.parts.debug no_identifier
    ∷ resource_tree_at link layout
    ∷ []

-- the bytes of each, by their numbers
abbrev pub tables_at : KeptParts → Layout → List (List ℕ)
tables_at link layout = import_tables_at link layout ++ other_tables_at link layout

-- ---- the bytes

-- what a piece holds before its fields are patched: a table its bytes by their places, any other
-- piece what it has without a place
unfoldable pub contents_at : KeptParts → Layout → ℕ → List ℕ
contents_at link layout k =
    if is_table (length link.parts.modules) (whole_piece link k)
    then slice_index_or (tables_at link layout) (whole_piece link k).number []
    else slice_index_or (whole_contents link) k []

unfoldable pub placed_contents : KeptParts → Layout → List (List ℕ)
placed_contents link layout = map (contents_at link layout) (range_with_len 0 (length (whole_pieces link)))

-- the bytes of a piece with its fields, in an image at a base
abbrev pub linked_bytes : KeptParts → List SectionRow → Layout → ℕ → ℕ → List ℕ
linked_bytes link rows layout base k =
    patched_bytes base (slice_index layout.pieces.items k) layout (owners_in rows layout) (planned_fixes link k) (contents_at link layout k)

unfoldable pub linked_contents : KeptParts → List SectionRow → Layout → ℕ → List (List ℕ)
linked_contents link rows layout base =
    map (linked_bytes link rows layout base) (range_with_len 0 (length (whole_pieces link)))

-- the rows of the exception table are put in order, and after the pieces come the tables that the linker makes, which
-- are the same at each base
abbrev pub image_contents : KeptParts → List SectionRow → Layout → List (List ℕ) → ℕ → List (List ℕ)
image_contents link rows layout tables base =
    sorted_contents (pdata_pieces rows) (linked_contents link rows layout base) ++ tables

-- ---- the identifier

-- contents in which the piece of an index, where there is one, has these bytes
abbrev pub with_bytes : Option ℕ → List ℕ → List (List ℕ) → List (List ℕ)
with_bytes None bytes contents = contents
with_bytes (Some k) bytes contents = slice_set contents k bytes

-- the data that names the PDB has an identifier
abbrev pub identified : KeptParts → List ℕ → List (List ℕ) → List (List ℕ)
identified link identifier contents = with_bytes (table_index link DEBUG_DATA) (data_bytes link.parts.debug identifier) contents

-- ---- values that do not fit

abbrev pub out_of_range : Piece → RelocRange → Fault
out_of_range piece range = faults.RelocRange (Some piece.«module») piece.number range.index range.value

-- the first field of a piece whose value does not fit
abbrev pub piece_range_fault : KeptParts → List SectionRow → Layout → ℕ → ℕ → Option Fault
piece_range_fault link rows layout base k =
    option_map (out_of_range (whole_piece link k)) (range_fault base (slice_index layout.pieces.items k) layout (owners_in rows layout) (planned_fixes link k) (contents_at link layout k))

-- that of all pieces, in their order
unfoldable pub fields_range_fault : KeptParts → List SectionRow → Layout → ℕ → Option Fault
fields_range_fault link rows layout base =
    first_refusal_below (length (whole_pieces link)) (piece_range_fault link rows layout base)
