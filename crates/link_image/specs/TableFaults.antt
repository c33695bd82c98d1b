-- What is wrong with the tables of a link before anything has a place: with the exception table (PE Format, "The .pdata
-- Section", for the length of its rows), or else with the exports. The order is own.
use Rattle.std.specs.Prelude.{ℕ, Bool, ◌&&◌, ◌||◌, not, ◌==◌, ◌%◌, nat_lt, if◌then◌else◌, length, Option, Some, None}
use Rattle.std.specs.Option.{option_or}
use Rattle.link_base.specs.Refusals.{first_refusal_below}
use Rattle.link_base.specs.declared.fault.Fault.{Fault}
use Rattle.link_base.specs.declared.fault.Fault.TheVariants as faults
use Rattle.section_group.specs.declared.piece.Piece.{Piece}
use Rattle.pdata_table.specs.Rows.{ROW_SIZE}
use Rattle.link_pieces.specs.Pieces.{link_pieces}
use Rattle.link_pieces.specs.TablePieces.{KeptParts}
use Rattle.link_fields.specs.Pdata.{is_pdata}
use Rattle.link_fields.specs.Fixes.{piece_at}
use Rattle.link_plan.specs.Planned.{is_kept}
use Rattle.link_image.specs.ExportFaults.{export_fault}

-- it has bytes, and the file holds none of them, or they are no whole rows
abbrev pub lacks_rows : Piece → Bool
lacks_rows piece = nat_lt 0 piece.size && (not piece.init || not (piece.size % ROW_SIZE == 0))

unfoldable pub is_bad_pdata : Piece → Bool
is_bad_pdata piece = is_pdata piece && lacks_rows piece

abbrev pub bad_pdata : Piece → Fault
bad_pdata piece = faults.BadPdata (Some piece.«module») piece.number

-- of a piece that is kept
abbrev pub pdata_fault_at : KeptParts → ℕ → Option Fault
pdata_fault_at link k =
    if is_kept link k && is_bad_pdata (piece_at link.parts k) then Some (bad_pdata (piece_at link.parts k)) else None

-- the first piece of the exception table that is bad, in the order of the pieces
unfoldable pub pdata_fault : KeptParts → Option Fault
pdata_fault link = first_refusal_below (length (link_pieces link.parts)) (pdata_fault_at link)

abbrev pub tables_fault : KeptParts → Option Fault
tables_fault link = option_or (pdata_fault link) (export_fault link)
