-- The pieces of a plan, once it is known what is kept: which of them stand in a section even where they have no bytes, and their
-- fields. Own.
use Rattle.std.specs.Prelude.{◌≡◌, ◌<◌, ℕ, Bool, true, false, ◌&&◌, ◌||◌, nat_lt, if◌then◌else◌, List, [], ◌++◌, length, map, take, replicate, slice_index_or, Option, option_map, unwrap_or}
use Rattle.std.specs.List.{range_with_len, list_any}
use Rattle.section_group.specs.declared.piece.Piece.{Piece}
use Rattle.relocate.specs.declared.fix.Fix.{Fix}
use Rattle.relocate.specs.declared.fix.Target.{Target}
use Rattle.relocate.specs.Judged.{AreTheFields, ArePatchable}
use Rattle.relocate.specs.Redirected.{place_of, redirected, redirected_fix}
use Rattle.synthetic_sections.specs.LinkerPieces.{SLOTS}
use Rattle.link_imports.specs.Imports.{slot_offset}
use Rattle.link_words.specs.Outcome.{LinkOptions}
use Rattle.link_pieces.specs.Pieces.{link_pieces}
use Rattle.link_pieces.specs.TablePieces.{KeptParts, kept_imports, tables_of, whole_contents, table_index}
use Rattle.link_fields.specs.declared.entry.EntryPlace.{EntryPlace}
use Rattle.link_fields.specs.Entry.{entry_place}
use Rattle.link_fields.specs.LoaderPlaces.{loader_place}
use Rattle.link_fields.specs.ExportTargets.{export_targets}
use Rattle.link_fields.specs.Fixes.{piece_at, piece_fixes, field_edges}
use Rattle.link_keeping.specs.Reach.{named_nodes}
use Rattle.link_keeping.specs.Named.{leads_there, is_at, is_named_at, named_if}

-- ---- what is kept

-- a piece of the link is kept, and stands at its own place
abbrev pub is_kept : KeptParts → ℕ → Bool
is_kept link k = nat_lt k (length (link_pieces link.parts)) && slice_index_or link.kept k false

-- of all pieces, the tables behind those of the link too, which are made for what is kept
abbrev pub used_pieces : KeptParts → List Bool
used_pieces link = take (length (link_pieces link.parts)) link.kept ++ replicate (length (tables_of link)) true

-- ---- pieces that are named

-- a field of a piece that is kept means it, or one that stands at its place
abbrev pub is_meant : KeptParts → ℕ → Bool
is_meant link k = list_any (leads_there link.kept link.places k) (field_edges link.parts)

-- the entry, an export or what a loader looks for is there
abbrev pub is_sought : LinkOptions → KeptParts → ℕ → Bool
is_sought options link k = list_any (is_at link.places k) (named_nodes options link.parts)

-- a piece that is named stands there
abbrev pub is_shared : KeptParts → ℕ → Bool
is_shared link k = list_any (is_named_at link.parts link.places k) (range_with_len 0 (length link.places))

abbrev pub planned_piece : LinkOptions → KeptParts → ℕ → Piece
planned_piece options link k = named_if (is_meant link k || (is_sought options link k || is_shared link k)) (piece_at link.parts k)

-- the pieces of the link, and the tables
unfoldable pub plan_pieces : LinkOptions → KeptParts → List Piece
plan_pieces options link =
    map (planned_piece options link) (range_with_len 0 (length (link_pieces link.parts))) ++ tables_of link

-- ---- fields

-- the offsets of the slots of the imports that are kept, by the positions of their modules, in the table of the slots
abbrev pub slot_offsets : KeptParts → List ℕ
slot_offsets link =
    map (slot_offset link.parts.modules (kept_imports link)) (range_with_len 0 (length link.parts.modules))

abbrev pub slot_table : KeptParts → ℕ
slot_table link = unwrap_or (table_index link SLOTS) 0

-- an import stands where its slot does, and a piece that folds where the other does
abbrev pub placed_target : KeptParts → Target → Target
placed_target link target = redirected link.places (length (link_pieces link.parts)) (slot_table link) (slot_offsets link) target

abbrev pub placed_fix : KeptParts → Fix → Fix
placed_fix link fix = redirected_fix link.places (length (link_pieces link.parts)) (slot_table link) (slot_offsets link) fix

-- those of a piece that is kept; a table has none
abbrev pub fixes_if : Bool → List Fix → List Fix
fixes_if kept fixes = if kept then fixes else []

abbrev pub planned_fixes : KeptParts → ℕ → List Fix
planned_fixes link k = fixes_if (is_kept link k) (map (placed_fix link) (piece_fixes link.parts k))

-- what the fields of the first pieces are, judged
pub record HaveFields (link : KeptParts) (count : ℕ) (fixups : List (List Fix)) : Type 0 where
  pub for_each : length fixups ≡ count
  pub fields : (k : ℕ) → k < count → AreTheFields (planned_fixes link k) (slice_index_or fixups k [])
  pub patchable : (k : ℕ) → k < count → ArePatchable (length (slice_index_or (whole_contents link) k [])) (slice_index_or fixups k [])

-- ---- exports

-- what each export stands for
abbrev pub planned_target : KeptParts → Option Target → Option Target
planned_target link target = option_map (placed_target link) target

abbrev pub planned_targets : KeptParts → List (Option Target)
planned_targets link = map (planned_target link) (export_targets link.parts)

-- ---- the entry, and what a loader looks for

abbrev pub placed_entry : List ℕ → EntryPlace → EntryPlace
placed_entry places entry = record entry { piece = place_of places entry.piece }

abbrev pub planned_entry : LinkOptions → KeptParts → Option EntryPlace
planned_entry options link = option_map (placed_entry link.places) (entry_place link.parts options.entry_name)

abbrev pub planned_loader : KeptParts → List ℕ → Option EntryPlace
planned_loader link name = option_map (placed_entry link.places) (loader_place link.parts name)
