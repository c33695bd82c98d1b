-- The relocations of the pieces of a link, each with what its symbol means, the first that has a fault, and what they lead to.
-- Own.
use Rattle.std.specs.Prelude.{◌≡◌, ℕ, ◌+◌, ◌-◌, ◌<◌, ◌==◌, nat_lt, Bool, if◌then◌else◌, List, [], ◌∷◌, length, filter_map, slice_index_or, Contains, Option, Some, None, option_map, option_and_then}
use Rattle.std.specs.List.{range_with_len, flat_map}
use Rattle.link_base.specs.Refusals.{first_refusal_below}
use Rattle.link_base.specs.declared.fault.Fault.{Fault}
use Rattle.link_base.specs.declared.fault.Fault.TheVariants as faults
use Rattle.coff_records.specs.declared.relocation.Relocation.{Relocation}
use Rattle.coff_records.specs.ObjectFile.{relocations_of}
use Rattle.section_group.specs.declared.piece.Piece.{Piece}
use Rattle.section_group.specs.SectionOrder.{no_piece}
use Rattle.relocate.specs.declared.fix.Fix.{Fix}
use Rattle.relocate.specs.declared.error.FieldError.{FieldError}
use Rattle.relocate.specs.declared.error.FieldError.TheVariants as error
use Rattle.relocate.specs.Field.{has_field}
use Rattle.relocate.specs.FieldFaults.{field_fault}
use Rattle.relocate.specs.Judged.{AreTheFields, ArePatchable}
use Rattle.relocate.specs.Value.{target_of}
use Rattle.module_view.specs.Module.{module_at}
use Rattle.link_pieces.specs.LinkParts.{LinkParts}
use Rattle.link_pieces.specs.Pieces.{link_pieces, link_contents}
use Rattle.link_pieces.specs.PieceIndex.{is_section}
use Rattle.synthetic_sections.specs.LinkerPieces.{FIRST_THUNK, FIRST_LOCAL_SLOT}
use Rattle.synthetic_sections.specs.LinkerFields.{thunk_field, slot_field}
use Rattle.link_pieces.specs.NameMeaning.{name_meaning}
use Rattle.link_pieces.specs.LocalSlots.{slot_names}
use Rattle.link_fields.specs.Pdata.{is_pdata}
use Rattle.link_fields.specs.Targets.{record_target, import_target, meant_target, piece_in}
use Rattle.link_fields.specs.Entry.{pointer_fault}

-- ---- the relocations of a section of the module at a position

abbrev pub fix_of : LinkParts → ℕ → List ℕ → ℕ → Relocation → Fix
fix_of link position bytes index relocation = record {
  index = index;
  at = relocation.at;
  kind = relocation.kind;
  target = record_target link position bytes relocation.symbol;
}

-- relocations from an index on
unfoldable pub fixes_from : LinkParts → ℕ → List ℕ → ℕ → List Relocation → List Fix
fixes_from link position bytes index [] = []
fixes_from link position bytes index (relocation ∷ later) =
    fix_of link position bytes index relocation ∷ fixes_from link position bytes (index + 1) later

abbrev pub section_fixes : LinkParts → ℕ → List ℕ → ℕ → List Fix
section_fixes link position bytes section = fixes_from link position bytes 0 (relocations_of bytes section)

-- ---- those of a piece

abbrev pub piece_at : LinkParts → ℕ → Piece
piece_at link k = slice_index_or (link_pieces link) k no_piece

-- a slot has one: the address of what its name means
abbrev pub slot_fixes : LinkParts → List ℕ → List Fix
slot_fixes link name = slot_field (meant_target link (name_meaning link name)) ∷ []

-- the name of a slot, by the number of its piece
abbrev pub slot_at : LinkParts → ℕ → List ℕ
slot_at link number = slice_index_or (slot_names link) (number - FIRST_LOCAL_SLOT) []

-- and so has a jump: the slot that it goes through
abbrev pub jump_fixes : LinkParts → ℕ → List Fix
jump_fixes link position = thunk_field (import_target link position) ∷ []

-- of a piece that the linker makes, by its number: a table has none
abbrev pub linker_fixes : LinkParts → ℕ → List Fix
linker_fixes link number =
    if nat_lt number FIRST_THUNK then []
    else (if nat_lt number FIRST_LOCAL_SLOT then jump_fixes link (number - FIRST_THUNK) else slot_fixes link (slot_at link number))

-- a common has none
abbrev pub fixes_in : LinkParts → Piece → List Fix
fixes_in link piece =
    if is_section (length link.modules) piece
    then section_fixes link piece.«module» (module_at link.modules piece.«module»).bytes piece.number
    else (if piece.«module» == length link.modules then linker_fixes link piece.number else [])

abbrev pub piece_fixes : LinkParts → ℕ → List Fix
piece_fixes link k = fixes_in link (piece_at link k)

-- ---- faults

-- what a local slot points to does not come into the image: before all modules, so that no section and no relocation is named
abbrev pub slot_fault : LinkParts → ℕ → Option Fault
slot_fault link slot = pointer_fault (meant_target link (name_meaning link (slice_index_or (slot_names link) slot [])))

-- that of all local slots, in the order of their names
abbrev pub slots_fault : LinkParts → Option Fault
slots_fault link = first_refusal_below (length (slot_names link)) (slot_fault link)

-- a relocation of a piece is refused; want of memory is no fault
abbrev pub refused_at : Piece → FieldError → Option Fault
refused_at piece (error.Reloc index kind) = Some (faults.BadReloc kind (Some piece.«module») piece.number index)
refused_at piece (error.Target index kind) = Some (faults.BadTarget kind (Some piece.«module») piece.number index)
refused_at piece error.Memory = None

-- how many bytes a piece has, where it is initialised
abbrev pub len_if : Bool → List ℕ → Option ℕ
len_if init contents = if init then Some (length contents) else None

-- the first relocation of a piece with these bytes that has a fault
abbrev pub judged_fault : Piece → List ℕ → Bool → List Fix → Option Fault
judged_fault piece contents large fixes =
    option_and_then (refused_at piece) (field_fault (len_if piece.init contents) large (is_pdata piece) fixes)

abbrev pub piece_fault : LinkParts → Bool → ℕ → Option Fault
piece_fault link large k =
    judged_fault (piece_at link k) (slice_index_or (link_contents link) k []) large (piece_fixes link k)

-- that of all pieces, in their order
abbrev pub fixes_fault : LinkParts → Bool → Option Fault
fixes_fault link large = first_refusal_below (length (link_pieces link)) (piece_fault link large)

-- what the fields of the first pieces are, judged
pub record HaveFields (link : LinkParts) (count : ℕ) (fixups : List (List Fix)) : Type 0 where
  pub for_each : length fixups ≡ count
  pub fields : (k : ℕ) → k < count → AreTheFields (piece_fixes link k) (slice_index_or fixups k [])
  pub patchable : (k : ℕ) → k < count → ArePatchable (length (slice_index_or (link_contents link) k [])) (slice_index_or fixups k [])

-- ---- what fields lead to

-- the piece whose place a field depends on, or behind the pieces the import, where there is one
unfoldable pub meant_in : Fix → Option ℕ
meant_in fix = if has_field fix then piece_in (target_of fix) else None

-- a piece leads to what its fields mean
abbrev pub edge_by : ℕ → Fix → Option (ℕ × ℕ)
edge_by k fix = option_map (λ to. (k, to)) (meant_in fix)

abbrev pub edges_by : ℕ → List Fix → List (ℕ × ℕ)
edges_by k fixes = filter_map (edge_by k) fixes

abbrev pub edges_of : LinkParts → ℕ → List (ℕ × ℕ)
edges_of link k = edges_by k (piece_fixes link k)

unfoldable pub field_edges : LinkParts → List (ℕ × ℕ)
field_edges link = flat_map (edges_of link) (range_with_len 0 (length (link_pieces link)))

-- the same pairs stand in both lists, in whatever order and however often
pub record HasSameEdges (edges list : List (ℕ × ℕ)) : Type 0 where
  pub there : (edge : ℕ × ℕ) → Contains edges edge → Contains list edge
  pub only : (edge : ℕ × ℕ) → Contains list edge → Contains edges edge
