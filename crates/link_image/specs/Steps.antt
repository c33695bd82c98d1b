-- What the steps of the code promise one another. It decides nothing.
use Rattle.std.specs.Prelude.{◌≡◌, ◌≢◌, ◌<◌, ◌≤◌, ◌⊎◌, ℕ, ◌+◌, ◌^◌, ◌%◌, ◌==◌, true, false, if◌then◌else◌, List, [], ◌∷◌, ◌++◌, length, map, slice_index, slice_index_or, Option, Some, None}
use Rattle.std.specs.List.{All, Contains, IsDistinct, range_with_len}
use Rattle.std.specs.declared.vec.Vec.{Vec}
use Rattle.link_base.specs.Bytes.{first_below}
use Rattle.link_base.specs.declared.fault.Fault.{Fault}
use Rattle.section_group.specs.declared.piece.Piece.{Piece}
use Rattle.section_group.specs.declared.piece.OutSection.{OutSection}
use Rattle.section_group.specs.SectionOrder.{no_piece}
use Rattle.section_group.specs.BarePieces.{bare}
use Rattle.section_group.specs.PieceContents.{piece_contents}
use Rattle.section_group.specs.Uniqueness.{row_of, rows_of}
use Rattle.address_layout.specs.declared.layout.Layout.{Layout}
use Rattle.address_layout.specs.Layout.{all_pieces}
use Rattle.relocate.specs.declared.fix.Fix.{Fix}
use Rattle.relocate.specs.declared.fix.Target.{Target}
use Rattle.relocate.specs.declared.range.RelocRange.{RelocRange}
use Rattle.base_reloc.specs.declared.field.BaseField.{BaseField}
use Rattle.base_reloc.specs.PageBlocks.{blocks_of}
use Rattle.piece_bytes.specs.PieceBytes.{size_at}
use Rattle.pdata_table.specs.Rows.{ROW_SIZE}
use Rattle.pdata_table.specs.SortedContents.{is_among, sorted_contents}
use Rattle.relocate.specs.PatchedBytes.{HaveNoBased}
use Rattle.relocate.specs.Value.{IsLeastOutside}
use Rattle.image_writer.specs.declared.headers.Headers.{Headers}
use Rattle.image_writer.specs.ExpectedImage.{image_file}
use Rattle.image_writer.specs.WrittenImage.{layout_plan, at_each_base, IsLaidOut}
use Rattle.link_pieces.specs.TablePieces.{KeptParts, whole_piece, is_table}
use Rattle.link_pieces.specs.PieceIndex.{is_numbered, holds}
use Rattle.link_keeping.specs.Standing.{AreStanding}
use Rattle.link_plan.specs.Planned.{HaveFields, used_pieces, plan_pieces, planned_fixes, planned_target}
use Rattle.link_base.specs.Limits.{MODULE_LIMIT, SECTION_LIMIT, IMAGE_LIMIT}
use Rattle.link_words.specs.Outcome.{LinkOptions}
use Rattle.link_plan.specs.declared.planning.LinkPlan.{LinkPlan}
use Rattle.link_fields.specs.declared.entry.EntryPlace.{EntryPlace}
use Rattle.link_fields.specs.ExportTargets.{export_target}
use Rattle.directives.specs.declared.item.Export.{Export}
use Rattle.link_plan.specs.Laid.{StandsNamed}
use Rattle.link_image.specs.declared.placement.Placement.{Placement}
use Rattle.link_image.specs.NamedSections.{pdata_pieces}
use Rattle.link_image.specs.BaseFields.{AreBaseFields}
use Rattle.link_image.specs.LinkedBytes.{owners_in, contents_at, placed_contents, linked_contents, identified, out_of_range}
use Rattle.debug_entry.specs.Identifier.{image_identifier}
use Rattle.debug_rows.specs.ImageMap.{Mapped}
use Rattle.link_image.specs.LinkedImage.{link_input, table_row, IsPlacement}
use Rattle.section_group.specs.Merging.{HasNoBadMerge}
use Rattle.section_group.specs.Placement.{IsGrouping}
use Rattle.link_plan.specs.Plan.{merges_of, kept_parts}
use Rattle.export_tables.specs.declared.row.ExportTo.{ExportTo}
use Rattle.export_tables.specs.declared.row.ExportTo.TheVariants.{Rva, Forward}

-- the fault says which value of a piece is out of range
pub record RefusesRange (base rva : ℕ) (layout : Layout) (owner : List ℕ) (fixups : List Fix) (bytes : List ℕ) (piece : Piece) (fault : Fault) : Type 0 where
  pub range : RelocRange
  pub least : IsLeastOutside base rva layout owner fixups bytes range
  pub is : fault ≡ out_of_range piece range

-- ---- where everything stands

-- the table of base relocations, where there is one
abbrev pub reloc_tables : {A : Type 0} → Option (Vec ℕ A) → List (List ℕ)
reloc_tables None = []
reloc_tables (Some table) = table.items ∷ []

-- pieces that hold the tables, each as long as its table
pub record HoldTables (tables : List (List ℕ)) (rest : List Piece) : Type 0 where
  pub contents : map piece_contents rest ≡ tables
  pub sizes : (j : ℕ) → j < length rest → (slice_index_or rest j no_piece).size ≡ length (slice_index_or tables j [])

-- a table of base relocations
pub record IsTable (link : KeptParts) (rvas table : List ℕ) : Type 0 where
  pub fields : List BaseField
  pub based : AreBaseFields link rvas fields
  pub is : table ≡ blocks_of fields

-- the section of the table of a piece is the last
pub record EndsWithTable (old new : List OutSection) (k : ℕ) : Type 0 where
  pub section : OutSection
  pub is : new ≡ old ++ section ∷ []
  pub row : row_of section ≡ table_row k

-- the placement of a plan: what it means, that it can be written, and that pieces that need a place stand in a section
pub record IsPlaced (options : LinkOptions) (plan : LinkPlan) (placement : Placement) : Type 0 where
  pub means : IsPlacement options (kept_parts plan) (rows_of placement.sections.items) placement.layout (reloc_tables placement.table)
  pub laid : (rest : List Piece) → HoldTables (reloc_tables placement.table) rest → IsLaidOut (plan.pieces.items ++ rest) placement.sections.items placement.layout
  pub stands : (k : ℕ) → k < length plan.pieces.items → slice_index_or (used_pieces (kept_parts plan)) k false ≡ true → ((0 < (slice_index_or plan.pieces.items k no_piece).size) ⊎ ((slice_index_or plan.pieces.items k no_piece).named ≡ true)) → Contains (all_pieces placement.sections.items) k
  pub room : length plan.pieces.items ≤ length placement.layout.pieces.items
  pub fits : (place : EntryPlace) → StandsNamed plan.pieces.items place → slice_index_or (used_pieces (kept_parts plan)) place.piece false ≡ true → slice_index placement.layout.pieces.items place.piece < 2 ^ 32 → slice_index placement.layout.pieces.items place.piece + place.value < 2 ^ 32
  pub ends : (k : ℕ) → k < length plan.pieces.items → slice_index_or (used_pieces (kept_parts plan)) k false ≡ true → 0 < (slice_index_or plan.pieces.items k no_piece).size → slice_index placement.layout.pieces.items k + (slice_index_or plan.pieces.items k no_piece).size ≤ IMAGE_LIMIT
  pub few : length placement.sections.items ≤ SECTION_LIMIT
  pub small : All (λ table. length table < 2 ^ 32) (reloc_tables placement.table)

-- ---- the tables of imports and exports

-- the piece of a number in the module at a position, among these
abbrev pub numbered_index : ℕ → List Piece → ℕ → Option ℕ
numbered_index position pieces number = first_below (length pieces) (holds (is_numbered position number) pieces)

-- the pieces of the tables, where they are made
abbrev pub numbered_indexes : ℕ → List Piece → List (Option ℕ)
numbered_indexes position pieces = map (numbered_index position pieces) (range_with_len 0 9)

-- what some exports of a link stand for
abbrev pub targets_of : KeptParts → List Export → List (Option Target)
targets_of link rows = map (planned_target link) (map (export_target link.parts) rows)

-- an export stands for another image, or for an address that is not 0 and has four bytes
abbrev pub IsGiven : ExportTo → Type 0
IsGiven (Rva address) = (address ≢ 0) × (address < 2 ^ 32)
IsGiven (Forward text) = Unit {0}

-- the sections that pieces stand in, by merges of which none is bad
pub record AreMerged (options : LinkOptions) (link : KeptParts) (pieces : List Piece) (sections : List OutSection) : Type 0 where
  pub merges : HasNoBadMerge (merges_of options link.parts)
  pub grouping : IsGrouping (link_input options link pieces) sections

-- ---- pieces with their bytes

-- the bytes of the tables, by their numbers: those of the imports, and the others
abbrev pub all_bytes : {A B : Type 0} → List (Vec ℕ A) → List (Vec ℕ B) → List (List ℕ)
all_bytes imports others = map (λ table. table.items) imports ++ map (λ table. table.items) others

-- what a piece is given: a table its bytes, and any other what it has
abbrev pub given_contents : ℕ → List (List ℕ) → Piece → List ℕ
given_contents position tables piece =
    if is_table position piece then slice_index_or tables piece.number [] else piece_contents piece

-- a table can be given its bytes
pub record CanBeGiven (piece : Piece) : Type 0 where
  pub few : piece.number < 9
  pub init : piece.init ≡ true

-- the pieces with what they are given, and after them what holds the table of base relocations, where there is one
pub record AreWhole (position : ℕ) (imports tables : List (List ℕ)) (pieces whole : List Piece) : Type 0 where
  pub rest : List Piece
  pub same : map bare whole ≡ map bare (pieces ++ rest)
  pub contents : map piece_contents whole ≡ map (given_contents position imports) pieces ++ tables
  pub holds : HoldTables tables rest

-- an initialised piece holds as many bytes as its size, and another none
pub record IsHeld (piece : Piece) (bytes : List ℕ) : Type 0 where
  pub filled : piece.init ≡ true → length bytes ≡ piece.size
  pub empty : piece.init ≡ false → length bytes ≡ 0

-- a piece of the exception table: it holds whole rows, and none of its fields holds an address
pub record IsRowPiece (link : KeptParts) (pieces : List Piece) (layout : Layout) (k : ℕ) : Type 0 where
  pub there : k < length pieces
  pub no_table : is_table (length link.parts.modules) (whole_piece link k) ≡ false
  pub size : length (contents_at link layout k) ≡ size_at pieces k
  pub rows : length (contents_at link layout k) % ROW_SIZE ≡ 0
  pub unbased : HaveNoBased (planned_fixes link k)

-- ---- what was decided before fields are patched

-- the pieces with their fields, the tables after them, and where all of these stand
pub record IsReady (link : KeptParts) (pieces : List Piece) (fixups : List (List Fix)) (sections : List OutSection) (layout : Layout) (owner : List ℕ) (tables : List (List ℕ)) : Type 0 where
  pub options : LinkOptions
  pub few_modules : length link.parts.modules ≤ MODULE_LIMIT
  pub kept_are : AreStanding options link
  pub pieces_are : map bare pieces ≡ plan_pieces options link
  pub held : (k : ℕ) → k < length pieces → IsHeld (slice_index_or pieces k no_piece) (contents_at link layout k)
  pub fields : HaveFields link (length pieces) fixups
  pub rest : List Piece
  pub holds : HoldTables tables rest
  pub laid : IsLaidOut (pieces ++ rest) sections layout
  pub stands : (k : ℕ) → k < length pieces → slice_index_or (used_pieces link) k false ≡ true → ((0 < (slice_index_or pieces k no_piece).size) ⊎ ((slice_index_or pieces k no_piece).named ≡ true)) → Contains (all_pieces sections) k
  pub owner_is : owner ≡ owners_in (rows_of sections) layout
  pub rows_are : (k : ℕ) → is_among k (pdata_pieces (rows_of sections)) ≡ true → IsRowPiece link pieces layout k
  pub rows_apart : IsDistinct (λ j i. j == i) (pdata_pieces (rows_of sections))

-- the file of an image with these headers and contents, and the tables after them
abbrev pub file_of : Headers → List OutSection → Layout → List (List ℕ) → List (List ℕ) → List ℕ
file_of headers sections layout contents tables = image_file (layout_plan headers sections layout (at_each_base (contents ++ tables)))

-- what was written of pieces and tables
pub record IsWritten (headers : Headers) (placement : Placement) (link : KeptParts) (image : List ℕ) : Type 0 where
  pub rest : List Piece
  pub holds : HoldTables (reloc_tables placement.table) rest
  pub file : image ≡ file_of headers placement.sections.items placement.layout (placed_contents link placement.layout) (reloc_tables placement.table)

-- the file of an image whose fields are patched, with the rows of its exception table in order
abbrev pub sorted_file : Headers → LinkPlan → Placement → List ℕ
sorted_file headers plan placement =
    file_of headers placement.sections.items placement.layout
    (sorted_contents (pdata_pieces (rows_of placement.sections.items)) (linked_contents (kept_parts plan) (rows_of placement.sections.items) placement.layout headers.base))
    (reloc_tables placement.table)

-- with the identifier that this file tells
abbrev pub identified_file : Headers → LinkPlan → Placement → List ℕ
identified_file headers plan placement =
    file_of headers placement.sections.items placement.layout
    (identified (kept_parts plan) (image_identifier (sorted_file headers plan placement))
    (sorted_contents (pdata_pieces (rows_of placement.sections.items)) (linked_contents (kept_parts plan) (rows_of placement.sections.items) placement.layout headers.base)))
    (reloc_tables placement.table)

-- what is listed of a plan at these places
abbrev pub listed_link : LinkPlan → Placement → Mapped
listed_link plan placement = record {
  modules = plan.modules.items;
  pieces = map bare plan.pieces.items;
  publics = plan.publics.items;
  sections = rows_of placement.sections.items;
  places = placement.layout.sections.items;
  rvas = placement.layout.pieces.items;
  size = placement.layout.image;
}
