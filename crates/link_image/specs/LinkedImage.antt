-- The image of modules: their pieces in sections, the places of these, and what they make. Own.
use Rattle.std.specs.Prelude.{◌≡◌, ◌≤◌, ℕ, ◌+◌, ◌-◌, ◌<◌, ◌==◌, Bool, true, false, if◌then◌else◌, List, [], ◌∷◌, ◌++◌, length, slice_index, slice_index_or, Option, Some, None, codes}
use Rattle.piece_bytes.specs.Extents.{extent_of}
use Rattle.link_base.specs.Bytes.{u32_at, has_bytes}
use Rattle.link_base.specs.Limits.{SECTION_LIMIT, IMAGE_LIMIT}
use Rattle.link_base.specs.PeFormat.{SCN_CNT_INITIALIZED_DATA, SCN_MEM_DISCARDABLE, SCN_MEM_READ, DIRECTORY_ENTRY_EXPORT, DIRECTORY_ENTRY_IMPORT, DIRECTORY_ENTRY_RESOURCE}
use Rattle.section_group.specs.declared.piece.Piece.{Piece}
use Rattle.section_group.specs.declared.piece.OutSection.{OutSection}
use Rattle.section_group.specs.SectionOrder.{Input, input_from}
use Rattle.section_group.specs.Merging.{HasNoBadMerge}
use Rattle.section_group.specs.Placement.{IsGrouping}
use Rattle.section_group.specs.Uniqueness.{SectionRow, rows_of}
use Rattle.address_layout.specs.declared.base.BaseRule.{BaseRule}
use Rattle.address_layout.specs.declared.layout.Placed.{Placed}
use Rattle.address_layout.specs.declared.layout.Layout.{Layout}
use Rattle.address_layout.specs.PermittedBase.{is_permitted}
use Rattle.address_layout.specs.Places.{section_count}
use Rattle.address_layout.specs.Layout.{IsLayout, placed_at}
use Rattle.address_layout.specs.Growth.{CanGrow, Appends}
use Rattle.base_reloc.specs.declared.field.BaseField.{BaseField}
use Rattle.base_reloc.specs.PageBlocks.{blocks_of}
use Rattle.pe_loader.specs.LoadedImage.{loaded, directory_rva, directory_size}
use Rattle.import_tables.specs.ImportDirectory.{Imports, imports_of}
use Rattle.import_tables.specs.ReadBack.{found_of}
use Rattle.export_tables.specs.ExportDirectory.{export_of_name, export_of_ordinal}
use Rattle.export_tables.specs.ReadBack.{exported_name, exported_ordinal}
use Rattle.res_merge.specs.Entries.{Key, Entry}
use Rattle.res_merge.specs.Lookup.{resource_data}
use Rattle.res_merge.specs.Found.{IsSmallKey, data_of}
use Rattle.image_writer.specs.declared.headers.Headers.{Headers}
use Rattle.image_writer.specs.ExpectedImage.{ImagePlan, image_file}
use Rattle.image_writer.specs.WrittenImage.{written_plan}
use Rattle.debug_entry.specs.Identifier.{image_identifier}
use Rattle.synthetic_sections.specs.LinkerPieces.{SLOTS, EXPORTS, DEBUG_ENTRY, RESOURCES}
use Rattle.link_pieces.specs.TablePieces.{KeptParts, kept_rows, whole_pieces, whole_contents, table_index}
use Rattle.link_words.specs.Outcome.{LinkOptions}
use Rattle.link_fields.specs.declared.entry.EntryPlace.{EntryPlace}
use Rattle.link_fields.specs.LoaderPlaces.{TLS_NAME, LOAD_CONFIG_NAME}
use Rattle.link_plan.specs.Plan.{merges_of}
use Rattle.link_plan.specs.Planned.{used_pieces, plan_pieces, planned_entry, planned_loader}
use Rattle.image_headers.specs.declared.headers.Directories.{Directories}
use Rattle.link_image.specs.BaseFields.{is_relocated, AreBaseFields}
use Rattle.image_headers.specs.ImageHeaders.{headers_of}
use Rattle.link_image.specs.LinkedBytes.{table_rvas, exported_rows, image_contents, identified, fields_range_fault}
use Rattle.link_image.specs.ExportFaults.{in_table_fault}
use Rattle.link_image.specs.TableFaults.{tables_fault}
use Rattle.link_image.specs.NamedSections.{section_named}

-- ---- sections

-- what is put into sections: the pieces that are kept, with the tables, and the merges of the link
abbrev pub link_input : LinkOptions → KeptParts → List Piece → Input
link_input options link pieces = input_from pieces (used_pieces link) (merges_of options link.parts)

-- the sections that pieces stand in, by merges of which none is bad; and neither the exception table nor an export is
pub record AreGrouped (options : LinkOptions) (link : KeptParts) (pieces : List Piece) (sections : List OutSection) : Type 0 where
  pub merges : HasNoBadMerge (merges_of options link.parts)
  pub tables : tables_fault link ≡ None
  pub grouping : IsGrouping (link_input options link pieces) sections

-- ---- places

-- the places of the pieces and their sections, with room in the headers for that of base relocations where it will follow
pub record ArePlaced (pieces : List Piece) (sections : List OutSection) (reloc : Bool) (layout : Layout) : Type 0 where
  pub layout_of : IsLayout pieces sections reloc layout
  pub few : section_count sections reloc ≤ SECTION_LIMIT
  pub within : layout.image ≤ IMAGE_LIMIT
  pub growth : CanGrow layout

-- what the options say of the base
abbrev pub base_rule : LinkOptions → BaseRule
base_rule options = record { base = options.base; fixed = options.fixed; large = options.large }

-- the RVA at which the image begins, or 0 where it begins nowhere
abbrev pub entry_rva : List ℕ → Option EntryPlace → ℕ
entry_rva rvas None = 0
entry_rva rvas (Some place) = slice_index rvas place.piece + place.value

-- ---- the table of base relocations

-- its section, which has one piece: initialised data that can be read, and that is of no use once the image is loaded
abbrev pub table_row : ℕ → SectionRow
table_row k = record { name = codes ".reloc"; flags = SCN_CNT_INITIALIZED_DATA + SCN_MEM_DISCARDABLE + SCN_MEM_READ; pieces = k ∷ [] }

-- the table as the last section and the last piece
pub record HasTable (link : KeptParts) (piece_rows : List SectionRow) (before : Layout) (rows : List SectionRow) (layout : Layout) (tables : List (List ℕ)) : Type 0 where
  pub fields : List BaseField
  pub based : AreBaseFields link before.pieces.items fields
  pub added : Appends before layout (length (blocks_of fields))
  pub within : layout.image ≤ IMAGE_LIMIT
  pub rows_are : rows ≡ piece_rows ++ table_row (length before.pieces.items) ∷ []
  pub tables_are : tables ≡ blocks_of fields ∷ []

abbrev pub IsWhole : Bool → KeptParts → List SectionRow → Layout → List SectionRow → Layout → List (List ℕ) → Type 0
IsWhole true link piece_rows before rows layout tables = HasTable link piece_rows before rows layout tables
IsWhole false link piece_rows before rows layout tables = (rows ≡ piece_rows) × (layout ≡ before) × (tables ≡ [])

-- where everything stands: the sections of the pieces, and after them the table of base relocations where there is one
pub record IsPlacement (options : LinkOptions) (link : KeptParts) (rows : List SectionRow) (layout : Layout) (tables : List (List ℕ)) : Type 0 where
  pub sections : List OutSection
  pub grouped : AreGrouped options link (plan_pieces options link) sections
  pub before : Layout
  pub placed : ArePlaced (plan_pieces options link) sections (is_relocated options link) before
  pub whole : IsWhole (is_relocated options link) link (rows_of sections) before rows layout tables

-- the RVA and the size of the table, which is the last piece
abbrev pub table_directory : Layout → List (List ℕ) → ℕ × ℕ
table_directory layout [] = (0, 0)
table_directory layout (table ∷ tables) = (slice_index layout.pieces.items (length layout.pieces.items - 1), length table)

-- ---- the directories

-- the number of the import directory among the import tables
abbrev pub DIRECTORY : ℕ
DIRECTORY = 0

-- those of the first section of a name, where there is one
abbrev pub placed_extent : List Placed → Option ℕ → ℕ × ℕ
placed_extent placed None = (0, 0)
placed_extent placed (Some i) = ((placed_at placed i).rva, (placed_at placed i).size)

abbrev pub section_extent : List SectionRow → Layout → List ℕ → ℕ × ℕ
section_extent rows layout name = placed_extent layout.sections.items (section_named rows name)

-- four bytes as a number, or 0 where there are no four
abbrev pub u32_or_zero : List ℕ → ℕ → ℕ
u32_or_zero bytes at = if has_bytes bytes at 4 then u32_at bytes at else 0

-- the RVA of a place in a piece, and a size there, where there is the place
abbrev pub place_extent : List ℕ → Option EntryPlace → ℕ → ℕ × ℕ
place_extent rvas None size = (0, 0)
place_extent rvas (Some place) size = (slice_index rvas place.piece + place.value, size)

-- the directory of thread-local storage has one size (PE Format, "The TLS Directory", for PE32+)
abbrev pub TLS_SIZE : ℕ
TLS_SIZE = 40

-- a load configuration begins with its size, which is that of what was read: without four bytes there it is 0
abbrev pub config_size : KeptParts → Option EntryPlace → ℕ
config_size link None = 0
config_size link (Some place) = u32_or_zero (slice_index_or (whole_contents link) place.piece []) place.value

-- those of the table of a number
abbrev pub table_extent : KeptParts → Layout → ℕ → ℕ × ℕ
table_extent link layout number = extent_of (whole_pieces link) layout.pieces.items (table_index link number)

-- those of the resources: of the tree that the linker makes, or else of the section that a module has
abbrev pub resource_extent : KeptParts → List SectionRow → Layout → ℕ × ℕ
resource_extent link rows layout =
    if link.parts.resources.size == 0 then section_extent rows layout (codes ".rsrc") else table_extent link layout RESOURCES

abbrev pub directories_of : KeptParts → List SectionRow → Layout → List (List ℕ) → Directories
directories_of link rows layout tables = record {
  exports = table_extent link layout EXPORTS;
  resources = resource_extent link rows layout;
  exceptions = section_extent rows layout (codes ".pdata");
  imports = table_extent link layout DIRECTORY;
  slots = table_extent link layout SLOTS;
  relocations = table_directory layout tables;
  tls = place_extent layout.pieces.items (planned_loader link TLS_NAME) TLS_SIZE;
  load_config = place_extent layout.pieces.items (planned_loader link LOAD_CONFIG_NAME) (config_size link (planned_loader link LOAD_CONFIG_NAME));
  debug = table_extent link layout DEBUG_ENTRY;
}

-- ---- the image

-- before it has an identifier
abbrev pub unidentified_image : Headers → KeptParts → List SectionRow → Layout → List (List ℕ) → ImagePlan
unidentified_image headers link rows layout tables =
    written_plan headers rows layout.sections.items layout.pieces.items layout.image (image_contents link rows layout tables)

-- its file is what the identifier tells
abbrev pub identifier_of : Headers → KeptParts → List SectionRow → Layout → List (List ℕ) → List ℕ
identifier_of headers link rows layout tables = image_identifier (image_file (unidentified_image headers link rows layout tables))

-- the contents at each base, with the identifier
abbrev pub final_contents : Headers → KeptParts → List SectionRow → Layout → List (List ℕ) → ℕ → List (List ℕ)
final_contents headers link rows layout tables base =
    identified link (identifier_of headers link rows layout tables) (image_contents link rows layout tables base)

-- the headers, by the places
abbrev pub link_headers : LinkOptions → KeptParts → List SectionRow → Layout → List (List ℕ) → Headers
link_headers options link rows layout tables =
    headers_of options (entry_rva layout.pieces.items (planned_entry options link)) (directories_of link rows layout tables)

-- the image of modules, in which every value fits
pub record IsImageOf (options : LinkOptions) (link : KeptParts) (image : ImagePlan) : Type 0 where
  pub rows : List SectionRow
  pub layout : Layout
  pub tables : List (List ℕ)
  pub placement : IsPlacement options link rows layout tables
  pub permitted : is_permitted (base_rule options) layout.image options.base ≡ true
  pub outside : in_table_fault link layout.pieces.items ≡ None
  pub in_range : fields_range_fault link rows layout options.base ≡ None
  pub is : image ≡ written_plan (link_headers options link rows layout tables) rows layout.sections.items layout.pieces.items layout.image (final_contents (link_headers options link rows layout tables) link rows layout tables)

-- ---- its imports

-- at each base that a file is loaded at, its import directory names the imports that are kept, each with its slot, and
-- no other
abbrev pub HoldsImports : KeptParts → Layout → List ℕ → Type 0
HoldsImports link layout image =
    (base : ℕ) (memory : List ℕ) → loaded image base ≡ Some memory
    → imports_of memory (directory_rva image DIRECTORY_ENTRY_IMPORT) ≡ Imports (found_of (kept_rows link) (table_rvas link layout))

-- ---- its exports

-- at each base that a file is loaded at, its export directory says of each name and of each number what the exports of
-- the link say, and of no other
pub record HoldsExports (link : KeptParts) (layout : Layout) (image : List ℕ) : Type 0 where
  pub by_name : (base : ℕ) (memory name : List ℕ) → loaded image base ≡ Some memory → export_of_name memory (directory_rva image DIRECTORY_ENTRY_EXPORT) (directory_size image DIRECTORY_ENTRY_EXPORT) name ≡ exported_name (exported_rows link layout.pieces.items) name
  pub by_ordinal : (base : ℕ) (memory : List ℕ) (ordinal : ℕ) → loaded image base ≡ Some memory → export_of_ordinal memory (directory_rva image DIRECTORY_ENTRY_EXPORT) (directory_size image DIRECTORY_ENTRY_EXPORT) ordinal ≡ exported_ordinal (exported_rows link layout.pieces.items) link.parts.exports.ordinals ordinal

-- ---- its resources

-- at each base that a file is loaded at, its resource directory leads to the data of each of these resources, and to no others
abbrev pub HoldsEntries : List Entry → List ℕ → Type 0
HoldsEntries entries image =
    (base : ℕ) (memory : List ℕ) (kind name : Key) (language : ℕ) → loaded image base ≡ Some memory → IsSmallKey kind → IsSmallKey name
    → resource_data memory (directory_rva image DIRECTORY_ENTRY_RESOURCE) (directory_size image DIRECTORY_ENTRY_RESOURCE) kind name language ≡ data_of kind name language entries

-- to those of the resource files of the link, where there are any
abbrev pub HoldsResources : KeptParts → List ℕ → Type 0
HoldsResources link image = 0 < link.parts.resources.size → HoldsEntries link.parts.resources.entries image
