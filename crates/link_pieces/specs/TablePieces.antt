-- What is kept of a link, and the tables that the linker makes for it behind all other pieces: those of the imports that are
-- kept, that of the exports, the debug directory, and the resource tree. Own.
use Rattle.std.specs.Prelude.{◌≡◌, ◌<◌, ℕ, Bool, true, ◌&&◌, ◌==◌, nat_lt, List, [], ◌∷◌, ◌++◌, length, map, drop, slice_index_or, Option}
use Rattle.link_base.specs.Bytes.{first_below}
use Rattle.section_group.specs.declared.piece.Piece.{Piece}
use Rattle.section_group.specs.SectionOrder.{no_piece}
use Rattle.module_view.specs.Module.{ModuleView}
use Rattle.import_tables.specs.declared.row.ImportRow.{ImportRow}
use Rattle.synthetic_sections.specs.LinkerPieces.{FIRST_THUNK, size_at, table_pieces, export_table_pieces, entry_size, debug_pieces, resource_pieces, no_bytes}
use Rattle.link_imports.specs.Imports.{import_rows, import_sizes}
use Rattle.link_pieces.specs.LinkParts.{LinkParts}
use Rattle.link_pieces.specs.PieceIndex.{is_numbered, holds}
use Rattle.link_pieces.specs.Pieces.{link_pieces, link_contents}

-- ---- what is kept

-- what takes part in a link, and whether each of its pieces is kept; behind the pieces, whether the import that is the module at
-- each position is; and the piece at whose place each stands, its own behind the end of the list
pub record KeptParts : Type 0 where
  pub parts : LinkParts
  pub kept : List Bool
  pub places : List ℕ

-- whether the import that is the module at each position is kept
abbrev pub kept_imports : KeptParts → List Bool
kept_imports link = drop (length (link_pieces link.parts)) link.kept

-- the imports that are kept, as rows of the import tables
abbrev pub kept_rows : KeptParts → List ImportRow
kept_rows link = import_rows link.parts.modules (kept_imports link)

-- ---- the tables

-- for imports of which these are kept, with an export table of this size, a debug directory with data of this size, and a
-- resource tree of this size
abbrev pub tables_for : List ModuleView → List Bool → ℕ → ℕ → ℕ → List Piece
tables_for modules kept exports debug resources =
    table_pieces (length modules) (import_sizes modules kept)
    ++ (export_table_pieces (length modules) exports
    ++ (debug_pieces (length modules) debug ++ resource_pieces (length modules) resources))

abbrev pub tables_of : KeptParts → List Piece
tables_of link =
    tables_for link.parts.modules (kept_imports link) link.parts.exports.size link.parts.debug.size link.parts.resources.size

-- the sizes of the tables, by their numbers
abbrev pub table_sizes : KeptParts → List ℕ
table_sizes link =
    import_sizes link.parts.modules (kept_imports link)
    ++ link.parts.exports.size ∷ entry_size link.parts.debug.size ∷ link.parts.debug.size ∷ link.parts.resources.size ∷ []

-- ---- all pieces

abbrev pub whole_pieces : KeptParts → List Piece
whole_pieces link = link_pieces link.parts ++ tables_of link

abbrev pub whole_piece : KeptParts → ℕ → Piece
whole_piece link k = slice_index_or (whole_pieces link) k no_piece

-- the tables hold nothing before they have places
abbrev pub whole_contents : KeptParts → List (List ℕ)
whole_contents link = link_contents link.parts ++ map no_bytes (tables_of link)

-- the table of a number, where it is made
abbrev pub table_index : KeptParts → ℕ → Option ℕ
table_index link number =
    first_below (length (whole_pieces link)) (holds (is_numbered (length link.parts.modules) number) (whole_pieces link))

-- ---- what a table is

-- a piece is one of the tables, in a link of so many modules
abbrev pub is_table : ℕ → Piece → Bool
is_table count piece = (piece.«module» == count) && nat_lt piece.number FIRST_THUNK

-- one of the nine, initialised, with bytes, and as long as these will be
pub record IsLinkTable (link : KeptParts) (piece : Piece) : Type 0 where
  pub of_linker : piece.«module» ≡ length link.parts.modules
  pub few : piece.number < 9
  pub init : piece.init ≡ true
  pub some : 0 < piece.size
  pub size : piece.size ≡ size_at (table_sizes link) piece.number
