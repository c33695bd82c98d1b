-- What is laid out of a link before anything has a place. It decides nothing beyond the definitions that it names.
use Rattle.std.specs.Prelude.{◌≡◌, ◌<◌, ◌≤◌, ℕ, ◌^◌, true, false, List, length, map, slice_index_or, None}
use Rattle.std.specs.List.{All}
use Rattle.std.specs.Option.{ForSome}
use Rattle.section_group.specs.declared.piece.Piece.{Piece}
use Rattle.section_group.specs.SectionOrder.{no_piece}
use Rattle.section_group.specs.BarePieces.{bare}
use Rattle.section_group.specs.PieceContents.{piece_contents, HasItsBytes}
use Rattle.address_layout.specs.Layout.{IsAlignment}
use Rattle.link_pieces.specs.LinkParts.{LinkParts}
use Rattle.module_view.specs.Opening.{IsOpened}
use Rattle.link_imports.specs.Imports.{AreImports}
use Rattle.link_pieces.specs.TablePieces.{KeptParts, kept_imports, whole_contents, is_table}
use Rattle.link_words.specs.Outcome.{LinkOptions}
use Rattle.link_fields.specs.declared.entry.EntryPlace.{EntryPlace}
use Rattle.link_fields.specs.LoaderPlaces.{TLS_NAME, LOAD_CONFIG_NAME}
use Rattle.link_keeping.specs.Standing.{AreStanding}
use Rattle.link_plan.specs.declared.laid.LaidPieces.{LaidPieces}
use Rattle.link_plan.specs.Planned.{plan_pieces, planned_targets, planned_entry, planned_loader, HaveFields}
use Rattle.link_plan.specs.PlanFaults.{fields_fault}

-- a place in a piece that stands in a section even where it has no bytes
pub record StandsNamed (pieces : List Piece) (place : EntryPlace) : Type 0 where
  pub within : place.piece < length pieces
  pub named : (slice_index_or pieces place.piece no_piece).named ≡ true
  pub inside : place.value ≤ (slice_index_or pieces place.piece no_piece).size

-- what is laid of a link that is kept
abbrev pub laid_link : LinkParts → LaidPieces → KeptParts
laid_link link laid = record { parts = link; kept = laid.kept.items; places = laid.place_of.items }

-- what is kept of the pieces of the modules, with their fields and the tables, and the places of the entry, the exports and what
-- the loader of a program looks for
pub record ArePlanned (options : LinkOptions) (link : LinkParts) (laid : LaidPieces) : Type 0 where
  pub kept_are : AreStanding options (laid_link link laid)
  pub pieces_are : map bare laid.pieces.items ≡ plan_pieces options (laid_link link laid)
  pub contents_are : map piece_contents laid.pieces.items ≡ whole_contents (laid_link link laid)
  pub aligned : All (λ piece. IsAlignment piece.align) laid.pieces.items
  pub bodies : (k : ℕ) → k < length laid.pieces.items → is_table (length link.modules) (slice_index_or laid.pieces.items k no_piece) ≡ false → HasItsBytes laid.pieces.items k
  pub few : length laid.pieces.items < 2 ^ 31
  pub fields : HaveFields (laid_link link laid) (length laid.pieces.items) laid.fixes.items
  pub imports : AreImports link.modules (kept_imports (laid_link link laid)) laid.imports
  pub entry_is : laid.entry ≡ planned_entry options (laid_link link laid)
  pub exported_are : laid.exported.items ≡ planned_targets (laid_link link laid)
  pub tls_is : laid.loader.tls ≡ planned_loader (laid_link link laid) TLS_NAME
  pub load_config_is : laid.loader.load_config ≡ planned_loader (laid_link link laid) LOAD_CONFIG_NAME

-- none of them has a fault
pub record AreLaid (options : LinkOptions) (link : LinkParts) (laid : LaidPieces) : Type 0 where
  pub opened : All IsOpened link.modules
  pub planned : ArePlanned options link laid
  pub stands : ForSome laid.entry (StandsNamed laid.pieces.items)
  pub tls_stands : ForSome laid.loader.tls (StandsNamed laid.pieces.items)
  pub load_config_stands : ForSome laid.loader.load_config (StandsNamed laid.pieces.items)
  pub no_fault : fields_fault options link ≡ None
