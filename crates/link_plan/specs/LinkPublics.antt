-- The public symbols of what a link keeps, at the places that its pieces and imports have. Own.
use Rattle.std.specs.Prelude.{Bool, ◌||◌, List, length, is_some}
use Rattle.std.specs.List.{filter_map}
use Rattle.link_words.specs.Outcome.{LinkOptions}
use Rattle.link_pieces.specs.Pieces.{link_pieces}
use Rattle.link_pieces.specs.TablePieces.{KeptParts}
use Rattle.debug_rows.specs.declared.link_publics.PublicPlace.{PublicPlace}
use Rattle.debug_rows.specs.Publics.{publics_of}
use Rattle.debug_rows.specs.KeptPublics.{kept_public}
use Rattle.link_plan.specs.Planned.{slot_offsets, slot_table}

-- a map lists them, and a PDB does
abbrev pub lists_publics : LinkOptions → Bool
lists_publics options = is_some options.map_file || options.debug

-- the slot of an import stands in the table of slots
unfoldable pub link_publics : KeptParts → List PublicPlace
link_publics link =
    filter_map (kept_public link.kept link.places (length (link_pieces link.parts)) (slot_table link) (slot_offsets link)) (publics_of link.parts)
