-- The map of an image. Own.
use Rattle.std.specs.Prelude.{ℕ, List, ◌++◌, length, map}
use Rattle.std.specs.List.{flat_map}
use Rattle.module_view.specs.Module.{ModuleView}
use Rattle.section_group.specs.declared.piece.Piece.{Piece}
use Rattle.section_group.specs.BarePieces.{bare}
use Rattle.section_group.specs.Uniqueness.{SectionRow, rows_of}
use Rattle.address_layout.specs.declared.layout.Placed.{Placed}
use Rattle.piece_bytes.specs.Owners.{owners}
use Rattle.map_file.specs.MapText.{image_line, module_lines, section_lines, piece_line, public_line}
use Rattle.debug_rows.specs.declared.link_publics.PublicPlace.{PublicPlace}
use Rattle.debug_rows.specs.declared.map_of_image.MappedImage.{MappedImage}
use Rattle.debug_rows.specs.MapLists.{map_module, map_sections_of}
use Rattle.debug_rows.specs.MapPieces.{map_pieces_of}
use Rattle.debug_rows.specs.PlacedPublics.{map_publics_of}

-- what a map lists: the modules, pieces and public symbols of a link, and the sections of its image with their places, the RVAs
-- of the pieces, and the size of the image
pub record Mapped : Type 0 where
  pub modules : List ModuleView
  pub pieces : List Piece
  pub publics : List PublicPlace
  pub sections : List SectionRow
  pub places : List Placed
  pub rvas : List ℕ
  pub size : ℕ

abbrev pub mapped : MappedImage → Mapped
mapped image = record {
  modules = image.modules.now;
  pieces = map bare image.pieces.now;
  publics = image.publics.now;
  sections = rows_of image.sections.now;
  places = image.layout.now.sections.items;
  rvas = image.layout.now.pieces.items;
  size = image.layout.now.image;
}

-- the lines of an image that prefers a base and begins at an RVA, of its modules, of its sections, of its pieces and of its public
-- symbols
unfoldable pub image_map : Mapped → ℕ → ℕ → List ℕ
image_map image base entry =
    image_line base image.size entry
    ++ (module_lines (map map_module image.modules)
    ++ (section_lines (map_sections_of image.places image.sections)
    ++ (flat_map piece_line (map_pieces_of image.pieces image.rvas image.sections)
    ++ flat_map public_line (map_publics_of (owners image.sections (length image.rvas)) image.sections image.rvas image.publics))))
