-- The map of an image, where one is asked for. Own.
use Rattle.std.specs.Prelude.{ℕ, List, Option, option_map}
use Rattle.section_group.specs.Uniqueness.{SectionRow}
use Rattle.address_layout.specs.declared.layout.Layout.{Layout}
use Rattle.link_words.specs.Outcome.{LinkOptions}
use Rattle.link_pieces.specs.TablePieces.{KeptParts}
use Rattle.debug_rows.specs.ImageMap.{Mapped, image_map}
use Rattle.link_plan.specs.LinkPublics.{link_publics}
use Rattle.link_plan.specs.Planned.{plan_pieces, planned_entry}
use Rattle.link_image.specs.LinkedImage.{entry_rva}

-- it lists what is kept of the link, where it stands in the image
abbrev pub mapped_link : LinkOptions → KeptParts → List SectionRow → Layout → Mapped
mapped_link options link rows layout = record {
  modules = link.parts.modules;
  pieces = plan_pieces options link;
  publics = link_publics link;
  sections = rows;
  places = layout.sections.items;
  rvas = layout.pieces.items;
  size = layout.image;
}

unfoldable pub link_map : LinkOptions → KeptParts → List SectionRow → Layout → List ℕ
link_map options link rows layout =
    image_map (mapped_link options link rows layout) options.base (entry_rva layout.pieces.items (planned_entry options link))

abbrev pub asked_map : LinkOptions → List ℕ → Option (List ℕ)
asked_map options text = option_map (λ name. text) options.map_file
