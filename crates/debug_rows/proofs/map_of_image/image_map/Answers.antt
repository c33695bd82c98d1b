use Rattle.std.proofs.Common.{ℕ, List, ◌++◌, map, sym, ap, ◌∙◌}
use Rattle.std.specs.List.{flat_map}
use Rattle.map_file.specs.declared.rows.MapModule.{MapModule}
use Rattle.map_file.specs.declared.rows.MapSection.{MapSection}
use Rattle.map_file.specs.declared.rows.MapPiece.{MapPiece}
use Rattle.map_file.specs.declared.rows.MapPublic.{MapPublic}
use Rattle.map_file.specs.MapText.{image_line, module_lines, section_lines, piece_line, public_line}
use Rattle.section_group.specs.BarePieces.{bare}
use Rattle.section_group.specs.Uniqueness.{rows_of}
use Rattle.debug_rows.specs.MapLists.{map_module, map_sections_of}
use Rattle.debug_rows.specs.MapPieces.{map_pieces_of}
use Rattle.debug_rows.specs.PlacedPublics.{map_publics_of}
use Rattle.debug_rows.specs.ImageMap.{image_map}
use Rattle.debug_rows.proofs.BareLemmas.{pieces_bare}
use Rattle.debug_rows.proofs.map_of_image.image_map.Goals as goal

-- the text of these lists
abbrev lines : ℕ → ℕ → ℕ → List MapModule → List MapSection → List MapPiece → List MapPublic → List ℕ
lines base size entry modules sections pieces publics =
    image_line base size entry ++ (module_lines modules ++ (section_lines sections ++ (flat_map piece_line pieces ++ flat_map public_line publics)))

pub returns : goal.returns
unfolding image_map
returns c =
    let image = c.args.image.now in
    let size = image.layout.now.image in
    let text = lines c.args.base size c.args.entry in
    let rvas = image.layout.now.pieces.items in
    let rows = rows_of image.sections.now in
    let modules = map map_module image.modules.now in
    let sections = map_sections_of image.layout.now.sections.items rows in
    let pieces = map_pieces_of (map bare image.pieces.now) rvas rows in
    let placed = c.in_ok-pieces.ensures ∙ sym (pieces_bare image.pieces.now rvas rows) in
    let owned = c.in_ok-publics.ensures ∙ ap (λ (owner : List ℕ). map_publics_of owner rows rvas image.publics.now) c.requires.owner in
    c.in_ok-text.ensures
    ∙ ap (λ (rows : List MapModule). text rows c.in_ok-sections.sections.items c.in_ok-pieces.pieces.items c.in_ok-publics.publics.items) c.in_ok-modules.ensures
    ∙ ap (λ (rows : List MapSection). text modules rows c.in_ok-pieces.pieces.items c.in_ok-publics.publics.items) c.in_ok-sections.ensures
    ∙ ap (λ (rows : List MapPiece). text modules sections rows c.in_ok-publics.publics.items) placed
    ∙ ap (λ (rows : List MapPublic). text modules sections pieces rows) owned
