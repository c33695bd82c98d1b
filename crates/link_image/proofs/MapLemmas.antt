-- The map of an image, by the lists that the code has of it.
use Rattle.std.proofs.Common.{◌≡◌, ℕ, true, List, map, Option, Some, None, option_map, refl, sym, ap, ◌∙◌}
use Rattle.std.specs.Prelude.{is_some}
use Rattle.std.proofs.lemmas.Bool.{false≢true}
use Rattle.section_group.specs.declared.piece.Piece.{Piece}
use Rattle.section_group.specs.BarePieces.{bare}
use Rattle.section_group.specs.Uniqueness.{SectionRow}
use Rattle.module_view.specs.Module.{ModuleView}
use Rattle.address_layout.specs.declared.layout.Layout.{Layout}
use Rattle.link_words.specs.Outcome.{LinkOptions}
use Rattle.link_pieces.specs.LinkParts.{LinkParts}
use Rattle.link_fields.specs.declared.entry.EntryPlace.{EntryPlace}
use Rattle.debug_rows.specs.declared.link_publics.PublicPlace.{PublicPlace}
use Rattle.debug_rows.specs.ImageMap.{Mapped, image_map}
use Rattle.link_plan.specs.declared.planning.LinkPlan.{LinkPlan}
use Rattle.link_plan.specs.LinkPublics.{lists_publics}
use Rattle.link_plan.specs.Planned.{plan_pieces}
use Rattle.link_plan.specs.Plan.{IsPlanOf, kept_parts}
use Rattle.link_image.specs.LinkedImage.{entry_rva}
use Rattle.link_image.specs.LinkMap.{mapped_link, link_map}

-- what an image of these lists has
abbrev pub listed : List ModuleView → List Piece → List PublicPlace → List SectionRow → Layout → Mapped
listed modules pieces publics rows layout = record {
  modules = modules;
  pieces = pieces;
  publics = publics;
  sections = rows;
  places = layout.sections.items;
  rvas = layout.pieces.items;
  size = layout.image;
}

-- a text that is there is asked for
pub text_there : {A : Type 0} (file : Option A) (name : A → List ℕ) (text : List ℕ) → is_some file ≡ true → Some text ≡ option_map (λ n. text) (option_map name file)
text_there None name text some = absurd (false≢true some)
text_there (Some file) name text some = refl

pub is_asked : {A : Type 0} (file : Option A) (name : A → List ℕ) → is_some file ≡ true → is_some (option_map name file) ≡ true
is_asked None name some = absurd (false≢true some)
is_asked (Some file) name some = refl

pub listed_there : (options : LinkOptions) (plan : LinkPlan) (rows : List SectionRow) (layout : Layout) → IsPlanOf options plan.modules.items plan → lists_publics options ≡ true → listed plan.modules.items (map bare plan.pieces.items) plan.publics.items rows layout ≡ mapped_link options (kept_parts plan) rows layout
listed_there options plan rows layout planned asked =
    let link = kept_parts plan in
    ap (λ (modules : List ModuleView). listed modules (map bare plan.pieces.items) plan.publics.items rows layout) (sym (ap (λ (parts : LinkParts). parts.modules) planned.link_is.parts_are))
    ∙ ap (λ (pieces : List Piece). listed link.parts.modules pieces plan.publics.items rows layout) planned.pieces_are
    ∙ ap (λ (publics : List PublicPlace). listed link.parts.modules (plan_pieces options link) publics rows layout) (planned.publics_are asked)

pub map_there : (options : LinkOptions) (plan : LinkPlan) (rows : List SectionRow) (layout : Layout) (entry : ℕ) → IsPlanOf options plan.modules.items plan → lists_publics options ≡ true → entry ≡ entry_rva layout.pieces.items plan.entry → image_map (listed plan.modules.items (map bare plan.pieces.items) plan.publics.items rows layout) options.base entry ≡ link_map options (kept_parts plan) rows layout
unfolding link_map
map_there options plan rows layout entry planned asked begins =
    let link = kept_parts plan in
    ap (λ (image : Mapped). image_map image options.base entry) (listed_there options plan rows layout planned asked)
    ∙ ap (image_map (mapped_link options link rows layout) options.base) begins
    ∙ ap (λ (place : Option EntryPlace). image_map (mapped_link options link rows layout) options.base (entry_rva layout.pieces.items place)) planned.entry_is
