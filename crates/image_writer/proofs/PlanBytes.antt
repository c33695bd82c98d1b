-- What the pieces of a written plan hold at a base: the contents at that base, section by section.
use Rattle.std.proofs.Common.{◌≡◌, ℕ, List, [], ◌∷◌, ◌++◌, map, refl, ap, ◌∙◌}
use Rattle.std.specs.List.{flat_map}
use Rattle.std.proofs.lemmas.List.{map-append}
use Rattle.section_group.specs.Uniqueness.{SectionRow as OutRow}
use Rattle.address_layout.specs.declared.layout.Placed.{Placed}
use Rattle.image_writer.specs.declared.headers.Headers.{Headers}
use Rattle.image_writer.specs.ExpectedImage.{PlacedBytes, bytes_at_base, plan_bytes}
use Rattle.image_writer.specs.WrittenImage.{placed_piece, section_pieces, written_plan}
use Rattle.image_writer.specs.RawData.{piece_bytes, section_bytes, all_bytes}

section_at_base : (rvas : List ℕ) (contents : ℕ → List (List ℕ)) (base : ℕ) (indexes : List ℕ) → map (bytes_at_base base) (map (placed_piece rvas contents) indexes) ≡ section_bytes rvas (contents base) indexes
section_at_base rvas contents base [] = refl
section_at_base rvas contents base (k ∷ ks) = ap (λ (ps : List PlacedBytes). piece_bytes rvas (contents base) k ∷ ps) (section_at_base rvas contents base ks)

all_at_base : (rvas : List ℕ) (contents : ℕ → List (List ℕ)) (base : ℕ) (rows : List OutRow) → map (bytes_at_base base) (flat_map (section_pieces rvas contents) rows) ≡ all_bytes rvas (contents base) rows
all_at_base rvas contents base [] = refl
all_at_base rvas contents base (row ∷ rows) =
    map-append (bytes_at_base base) (section_pieces rvas contents row) (flat_map (section_pieces rvas contents) rows)
    ∙ ap (λ (ps : List PlacedBytes). ps ++ map (bytes_at_base base) (flat_map (section_pieces rvas contents) rows)) (section_at_base rvas contents base row.pieces)
    ∙ ap (λ (ps : List PlacedBytes). section_bytes rvas (contents base) row.pieces ++ ps) (all_at_base rvas contents base rows)

pub written_bytes : (headers : Headers) (rows : List OutRow) (placed : List Placed) (rvas : List ℕ) (image : ℕ) (contents : ℕ → List (List ℕ)) (base : ℕ) → plan_bytes (written_plan headers rows placed rvas image contents) base ≡ all_bytes rvas (contents base) rows
unfolding written_plan
written_bytes headers rows placed rvas image contents base = all_at_base rvas contents base rows
