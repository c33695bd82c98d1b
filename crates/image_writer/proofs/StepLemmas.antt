-- The steps of the loops that write: one section or one piece more.
use Rattle.std.proofs.Common.{◌≡◌, ℕ, ◌+◌, ◌<◌, List, [], ◌∷◌, ◌++◌, length, get_or, map, drop, sym, ap, ◌∙◌, append_assoc, arith}
use Rattle.std.proofs.Math.ListN as plain
use Rattle.std.proofs.lemmas.List.{drop_more, get_or-map, get_or_default, length-map}
use Rattle.section_group.specs.declared.piece.Piece.{Piece}
use Rattle.section_group.specs.declared.piece.OutSection.{OutSection}
use Rattle.section_group.specs.Uniqueness.{SectionRow as OutRow, row_of, rows_of}
use Rattle.address_layout.specs.declared.layout.Placed.{Placed}
use Rattle.address_layout.specs.Layout.{placed_at}
use Rattle.image_writer.specs.ExpectedImage.{PlacedBytes}
use Rattle.section_group.specs.PieceContents.{piece_contents}
use Rattle.image_writer.specs.WrittenImage.{header_row, section_rows}
use Rattle.image_writer.specs.RawData.{section_bytes}
use Rattle.image_writer.specs.RawData.{laid, laid_all}

drop_to : {X : Type 0} (xs : List X) (i : ℕ) (x : X) → i < length xs → x ≡ get_or xs i x → drop i xs ≡ x ∷ drop (i + 1) xs
drop_to xs i x lt is = drop_more xs i x lt ∙ ap (λ (y : _). y ∷ drop (i + 1) xs) (sym is)

rows_to : (sections : List OutSection) (i : ℕ) (section : OutSection) → i < length sections → section ≡ get_or sections i section → drop i (rows_of sections) ≡ row_of section ∷ drop (i + 1) (rows_of sections)
rows_to sections i section lt is =
    drop_to (rows_of sections) i (row_of section) (omega (arith, length-map sections row_of)) (ap row_of is ∙ sym (plain.get_or-map row_of sections i section))

-- what is written and what is still to be written are the whole, before and after a step
pub kept : {X : Type 0} (new out more rest whole total : List X) → new ≡ out ++ more → out ++ whole ≡ total → whole ≡ more ++ rest → new ++ rest ≡ total
kept new out more rest whole total a b c =
    ap (λ (xs : _). xs ++ rest) a ∙ append_assoc out more rest ∙ ap (λ (xs : _). out ++ xs) (sym c) ∙ b

-- the place of a section by its index
pub place_here : (placed : List Placed) (i : ℕ) (place : Placed) → i < length placed → place ≡ get_or placed i place → placed_at placed i ≡ place
place_here placed i place lt is = get_or_default placed i _ place lt ∙ sym is

placed_to : (placed : List Placed) (i : ℕ) → i < length placed → drop i placed ≡ placed_at placed i ∷ drop (i + 1) placed
placed_to placed i lt = drop_more placed i _ lt

pub rows_step : (sections : List OutSection) (placed : List Placed) (i : ℕ) (section : OutSection) → length placed ≡ length sections → i < length sections → section ≡ get_or sections i section → section_rows (drop i (rows_of sections)) (drop i placed) ≡ header_row (row_of section) (placed_at placed i) ∷ section_rows (drop (i + 1) (rows_of sections)) (drop (i + 1) placed)
rows_step sections placed i section same lt is =
    ap (λ (rows : List OutRow). section_rows rows (drop i placed)) (rows_to sections i section lt is)
    ∙ ap (section_rows (row_of section ∷ drop (i + 1) (rows_of sections))) (placed_to placed i (omega arith))

pub all_step : (rvas : List ℕ) (contents : List (List ℕ)) (sections : List OutSection) (placed : List Placed) (i : ℕ) (section : OutSection) → length placed ≡ length sections → i < length sections → section ≡ get_or sections i section → laid_all rvas contents (drop i (rows_of sections)) (drop i placed) ≡ laid (section_bytes rvas contents section.pieces.items) ((placed_at placed i).rva + (placed_at placed i).raw) (placed_at placed i).rva ++ laid_all rvas contents (drop (i + 1) (rows_of sections)) (drop (i + 1) placed)
unfolding laid_all
all_step rvas contents sections placed i section same lt is =
    ap (λ (rows : List OutRow). laid_all rvas contents rows (drop i placed)) (rows_to sections i section lt is)
    ∙ ap (laid_all rvas contents (row_of section ∷ drop (i + 1) (rows_of sections))) (placed_to placed i (omega arith))

-- the first of the pieces that are still to be written
pub piece_step : (rvas : List ℕ) (pieces : List Piece) (indexes : List ℕ) (j k : ℕ) (piece : Piece) (bytes : List ℕ) → j < length indexes → k ≡ get_or indexes j 0 → k < length pieces → piece ≡ get_or pieces k piece → bytes ≡ piece_contents piece → section_bytes rvas (map piece_contents pieces) (drop j indexes) ≡ record { rva = get_or rvas k 0; bytes = bytes } ∷ section_bytes rvas (map piece_contents pieces) (drop (j + 1) indexes)
piece_step rvas pieces indexes j k piece bytes lt at less is content =
    let rest = section_bytes rvas (map piece_contents pieces) (drop (j + 1) indexes) in
    let held : get_or (map piece_contents pieces) k [] ≡ bytes = get_or-map piece_contents pieces k piece [] less ∙ ap piece_contents (sym is) ∙ sym content in
    let one : List ℕ → PlacedBytes = λ bs. record { rva = get_or rvas k 0; bytes = bs } in
    ap (section_bytes rvas (map piece_contents pieces)) (drop_more indexes j 0 lt ∙ ap (λ (n : ℕ). n ∷ drop (j + 1) indexes) (sym at))
    ∙ ap (λ (bs : List ℕ). one bs ∷ rest) held
