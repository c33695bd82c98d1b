use Rattle.std.proofs.Common.{◌≡◌, ◌++◌, List, ℕ, map, ap, subst, ◌∙◌, codes}
use Rattle.std.specs.Prelude.{OnOk}
use Rattle.section_group.specs.declared.piece.Piece.{Piece}
use Rattle.section_group.specs.BarePieces.{bare}
use Rattle.section_group.specs.PieceContents.{piece_contents}
use Rattle.synthetic_sections.specs.LinkerPieces.{table_if, size_at, table_pieces, no_bytes}
use Rattle.synthetic_sections.proofs.PieceLemmas.{five_more, five_mapped}
use Rattle.synthetic_sections.proofs.pieces.push_tables.Goals as goal

pub returns-clause-pieces : goal.returns-clause-pieces
unfolding table_pieces
returns-clause-pieces c =
    let position = c.args.position in
    let sizes = c.args.sizes.now in
    subst (λ (pieces : List Piece). OnOk c.push_table-5.result (map bare c.push_table-5.new.pieces.items ≡ pieces))
    (five_more (map bare c.args.pieces.now.items) (map bare c.push_table.new.pieces.items) (map bare c.push_table-2.new.pieces.items) (map bare c.push_table-3.new.pieces.items) (map bare c.push_table-4.new.pieces.items)
    (table_if position 0 (codes ".idata$2") 4 (size_at sizes 0)) (table_if position 1 (codes ".idata$4") 8 (size_at sizes 1)) (table_if position 2 (codes ".idata$5") 8 (size_at sizes 2)) (table_if position 3 (codes ".idata$6") 2 (size_at sizes 3)) (table_if position 4 (codes ".idata$7") 1 (size_at sizes 4))
    c.in_ok-push_table.ensures.pieces c.in_ok-push_table-2.ensures.pieces c.in_ok-push_table-3.ensures.pieces c.in_ok-push_table-4.ensures.pieces)
    c.push_table-5.ensures.pieces

pub returns-clause-contents : goal.returns-clause-contents
unfolding table_pieces
returns-clause-contents c =
    let position = c.args.position in
    let sizes = c.args.sizes.now in
    let first = table_if position 0 (codes ".idata$2") 4 (size_at sizes 0) in
    let second = table_if position 1 (codes ".idata$4") 8 (size_at sizes 1) in
    let third = table_if position 2 (codes ".idata$5") 8 (size_at sizes 2) in
    let fourth = table_if position 3 (codes ".idata$6") 2 (size_at sizes 3) in
    let fifth = table_if position 4 (codes ".idata$7") 1 (size_at sizes 4) in
    let old = map piece_contents c.args.pieces.now.items in
    subst (λ (contents : List (List ℕ)). OnOk c.push_table-5.result (map piece_contents c.push_table-5.new.pieces.items ≡ contents))
    (five_more old (map piece_contents c.push_table.new.pieces.items) (map piece_contents c.push_table-2.new.pieces.items) (map piece_contents c.push_table-3.new.pieces.items) (map piece_contents c.push_table-4.new.pieces.items)
    (map no_bytes first) (map no_bytes second) (map no_bytes third) (map no_bytes fourth) (map no_bytes fifth)
    c.in_ok-push_table.ensures.contents c.in_ok-push_table-2.ensures.contents c.in_ok-push_table-3.ensures.contents c.in_ok-push_table-4.ensures.contents
    ∙ ap (λ (contents : List (List ℕ)). old ++ contents) (five_mapped no_bytes first second third fourth fifth))
    c.push_table-5.ensures.contents
