use Rattle.std.proofs.Common.{◌≡◌, ℕ, List, [], ◌++◌, Option, option_map, option_and_then, None, cond, length, sym, ap, ◌∙◌, append-nil, arith}
use Rattle.std.specs.Prelude.{filter_map}
use Rattle.std.specs.List.{cons_option, range_with_len}
use Rattle.std.proofs.lemmas.List.{length-map}
use Rattle.coff_aux.specs.Comdats.{comdat_of}
use Rattle.section_group.specs.declared.piece.Piece.{Piece}
use Rattle.section_group.specs.BarePieces.{bare}
use Rattle.module_view.specs.Module.{ModuleView, module_at}
use Rattle.link_pieces.specs.PieceIndex.{is_section, piece_index}
use Rattle.link_keeping.specs.Reach.{child_edge, parent_in, parent_piece}
use Rattle.link_fields.proofs.ListLemmas.{kept_range}
use Rattle.link_keeping.proofs.RootLemmas.{piece_read}
use Rattle.link_keeping.proofs.keeping.link_graph.Goals as goal

pub loop-k-init : goal.loop-k-init
loop-k-init c = λ link modules pieces index. sym (append-nil c.args.edges.items)

pub loop-k-preserved : goal.loop-k-preserved
loop-k-preserved c = λ link modules pieces index.
    let k = c.loop-k.k in
    let piece = c.index-pieces-k.result in
    let read = piece_read link c.args.pieces.now k piece pieces (omega arith) c.index-pieces-k.is in
    let parent : c.parent_piece.result ≡ parent_piece link k =
    c.parent_piece.ensures link modules index
    ∙ ap (λ (ms : List ModuleView). cond (is_section (length ms) piece) (option_and_then (piece_index link piece.«module») (parent_in (comdat_of (module_at ms piece.«module»).bytes piece.number))) None) (sym modules)
    ∙ ap (λ (p : Piece). cond (is_section (length link.modules) p) (option_and_then (piece_index link p.«module») (parent_in (comdat_of (module_at link.modules p.«module»).bytes p.number))) None) read in
    kept_range (child_edge link) k c.args.edges.items c.loop-k.edges.items c.push_child.new.edges.items (c.loop-k.invariant link modules pieces index)
    (c.in_ok-push_child.ensures
    ∙ ap (λ (p : Option ℕ). c.loop-k.edges.items ++ cons_option (option_map (λ from. (from, k)) p) []) parent)

pub returns-clause-edges : goal.returns-clause-edges
returns-clause-edges c = λ link modules pieces index.
    c.loop-k.invariant link modules pieces index
    ∙ ap (λ (n : ℕ). c.args.edges.items ++ filter_map (child_edge link) (range_with_len 0 n)) (omega (arith, length-map c.args.pieces.now bare, ap length pieces))
