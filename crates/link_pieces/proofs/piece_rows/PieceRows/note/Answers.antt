use Rattle.std.proofs.Common.{◌≡◌, ℕ, ◌+◌, ◌<◌, ◌&&◌, cond, eqb, List, Option, None, Some, get_or, set, sym, ap, subst, ◌∙◌, arith}
use Rattle.std.specs.Option.{option_or}
use Rattle.std.proofs.lemmas.List.{get_or_default}
use Rattle.link_pieces.specs.PieceIndex.{RowsView, row_start, indexed}
use Rattle.link_pieces.specs.Rows.{AreRows}
use Rattle.link_pieces.proofs.IndexLemmas.{starts_inside, noted_at, put_at}
use Rattle.link_pieces.proofs.piece_rows.PieceRows.note.Goals as goal

pub returns-clause-noted : goal.returns-clause-noted
returns-clause-noted c = λ m s.
    let starts : List ℕ = c.self.inside.starts.items in
    let before : List (Option ℕ) = c.self.inside.pieces.items in
    let p = c.args.position in
    let n = c.args.number in
    let rows = subst AreRows (sym c.self.view_is) c.requires.rows in
    let here = subst (λ (v : RowsView). row_start v p + n < row_start v (p + 1)) (sym c.self.view_is) c.requires.place in
    let inside = starts_inside starts (p + 1) (get_or starts p 0 + n) here in
    let start : c.index.result.now ≡ get_or starts p 0 = c.index.ensures ∙ get_or_default starts p c.index.result.now 0 (omega (arith, inside)) in
    let put = c.put_first.ensures ∙ ap (λ (a : ℕ). set before (a + n) (option_or (get_or before (a + n) None) (Some c.args.index))) start in
    let room = rows.within (p + 1) in
    noted_at starts before c.put_first.new.pieces.items p n c.args.index m s rows.ascend here (λ k. ap (λ (row : List (Option ℕ)). get_or row k None) put ∙ put_at before (get_or starts p 0 + n) c.args.index k (omega (arith, here, room)))
    ∙ ap (λ (v : RowsView). option_or (indexed v m s) (cond (eqb p m && eqb n s) (Some c.args.index) None)) c.self.view_is
