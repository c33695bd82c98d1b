use Rattle.std.proofs.Common.{◌≡◌, ◌<◌, ◌∷◌, [], ℕ, Bool, true, false, List, Some, length, refl, sym, ap, subst, ◌∙◌, length-append, arith}
use Rattle.std.proofs.lemmas.List.{nil_from_length}
use Rattle.std.specs.List.{Contains}
use Rattle.std.proofs.lemmas.List.Elements.{Contains-append_right}
use Rattle.std.proofs.lemmas.Option.{get_or_from_slice_get, slice_get-get_or}
use Rattle.reach.specs.Paths.{LeadsTo}
use Rattle.reach.specs.Marking.{IsMarked, Marks}
use Rattle.reach.specs.declared.marking.Marking.{Marking}
use Rattle.reach.proofs.MarkingLemmas.{marked_within, Marks-none, Marks-then}
use Rattle.reach.proofs.LiveLemmas.{underway_first, underway_more, all_marked}
use Rattle.reach.proofs.live.kept.Goals as goal

pub loop-piece-init : goal.loop-piece-init
loop-piece-init c =
    let new = c.in_ok-marking.ensures in
    let marks = c.in_ok-mark_all.ensures in
    underway_first c.args.graph.now.pieces c.args.graph.now.edges.items c.args.roots.now c.in_ok-marking.marking c.mark_all.new.self new.length new.none new.none_pending marks.marks (λ piece h lt. marks.marked piece h (omega (arith, new.length, lt)))

pub row-requires : goal.row-requires
row-requires c =
    let is = c.loop-piece.invariant in
    let piece = c.in-Some.piece in
    let listed : Contains c.loop-piece.marking.pending.items piece =
    subst (λ (list : List ℕ). Contains list piece) (sym c.in-Some.ensures.items) (Contains-append_right c.pop.new.self.items (piece ∷ []) piece (0, omega arith, refl)) in
    c.in_ok-rows.ensures.has piece (omega (arith, marked_within c.loop-piece.marking.kept.items piece (is.pending piece listed), is.each_piece))

pub loop-piece-preserved : goal.loop-piece-preserved
loop-piece-preserved c =
    let edges = c.args.graph.now.edges.items in
    let old = c.loop-piece.marking in
    let new = c.mark_all-in-Some.new.self in
    let piece = c.in-Some.piece in
    let is = c.loop-piece.invariant in
    let rows = c.in_ok-rows.ensures in
    let done = c.in_ok-mark_all-2.ensures in
    let popped : Marking = record { kept = old.kept; pending = c.pop.new.self } in
    let listed : Contains old.pending.items piece =
    subst (λ (list : List ℕ). Contains list piece) (sym c.in-Some.ensures.items) (Contains-append_right c.pop.new.self.items (piece ∷ []) piece (0, omega arith, refl)) in
    let within : piece < c.args.graph.now.pieces = omega (arith, marked_within old.kept.items piece (is.pending piece listed), is.each_piece) in
    let row = c.row.result.now in
    let marks : Marks (LeadsTo edges piece) popped new =
    Marks-then (LeadsTo edges piece) (Contains row) popped popped new (λ next h. rows.only piece next within (subst (λ (list : List ℕ). Contains list next) c.row.ensures h)) (Marks-none (LeadsTo edges piece) popped) done.marks in
    underway_more c.args.graph.now.pieces edges c.args.roots.now old popped new piece is refl c.in-Some.ensures.items marks
    (λ next lt leads. done.marked next (subst (λ (list : List ℕ). Contains list next) (sym c.row.ensures) (rows.all piece next within leads)) (omega (arith, lt, is.each_piece)))

pub loop-piece-smaller : goal.loop-piece-smaller
loop-piece-smaller c = omega (arith, c.in_ok-mark_all-2.ensures.marks.work, ap length c.in-Some.ensures.items, length-append c.pop.new.self.items (c.in-Some.piece ∷ []))

pub returns-clause-kept : goal.returns-clause-kept
returns-clause-kept c piece kept =
    let flags = c.loop-piece.marking.kept.items in
    let none : c.loop-piece.marking.pending.items ≡ [] =
    nil_from_length c.loop-piece.marking.pending.items (sym c.loop-piece.marking.pending.ok.0 ∙ c.in_default.ensures.cases.0) in
    let marked : IsMarked flags piece = all_marked c.args.graph.now.pieces c.args.graph.now.edges.items c.args.roots.now c.loop-piece.marking c.loop-piece.invariant none piece kept in
    slice_get-get_or flags piece false (marked_within flags piece marked) ∙ ap (λ (b : Bool). Some b) marked

pub returns-clause-only : goal.returns-clause-only
returns-clause-only c piece is =
    c.loop-piece.invariant.only piece (get_or_from_slice_get c.loop-piece.marking.kept.items piece true false is)
