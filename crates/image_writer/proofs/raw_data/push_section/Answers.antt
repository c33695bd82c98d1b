use Rattle.std.proofs.Common.{◌+◌, ◌<◌, ◌++◌, ℕ, List, length, get_or, drop, map, replicate, sym, ap, ◌∙◌, subst, arith}
use Rattle.std.proofs.lemmas.List.{drop_all}
use Rattle.image_writer.specs.ExpectedImage.{PlacedBytes}
use Rattle.section_group.specs.PieceContents.{piece_contents}
use Rattle.image_writer.specs.RawData.{section_bytes}
use Rattle.image_writer.specs.RawData.{gap, laid, Ascend}
use Rattle.image_writer.proofs.RawLemmas.{ascend_end}
use Rattle.image_writer.proofs.StepLemmas.{kept, piece_step}
use Rattle.image_writer.proofs.raw_data.push_section.Goals as goal

pub push_piece-requires-clause-ascending : goal.push_piece-requires-clause-ascending
unfolding Ascend
push_piece-requires-clause-ascending c =
    let items = c.args.section.now.pieces.items in
    let j = c.loop-index.index-index in
    let k = get_or c.deref-index-items.result.now j 0 in
    let end = c.args.placed.now.rva + c.args.placed.now.raw in
    let same = c.deref-index-items.ensures.value in
    let lt : j < length items = subst (λ (xs : List ℕ). j < length xs) same c.loop-index-test.true in
    let at = ap (λ (xs : List ℕ). get_or xs j 0) same in
    let less : k < length c.args.pieces.now = subst (λ (n : ℕ). n < length c.args.pieces.now) (sym at) (c.requires.within j 0 lt) in
    let step = piece_step c.args.rvas.now c.args.pieces.now items j k c.index-pieces-index.result c.contents.result.now lt at less c.index-pieces-index.is c.contents.ensures in
    (subst (λ (ps : List PlacedBytes). Ascend ps end c.loop-index.place) step c.loop-index.invariant.1).0

pub loop-index-preserved : goal.loop-index-preserved
unfolding laid Ascend
loop-index-preserved c =
    let rvas = c.args.rvas.now in
    let contents = map piece_contents c.args.pieces.now in
    let items = c.args.section.now.pieces.items in
    let j = c.loop-index.index-index in
    let k = get_or c.deref-index-items.result.now j 0 in
    let rva = get_or rvas k 0 in
    let bytes = c.contents.result.now in
    let end = c.args.placed.now.rva + c.args.placed.now.raw in
    let same = c.deref-index-items.ensures.value in
    let lt : j < length items = subst (λ (xs : List ℕ). j < length xs) same c.loop-index-test.true in
    let at = ap (λ (xs : List ℕ). get_or xs j 0) same in
    let less : k < length c.args.pieces.now = subst (λ (n : ℕ). n < length c.args.pieces.now) (sym at) (c.requires.within j 0 lt) in
    let step = piece_step rvas c.args.pieces.now items j k c.index-pieces-index.result bytes lt at less c.index-pieces-index.is c.contents.ensures in
    let behind = section_bytes rvas contents (drop (j + 1) items) in
    let zeros : List ℕ = replicate (gap bytes rva c.loop-index.place) 0 in
    let next = sym c.in_ok-place.ensures.next in (
      kept c.push_piece.new.out.items c.loop-index.out.items (zeros ++ bytes) (laid behind end c.in_ok-place.place) (laid (section_bytes rvas contents (drop j items)) end c.loop-index.place) _
          c.in_ok-place.ensures.written
          c.loop-index.invariant.0
          (ap (λ (ps : List PlacedBytes). laid ps end c.loop-index.place) step ∙ ap (λ (place : ℕ). (zeros ++ bytes) ++ laid behind end place) next),
      subst (Ascend behind end) next (subst (λ (ps : List PlacedBytes). Ascend ps end c.loop-index.place) step c.loop-index.invariant.1).1,
    )

pub overflow_sub-end : goal.overflow_sub-end
overflow_sub-end c = ascend_end _ _ _ c.loop-index.invariant.1

pub returns : goal.returns
unfolding laid
returns c =
    let rvas = c.args.rvas.now in
    let contents = map piece_contents c.args.pieces.now in
    let items = c.args.section.now.pieces.items in
    let end = c.args.placed.now.rva + c.args.placed.now.raw in
    let none = drop_all c.loop-index.index-index items (omega (arith, ap length c.deref-index-items.ensures.value, c.loop-index-test.false)) in
    c.in_ok-push_zeros.ensures
    ∙ ap (λ (ks : List ℕ). c.loop-index.out.items ++ laid (section_bytes rvas contents ks) end c.loop-index.place) (sym none)
    ∙ c.loop-index.invariant.0
