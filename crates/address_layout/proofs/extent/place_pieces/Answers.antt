use Rattle.std.proofs.Common.{◌≡◌, ◌<◌, ◌≤◌, ◌||◌, ℕ, ltb, List, length, get_or, cond, sym, ap, subst, arith, ◌+◌, ◌∙◌}
use Rattle.std.proofs.lemmas.List.Elements.{Contains-get_or}
use Rattle.std.specs.List.{Contains}
use Rattle.section_group.specs.declared.piece.Piece.{Piece}
use Rattle.address_layout.specs.Places.{section_row, piece_in, alignment_in}
use Rattle.address_layout.specs.Rounded.{rounded, end_after, raw_end_after, bytes_before}
use Rattle.address_layout.proofs.RoundLemmas.{rounded_bound}
use Rattle.address_layout.proofs.ExtentLemmas.{placed_begin, placed_more, piece_is, align_is, is_alignment, align_small}
use Rattle.address_layout.proofs.extent.place_pieces.Goals as goal

pub loop-index-init : goal.loop-index-init
loop-index-init c = placed_begin c.args.pieces.now (section_row c.args.section.now) c.args.start c.args.rvas.now

pub round_up-rva-requires-clause-some : goal.round_up-rva-requires-clause-some
round_up-rva-requires-clause-some c =
    let pieces = c.args.pieces.now in
    let row = section_row c.args.section.now in
    let j = c.loop-index.index-index in
    let items = c.deref-index-items.ensures.value in
    let lt : j < length row.1 = subst (λ (xs : List ℕ). j < length xs) items c.loop-index-test.true in
    let piece = piece_is pieces row c.deref-index-items.result.now j c.index-pieces-index.result items c.loop-index-test.true c.requires.within c.index-pieces-index.is in
    let alignment = align_is pieces row j c.index-pieces-index.result c.eq-is_pdata.result c.of.result c.alignment_of.result c.eq-is_pdata.ensures c.of.ensures piece c.alignment_of.ensures in
    let is = is_alignment pieces row j c.requires.aligned c.requires.within lt in
    subst (λ (n : ℕ). 0 < n) (sym alignment) is.positive

pub round_up-rva-requires-clause-fits : goal.round_up-rva-requires-clause-fits
round_up-rva-requires-clause-fits c =
    let pieces = c.args.pieces.now in
    let row = section_row c.args.section.now in
    let j = c.loop-index.index-index in
    let items = c.deref-index-items.ensures.value in
    let lt : j < length row.1 = subst (λ (xs : List ℕ). j < length xs) items c.loop-index-test.true in
    let piece = piece_is pieces row c.deref-index-items.result.now j c.index-pieces-index.result items c.loop-index-test.true c.requires.within c.index-pieces-index.is in
    let alignment = align_is pieces row j c.index-pieces-index.result c.eq-is_pdata.result c.of.result c.alignment_of.result c.eq-is_pdata.ensures c.of.ensures piece c.alignment_of.ensures in
    let is = is_alignment pieces row j c.requires.aligned c.requires.within lt in
    let small : c.alignment_of.result ≤ 8192 = subst (λ (n : ℕ). n ≤ 8192) (sym alignment) (align_small (alignment_in pieces row j) is) in
    let bound = c.loop-index.invariant.bound in
    let few = c.requires.few in
    omega (arith, small, bound, few, lt)

pub overflow_add-end : goal.overflow_add-end
overflow_add-end c =
    let pieces = c.args.pieces.now in
    let row = section_row c.args.section.now in
    let j = c.loop-index.index-index in
    let items = c.deref-index-items.ensures.value in
    let lt : j < length row.1 = subst (λ (xs : List ℕ). j < length xs) items c.loop-index-test.true in
    let piece = piece_is pieces row c.deref-index-items.result.now j c.index-pieces-index.result items c.loop-index-test.true c.requires.within c.index-pieces-index.is in
    let alignment = align_is pieces row j c.index-pieces-index.result c.eq-is_pdata.result c.of.result c.alignment_of.result c.eq-is_pdata.ensures c.of.ensures piece c.alignment_of.ensures in
    let is = is_alignment pieces row j c.requires.aligned c.requires.within lt in
    let rva = c.round_up-rva.ensures ∙ ap (λ (a : ℕ). rounded a c.loop-index.extent.end) alignment in
    let small = align_small (alignment_in pieces row j) is in
    let high = rounded_bound (alignment_in pieces row j) c.loop-index.extent.end is.positive in
    let bound = c.loop-index.invariant.bound in
    let few = c.requires.few in
    omega (arith, small, bound, few, lt, rva, high, c.size_of.ensures.small)

pub loop-index-preserved : goal.loop-index-preserved
loop-index-preserved c =
    let pieces = c.args.pieces.now in
    let row = section_row c.args.section.now in
    let j = c.loop-index.index-index in
    let items = c.deref-index-items.ensures.value in
    let lt : j < length row.1 = subst (λ (xs : List ℕ). j < length xs) items c.loop-index-test.true in
    let piece = piece_is pieces row c.deref-index-items.result.now j c.index-pieces-index.result items c.loop-index-test.true c.requires.within c.index-pieces-index.is in
    let alignment = align_is pieces row j c.index-pieces-index.result c.eq-is_pdata.result c.of.result c.alignment_of.result c.eq-is_pdata.ensures c.of.ensures piece c.alignment_of.ensures in
    let rva = c.round_up-rva.ensures ∙ ap (λ (a : ℕ). rounded a c.loop-index.extent.end) alignment in
    let size = c.size_of.ensures.value in
    let end = ap (λ (n : ℕ). c.round_up-rva.result + n) (size ∙ ap (λ (p : Piece). p.size) piece) in
    placed_more pieces row c.args.start j c.loop-index.extent c.extent_with-extent.result c.args.rvas.now c.loop-index.rvas c.round_up-rva.result (get_or c.deref-index-items.result.now j 0) c.saturating_u32.result
    c.requires.aligned c.requires.within c.requires.once c.requires.room lt c.loop-index.invariant rva (ap (λ (xs : List ℕ). get_or xs j 0) items) c.saturating_u32.ensures
    (c.extent_with-extent.ensures.end ∙ end)
    (c.extent_with-extent.ensures.initialised_end ∙ ap (λ (p : Piece). cond p.init (c.round_up-rva.result + c.size_of.result) c.loop-index.extent.initialised_end) piece ∙ ap (λ (n : ℕ). cond (piece_in pieces row j).init n c.loop-index.extent.initialised_end) end)
    (c.extent_with-extent.ensures.has_bytes ∙ ap (λ (p : Piece). c.loop-index.extent.has_bytes || ltb 0 p.size) piece)
    (subst (λ (n : ℕ). n < 4294967296) (size ∙ ap (λ (p : Piece). p.size) piece) c.size_of.ensures.small)

pub returns : goal.returns
returns c =
    let pieces = c.args.pieces.now in
    let row = section_row c.args.section.now in
    let members = c.args.section.now.pieces.items in
    let are = c.loop-index.invariant in
    let all : c.loop-index.index-index ≡ length members = omega (arith, ap length c.deref-index-items.ensures.value) in
    record {
      end = are.end ∙ ap (end_after pieces row c.args.start) all;
      initialised_end = are.initialised_end ∙ ap (raw_end_after pieces row c.args.start) all;
      has_bytes = are.has_bytes ∙ ap (bytes_before pieces row) all;
      bound = omega (arith, are.bound, all);
      low = are.low;
      high = are.high;
      room = are.room ∙ c.requires.room;
      written = λ j lt. are.written j (omega arith);
      others = λ k apart. are.others k (λ j lt e. apart (subst (Contains members) e (Contains-get_or members j 0 (omega arith))));
    }
