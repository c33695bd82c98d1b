use Rattle.std.proofs.Common.{◌<◌, ℕ, List, length, map, sym, ap, ◌∙◌, subst}
use Rattle.std.proofs.lemmas.List.Sorted.{All-permutation}
use Rattle.section_group.specs.Uniqueness.{rows_of as section_rows}
use Rattle.sorted_lists.specs.Order.{in_order}
use Rattle.debug_rows.specs.declared.piece_rows.PieceKey.{PieceKey}
use Rattle.debug_rows.specs.MapPieces.{piece_keys, AreWithin, key_cmp, row_of}
use Rattle.debug_rows.proofs.KeyLemmas.{keys_in_order}
use Rattle.debug_rows.proofs.piece_rows.map_pieces.Goals as goal

pub rows_of-requires : goal.rows_of-requires
rows_of-requires c =
    let pieces = c.args.pieces.now in
    subst (AreWithin pieces) (sym c.deref-2.ensures.value) (All-permutation (λ (key : PieceKey). key.index < length pieces) c.in_ok-keys.keys.items c.sort.new.keys.items c.sort.ensures.permutation c.in_ok-keys.ensures.within)

pub returns : goal.returns
returns c =
    let pieces = c.args.pieces.now in
    let sorted = keys_in_order c.in_ok-keys.keys.items c.sort.new.keys.items c.sort.ensures.permutation c.sort.ensures.sorted in
    let keys = c.in_ok-keys.ensures.keys ∙ ap (λ (rvas : List ℕ). piece_keys pieces rvas (section_rows c.args.sections.now)) c.deref.ensures.value in
    c.in_ok-rows.ensures
    ∙ ap (λ (keys : List PieceKey). map (row_of pieces) keys) (c.deref-2.ensures.value ∙ sorted)
    ∙ ap (λ (keys : List PieceKey). map (row_of pieces) (in_order key_cmp keys)) keys
