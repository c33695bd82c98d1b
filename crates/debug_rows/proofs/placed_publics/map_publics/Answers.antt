use Rattle.std.proofs.Common.{List, map, ap, ◌∙◌}
use Rattle.sorted_lists.specs.Order.{in_order}
use Rattle.debug_rows.specs.declared.placed_publics.PublicKey.{PublicKey}
use Rattle.debug_rows.specs.PlacedPublics.{key_cmp, map_public}
use Rattle.debug_rows.proofs.KeyLemmas.{publics_in_order}
use Rattle.debug_rows.proofs.placed_publics.map_publics.Goals as goal

pub returns : goal.returns
returns c =
    let sorted = publics_in_order c.in_ok-keys.keys.items c.sort.new.keys.items c.sort.ensures.permutation c.sort.ensures.sorted in
    c.in_ok-rows.ensures
    ∙ ap (λ (keys : List PublicKey). map map_public keys) (c.deref.ensures.value ∙ sorted)
    ∙ ap (λ (keys : List PublicKey). map map_public (in_order key_cmp keys)) c.in_ok-keys.ensures
