use Rattle.std.proofs.Common.{◌∙◌, ◌≡◌, ap, map, List}
use Rattle.std.proofs.lemmas.Result.{IfOk-weaker}
use Rattle.pdb_publics.specs.declared.fronts.Fronted.{Fronted}
use Rattle.pdb_publics.specs.declared.keys.HashKey.{HashKey}
use Rattle.pdb_publics.specs.PublicOrder.{by_hash}
use Rattle.pdb_publics.proofs.FrontLemmas.{hash_keys_sorted}
use Rattle.pdb_publics.proofs.orders.by_hash.Goals as goal

pub returns : goal.returns
returns c =
    IfOk-weaker c.hash_keys_behind.result (λ keys. keys.items ≡ map (λ key. key.item.now) c.deref-2.result.now) (λ keys. keys.items ≡ by_hash c.args.rows.now)
    (λ taken is. hash_keys_sorted c.args.rows.now c.deref.result.now taken.items c.in_ok-fronted.fronted.items c.sort_fronted.new.keys.items
    (c.deref.ensures.value ∙ c.in_ok-keys.ensures) c.in_ok-fronted.ensures.keys c.in_ok-fronted.ensures.fronts
    c.sort_fronted.ensures.permutation c.sort_fronted.ensures.sorted
    (is ∙ ap (λ (keys : List (Fronted HashKey)). map (λ key. key.item.now) keys) c.deref-2.ensures.value))
    c.hash_keys_behind.ensures
