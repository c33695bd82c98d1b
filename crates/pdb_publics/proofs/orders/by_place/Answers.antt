use Rattle.std.proofs.Common.{◌∙◌, ◌≡◌, ap, map, List}
use Rattle.std.proofs.lemmas.Result.{IfOk-weaker}
use Rattle.pdb_publics.specs.declared.fronts.Fronted.{Fronted}
use Rattle.pdb_publics.specs.declared.keys.PlaceKey.{PlaceKey}
use Rattle.pdb_publics.specs.PublicOrder.{by_place}
use Rattle.pdb_publics.proofs.FrontLemmas.{place_keys_sorted}
use Rattle.pdb_publics.proofs.orders.by_place.Goals as goal

pub returns : goal.returns
returns c =
    IfOk-weaker c.place_keys_behind.result (λ keys. keys.items ≡ map (λ key. key.item.now) c.deref-2.result.now) (λ keys. keys.items ≡ by_place c.args.rows.now)
    (λ taken is. place_keys_sorted c.args.rows.now c.deref.result.now taken.items c.in_ok-fronted.fronted.items c.sort_fronted.new.keys.items
    (c.deref.ensures.value ∙ c.in_ok-keys.ensures) c.in_ok-fronted.ensures.keys c.in_ok-fronted.ensures.fronts
    c.sort_fronted.ensures.permutation c.sort_fronted.ensures.sorted
    (is ∙ ap (λ (keys : List (Fronted PlaceKey)). map (λ key. key.item.now) keys) c.deref-2.ensures.value))
    c.place_keys_behind.ensures
