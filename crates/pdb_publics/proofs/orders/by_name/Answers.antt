use Rattle.std.proofs.Common.{◌≡◌, ◌∙◌, ap, map, List}
use Rattle.std.proofs.lemmas.Result.{IfOk-weaker}
use Rattle.pdb_publics.specs.declared.fronts.Fronted.{Fronted}
use Rattle.pdb_publics.specs.declared.rows.PublicRow.{PublicRow}
use Rattle.pdb_publics.specs.PublicOrder.{by_name}
use Rattle.pdb_publics.proofs.FrontLemmas.{rows_sorted}
use Rattle.pdb_publics.proofs.orders.by_name.Goals as goal

pub returns : goal.returns
returns c =
    IfOk-weaker c.rows_behind.result (λ rows. rows.items ≡ map (λ key. key.item.now) c.deref.result.now) (λ rows. rows.items ≡ by_name c.args.rows.now)
    (λ taken is. rows_sorted c.args.rows.now taken.items c.in_ok-fronted.fronted.items c.sort_fronted.new.keys.items
    c.in_ok-fronted.ensures.rows c.in_ok-fronted.ensures.fronts c.sort_fronted.ensures.permutation c.sort_fronted.ensures.sorted
    (is ∙ ap (λ (keys : List (Fronted PublicRow)). map (λ key. key.item.now) keys) c.deref.ensures.value))
    c.rows_behind.ensures
