use Rattle.std.proofs.Common.{◌≡◌, ◌++◌, ◌∷◌, [], List, Option, None, ℕ, sym, ap, ◌∙◌, arith}
use Rattle.export_tables.specs.declared.names.NameEntry.{NameEntry}
use Rattle.export_tables.specs.ExportTable.{places_in}
use Rattle.export_tables.proofs.PlaceLemmas.{none_placed}
use Rattle.export_tables.proofs.names.no_places.Goals as goal

pub loop-init : goal.loop-init
unfolding places_in
loop-init c = c.in_ok-places.ensures.items

pub loop-preserved : goal.loop-preserved
loop-preserved c =
    c.in_ok-push.ensures.items
    ∙ ap (λ (ps : List (Option NameEntry)). ps ++ None ∷ []) c.loop.invariant
    ∙ sym (none_placed c.args.rows.now c.args.ordinals.now c.loop.counter)

pub returns : goal.returns
returns c =
    let all : c.loop.counter ≡ c.args.count = omega (arith, c.loop-test.false, c.loop.auto.counter-end) in
    c.loop.invariant ∙ ap (λ (n : ℕ). places_in c.args.rows.now c.args.ordinals.now n []) all
