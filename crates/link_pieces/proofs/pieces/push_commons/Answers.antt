use Rattle.std.proofs.Common.{List, length, get_or, ap, ◌∙◌, arith}
use Rattle.module_view.specs.declared.definition.Common.{Common}
use Rattle.link_pieces.proofs.CommonLemmas.{commons_recorded}
use Rattle.link_pieces.proofs.pieces.push_commons.Goals as goal

pub push_common-requires-clause-few : goal.push_common-requires-clause-few
push_common-requires-clause-few c =
    let index = c.loop-common.common-index in
    let common = c.common-item.result in
    let commons = c.commons-common-items.ensures.commons in
    let below = commons_recorded c.args.module.now.bytes index common (omega (arith, ap (λ (xs : List Common). length xs) commons)) in
    let symbol = ap (λ (x : Common). x.symbol) (c.common-item.is ∙ ap (λ (xs : List Common). get_or xs index common) commons) in
    omega (arith, below, symbol, c.requires.few)
