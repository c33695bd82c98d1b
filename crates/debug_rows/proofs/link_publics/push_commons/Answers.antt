use Rattle.std.proofs.Common.{ℕ, [], ◌++◌, Option, option_map, false, ap, ◌∙◌, arith}
use Rattle.std.specs.List.{cons_option}
use Rattle.debug_rows.specs.Publics.{public_at, common_public}
use Rattle.debug_rows.proofs.ListLemmas.{kept_item_grows}
use Rattle.debug_rows.proofs.link_publics.push_commons.Goals as goal

pub loop-common-preserved : goal.loop-common-preserved
loop-common-preserved c =
    let common = c.common-item.result in
    let now = c.loop-common.publics.items in
    let position = c.args.position in
    let pushed =
    c.in_ok-push_at.ensures
    ∙ ap (λ (piece : Option ℕ). now ++ cons_option (option_map (public_at common.name position false 0) piece) []) (c.of_common.ensures ∙ c.requires.indexed.commons position common.symbol) in
    kept_item_grows (common_public c.args.names.now position) c.loop-common.common-index c.args.commons.now common c.args.publics.now.items now c.push_at.new.publics.items (omega arith) c.common-item.is c.loop-common.invariant pushed
