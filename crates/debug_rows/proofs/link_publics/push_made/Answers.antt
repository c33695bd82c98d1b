use Rattle.std.proofs.Common.{arith}
use Rattle.debug_rows.specs.Publics.{made_public}
use Rattle.debug_rows.proofs.ListLemmas.{kept_item_grows}
use Rattle.debug_rows.proofs.link_publics.push_made.Goals as goal

pub loop-definition-preserved : goal.loop-definition-preserved
loop-definition-preserved c =
    kept_item_grows (made_public c.args.names.now c.args.position) c.loop-definition.definition-index c.args.definitions.now c.definition-item.result c.args.publics.now.items c.loop-definition.publics.items c.push_definition.new.publics.items (omega arith) c.definition-item.is c.loop-definition.invariant c.in_ok-push_definition.ensures
