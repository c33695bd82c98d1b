use Rattle.std.proofs.Common.{◌≡◌, ◌<◌, length, ap, ◌∙◌, arith}
use Rattle.std.proofs.lemmas.List.{get_or_default}
use Rattle.link_base.proofs.RangeLemmas.{joined_grows}
use Rattle.module_view.specs.Module.{no_module, module_at}
use Rattle.debug_rows.specs.Publics.{module_publics}
use Rattle.debug_rows.proofs.link_publics.public_places.Goals as goal

pub loop-position-preserved : goal.loop-position-preserved
loop-position-preserved c =
    let link = c.args.names.now in
    let modules = c.args.modules.now in
    let k = c.loop-position.position in
    let view = c.index-modules-position.result in
    let lt : k < length modules = omega arith in
    let read : view ≡ module_at modules k = c.index-modules-position.is ∙ get_or_default modules k view no_module lt in
    joined_grows (λ n. module_publics link n (module_at modules n)) 0 k k c.loop-position.publics.items c.push_module.new.publics.items (module_publics link k view) (omega arith) c.loop-position.invariant c.in_ok-push_module.ensures (ap (module_publics link k) read)
