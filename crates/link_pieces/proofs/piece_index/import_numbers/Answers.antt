use Rattle.std.proofs.Common.{◌+◌, cond, is_some, Some, None, ap, ◌∙◌, arith}
use Rattle.std.proofs.lemmas.List.{get_or_default}
use Rattle.module_view.specs.Module.{ModuleView, no_module}
use Rattle.link_pieces.proofs.IndexLemmas.{no_numbers, numbers_more, all_numbers}
use Rattle.link_pieces.proofs.piece_index.import_numbers.Goals as goal

pub loop-position-init : goal.loop-position-init
loop-position-init c = no_numbers c.args.modules.now c.args.pieces c.in_ok-numbers.numbers.items c.in_ok-numbers.ensures.items

pub loop-position-preserved : goal.loop-position-preserved
loop-position-preserved c =
    let k = c.loop-position.position in
    numbers_more c.args.modules.now c.args.pieces k c.loop-position.numbers.items c.push.new.self.items c.import_number.result (omega arith) c.in_ok-push.ensures.items
    (c.import_number.ensures
    ∙ ap (λ (view : ModuleView). cond (is_some view.imported) (Some (c.args.pieces + k)) None) (c.index-modules-position.is ∙ get_or_default c.args.modules.now k c.index-modules-position.result no_module (omega arith)))
    c.loop-position.invariant

pub returns : goal.returns
returns c = λ position.
    all_numbers c.args.modules.now c.args.pieces c.loop-position.position c.loop-position.numbers.items position (omega arith) c.loop-position.invariant
