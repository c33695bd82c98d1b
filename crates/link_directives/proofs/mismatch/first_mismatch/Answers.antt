use Rattle.std.proofs.Common.{[], take, drop, ◌++◌, ◌+◌, ap, ◌∙◌, arith}
use Rattle.std.specs.Map.{lookup}
use Rattle.std.proofs.lemmas.List.{take_all}
use Rattle.indexmap.specs.IndexMap.{get}
use Rattle.link_base.specs.NameText.{same_name}
use Rattle.link_directives.specs.LinkDirectives.{key_said, all_keys, mismatch_in, mismatch_of}
use Rattle.link_directives.proofs.FirstLemmas.{keeps_none, keeps_told, keeps_same}
use Rattle.link_directives.proofs.PassLemmas.{picked_of_more, picked_of_split}
use Rattle.link_directives.proofs.mismatch.first_mismatch.Goals as goal

pub loop-module-init : goal.loop-module-init
loop-module-init c =
    keeps_none (get same_name c.new-values.result) (λ key. ap (λ entries. lookup (same_name key) entries) c.new-values.ensures.empty)

pub returns-in-Some : goal.returns-in-Some
unfolding mismatch_of
returns-in-Some c =
    let modules = c.args.modules.now in
    let i = c.loop-module.module-index in
    let directives = c.directives.result.now in
    let more = all_keys (drop (i + 1) modules) in
    (keeps_told _ more (all_keys modules) _ c.in_ok-mismatch.field-0 c.in-Some.mismatch
    (ap (λ keys. keys ++ more) (picked_of_more key_said [] modules i c.module-item.result directives (omega arith) c.module-item.is c.directives.ensures.directives)
    ∙ picked_of_split key_said modules (i + 1))
    c.in-Some.is (c.in_ok-mismatch.ensures (all_keys (take i modules)) c.loop-module.invariant)).told_is

pub loop-module-preserved : goal.loop-module-preserved
loop-module-preserved c =
    keeps_same _ _ _ c.in_ok-mismatch.field-0
    (picked_of_more key_said [] c.args.modules.now c.loop-module.module-index c.module-item.result c.directives.result.now (omega arith) c.module-item.is c.directives.ensures.directives)
    c.in_default.is (c.in_ok-mismatch.ensures _ c.loop-module.invariant)

pub returns : goal.returns
unfolding mismatch_of
returns c =
    let modules = c.args.modules.now in
    c.loop-module.invariant.told_is
    ∙ ap (λ some. mismatch_in (all_keys some)) (take_all c.loop-module.module-index modules (omega arith))
