use Rattle.std.proofs.Common.{List, ◌++◌, ◌∷◌, [], take, sym, ap, subst, ◌∙◌, arith}
use Rattle.std.proofs.lemmas.List.{take_more}
use Rattle.link_words.specs.Outcome.{options_said}
use Rattle.module_view.specs.Module.{ModuleView}
use Rattle.file_search.specs.DefaultLibraries.{default_names}
use Rattle.file_search.specs.DefaultSteps.{KeepsDefaults}
use Rattle.lib_search.proofs.loading.defaults_of.Goals as goal

pub loop-module-preserved : goal.loop-module-preserved
loop-module-preserved c =
    let options = options_said c.args.options.now in
    let modules = c.args.modules.now in
    let k = c.loop-module.module-index in
    let more =
    take_more modules k c.module-item.result (omega (arith, c.loop-module-test.true))
    ∙ ap (λ (m : ModuleView). take k modules ++ m ∷ []) (sym c.module-item.is) in
    record {
      named =
          subst (λ (ms : List ModuleView). KeepsDefaults options (default_names options ms) c.add_module.new.self) (sym more)
          (c.in_ok-add_module.ensures.named options (take k modules) c.loop-module.invariant.named);
      total_kept = c.in_ok-add_module.ensures.total_kept ∙ c.loop-module.invariant.total_kept;
    }
