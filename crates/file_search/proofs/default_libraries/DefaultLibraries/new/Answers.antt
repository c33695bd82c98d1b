use Rattle.std.proofs.Common.{◌<◌, List, ℕ, length, sym, ◌∙◌, subst, arith}
use Rattle.link_words.specs.Outcome.{options_said}
use Rattle.link_words.specs.SettingsView.{text_of}
use Rattle.file_search.specs.FileNames.{completed}
use Rattle.file_search.specs.DefaultSteps.{KeepsDefaults}
use Rattle.file_search.proofs.NotedLemmas.{names_more}
use Rattle.file_search.proofs.default_libraries.DefaultLibraries.new.Goals as goal

pub loop-name-preserved : goal.loop-name-preserved
loop-name-preserved c =
    let options = options_said c.args.options.now in
    let items = c.deref-name-items.result.now in
    let lt : c.loop-name.name-index < length items = omega arith in
    record {
      named =
          subst (λ (names : List (List ℕ)). KeepsDefaults options names c.add.new.self) (sym (names_more completed text_of items c.loop-name.name-index _ lt))
          (c.in_ok-add.ensures.named options _ c.loop-name.invariant.named);
      total_kept = c.in_ok-add.ensures.total_kept ∙ c.loop-name.invariant.total_kept;
    }
