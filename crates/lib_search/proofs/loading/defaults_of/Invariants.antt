use Rattle.std.proofs.Common.{◌≡◌, take}
use Rattle.link_words.specs.Outcome.{options_said}
use Rattle.file_search.specs.DefaultLibraries.{default_names}
use Rattle.file_search.specs.DefaultSteps.{KeepsDefaults}
use Rattle.lib_search.proofs.loading.defaults_of.Given as goal

abbrev pub invariant-loop-module : goal.invariant-loop-module
invariant-loop-module l = record {
  named : KeepsDefaults (options_said l.options) (default_names (options_said l.options) (take l.module-index l.modules)) l.defaults;
  total_kept : l.inputs ≡ l.initial.inputs;
}
