use Rattle.std.proofs.Common.{◌≡◌, map, take}
use Rattle.link_words.specs.Outcome.{options_said}
use Rattle.link_words.specs.SettingsView.{texts_of}
use Rattle.file_search.specs.FileNames.{completed}
use Rattle.file_search.specs.DefaultSteps.{KeepsDefaults}
use Rattle.file_search.proofs.default_libraries.DefaultLibraries.new.Given as goal

abbrev pub invariant-loop-name : goal.invariant-loop-name
invariant-loop-name l = record {
  named : KeepsDefaults (options_said l.options) (map completed (texts_of (take l.name-index l.name-items))) l.libraries;
  total_kept : l.inputs ≡ l.fn.inputs;
}
