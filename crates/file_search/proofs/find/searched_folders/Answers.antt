use Rattle.std.proofs.Common.{sym, ◌∙◌}
use Rattle.link_words.specs.SettingsView.{texts_of}
use Rattle.file_search.proofs.FindLemmas.{tried_as_given, tried_in_folders}
use Rattle.file_search.proofs.find.searched_folders.Goals as goal

pub returns-then-has_slash : goal.returns-then-has_slash
returns-then-has_slash c =
    tried_as_given (texts_of c.args.folders.now) c.args.name.now (sym c.has_slash.ensures ∙ c.if-has_slash.true)

pub returns-else-has_slash : goal.returns-else-has_slash
returns-else-has_slash c =
    tried_in_folders (texts_of c.args.folders.now) c.args.name.now (sym c.has_slash.ensures ∙ c.if-has_slash.false)
