use Rattle.std.proofs.Common.{ap, sym, ◌∙◌}
use Rattle.std.specs.Prelude.{is_none}
use Rattle.lib_reader.proofs.EndLemmas.{no_magic}
use Rattle.lib_reader.proofs.library.Library.open.Goals as goal

pub returns-then-not-begins_library-clause-refused : goal.returns-then-not-begins_library-clause-refused
returns-then-not-begins_library-clause-refused c =
    no_magic c.args.bytes.now (sym c.begins_library.ensures ∙ c.if-not-begins_library.true)

pub returns-then-not-begins_library-clause-opens : goal.returns-then-not-begins_library-clause-opens
returns-then-not-begins_library-clause-opens c =
    sym (ap is_none (no_magic c.args.bytes.now (sym c.begins_library.ensures ∙ c.if-not-begins_library.true)))
