use Rattle.std.proofs.Common.{map, sym, ◌∙◌}
use Rattle.res_merge.specs.Entries.{entry_of}
use Rattle.file_search.specs.Reading.{file_found}
use Rattle.lib_search.proofs.InputLemmas.{library_adds, library_merges}
use Rattle.lib_search.proofs.open.open_one.Goals as goal

pub returns-then-begins_library-clause-resources : goal.returns-then-begins_library-clause-resources
returns-then-begins_library-clause-resources c =
    library_adds (file_found c.args.file.now) (map entry_of c.args.opened.now.resource_files.resources.items) (sym c.begins_library.ensures ∙ c.if-begins_library.true)

pub returns-then-begins_library-clause-merges : goal.returns-then-begins_library-clause-merges
returns-then-begins_library-clause-merges c =
    library_merges (file_found c.args.file.now) c.args.opened.now.resource_files.opened (sym c.begins_library.ensures ∙ c.if-begins_library.true)
