-- What takes part in a link with its options.
use Rattle.std.specs.Prelude.{ℕ, List, ◌++◌}
use Rattle.std.specs.List.{cons_option}
use Rattle.module_view.specs.Module.{ModuleView}
use Rattle.symbol_names.specs.Exports.{internal_names}
use Rattle.symbol_names.specs.LinkView.{LinkView}
use Rattle.link_words.specs.Outcome.{LinkOptions}

-- the names that the command line asks for besides the entry: those that it includes, and those that stand behind its exports
-- (MSVC linker reference, "/INCLUDE" and "/EXPORT")
abbrev pub asked_names : LinkOptions → List (List ℕ)
asked_names options = options.includes ++ internal_names options.exports

-- with the entry before them, where there is one (MSVC linker reference, "/ENTRY")
abbrev pub asked_words : LinkOptions → List (List ℕ)
asked_words options = cons_option options.entry_name (asked_names options)

-- with the modules in the order of joining
abbrev pub link_of : LinkOptions → List ModuleView → LinkView
link_of options modules = record { words = asked_words options; alternates = options.alternates; modules = modules }
