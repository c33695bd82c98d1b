-- The outputs of a link, and the line that says that they are written.
use Rattle.std.specs.Prelude.{ℕ, List, [], ◌∷◌, ◌++◌, length, option_map}
use Rattle.link_files.specs.Outputs.{NamedBytes}
use Rattle.linker_program.specs.declared.linked.Linked.{Linked}
use Rattle.link_words.specs.Outcome.{LinkOptions}
use Rattle.linker_program.specs.LinkRun.{asked_output, pdb_name}
use Rattle.linker_program.specs.RunLines.{summary_line}

abbrev pub linked_outputs : LinkOptions → Linked → List NamedBytes
linked_outputs options linked =
    asked_output (pdb_name options) (option_map (λ pdb. pdb.items) linked.pdb)
    ++ (asked_output options.map_file (option_map (λ map. map.items) linked.map)
    ++ (asked_output options.implib (option_map (λ library. library.items) linked.library)
    ++ record { name = options.out; bytes = linked.image.items } ∷ []))

abbrev pub linked_summary : List ℕ → Linked → List ℕ
linked_summary out linked = summary_line out linked.modules linked.sections (length linked.image.items)
