use Rattle.std.proofs.Common.{List, ℕ, subst, ◌∙◌, IfOk}
use Rattle.std.specs.List.{AllZip}
use Rattle.directives.specs.Said.{said}
use Rattle.symbol_names.specs.Alternates.{alternate_said}
use Rattle.symbol_names.specs.Interning.{NotesAlternate}
use Rattle.symbol_names.proofs.NotedLemmas.{filter_map_mapped}
use Rattle.symbol_names.proofs.alternates.note_directives.Goals as goal

pub returns-clause-noted : goal.returns-clause-noted
returns-clause-noted c =
    subst (λ (pairs : List (List ℕ × List ℕ)). IfOk c.note_alternates.result (λ noted. AllZip (NotesAlternate c.note_alternates.new.names.keys) pairs noted.items))
    (c.deref.ensures.value ∙ c.in_ok-pairs.ensures ∙ filter_map_mapped alternate_said said c.args.directives.now)
    c.note_alternates.ensures.noted
