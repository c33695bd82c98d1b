use Rattle.std.proofs.Common.{List, [], ◌++◌, map, subst, sym, ◌∙◌}
use Rattle.std.specs.Prelude.{filter_map}
use Rattle.std.specs.List.{All, AllZip}
use Rattle.directives.specs.Said.{Said}
use Rattle.module_view.specs.SymbolLists.{references_of}
use Rattle.module_view.specs.declared.reference.Reference.{Reference}
use Rattle.symbol_names.specs.References.{asked_by_name, asked_by_symbol, name_said}
use Rattle.symbol_names.specs.Interning.{IsNamedSo, NotesAsked}
use Rattle.symbol_names.proofs.NumberLemmas.{records_kept}
use Rattle.symbol_names.proofs.RecordLemmas.{references_named}
use Rattle.symbol_names.proofs.references.note_asked.Goals as goal

pub returns-clause-noted : goal.returns-clause-noted
returns-clause-noted c =
    let bytes = c.args.«module».now.bytes in
    let first = c.note_references.new.names.keys in
    let last = c.note_names.new.names.keys in
    let by_symbols =
    subst (λ (rs : List Reference). AllZip (NotesAsked first) (map asked_by_symbol rs) c.note_references.new.noted.items) c.references-references.ensures.references
    (c.in_ok-note_references.ensures.noted [] (subst (AllZip (NotesAsked c.args.names.now.keys) []) (sym (c.reserve.ensures.items ∙ c.clear.ensures.items)) tt)) in
    subst (λ (says : List Said). AllZip (NotesAsked last) (map asked_by_symbol (references_of bytes) ++ map asked_by_name (filter_map name_said says)) c.note_names.new.noted.items) c.directives.ensures.directives
    (c.in_ok-note_names.ensures.noted (map asked_by_symbol (references_of bytes)) by_symbols)

pub returns-clause-records : goal.returns-clause-records
returns-clause-records c = λ are.
    let bytes = c.args.«module».now.bytes in
    records_kept c.note_references.new.names.keys c.note_names.new.names.keys c.note_names.ensures.kept bytes c.note_references.new.records.items
    (c.in_ok-note_references.ensures.records bytes
    (subst (λ (rs : List Reference). All (λ r. IsNamedSo bytes r.symbol r.name) rs) (sym c.references-references.ensures.references) (references_named bytes)) are)
