use Rattle.std.proofs.Common.{List, sym, subst}
use Rattle.symbol_names.specs.declared.chosen.ChosenRow.{ChosenRow}
use Rattle.symbol_names.specs.declared.noted.ModuleNames.{ModuleNames}
use Rattle.std.specs.List.{All}
use Rattle.symbol_names.specs.References.{all_asked}
use Rattle.symbol_names.specs.Kept.{rows_of}
use Rattle.symbol_table.specs.TableParts.{link_view, IsNumbered, KeepsLink, KeepsMeanings}
use Rattle.symbol_table.proofs.TableLemmas.{keeps_grow, asked_numbered}
use Rattle.symbol_table.proofs.table.SymbolTable.resolved.Goals as goal

pub settled-requires-clause-kept : goal.settled-requires-clause-kept
settled-requires-clause-kept c =
    subst (KeepsLink c.note_rests.new.names.keys c.self.inside.given) (sym c.deref.ensures.value)
    (keeps_grow c.self.inside.names.keys c.note_rests.new.names.keys c.self.inside.given c.self.inside.modules.items c.note_rests.ensures.kept c.self.invariant.whole)

pub settled-requires-clause-asked : goal.settled-requires-clause-asked
settled-requires-clause-asked c =
    subst (λ (kept : List ModuleNames). All (IsNumbered c.note_rests.new.names.keys) (all_asked (link_view c.self.inside.given kept))) (sym c.deref.ensures.value)
    (asked_numbered c.self.inside.names.keys c.note_rests.new.names.keys c.self.inside.given c.self.inside.modules.items c.self.inside.asked c.note_rests.ensures.kept c.self.invariant)

pub invariant_of-result : goal.invariant_of-result
invariant_of-result c =
    let names = c.note_rests.new.names.keys in
    let links = c.in_ok-settled.settled.links.items in
    let clash = c.in_ok-settled.settled.clash in
    subst (λ (rows : List ChosenRow). KeepsMeanings names c.self.inside.given c.self.inside.modules.items (rows_of rows) links clash) c.deref-2.ensures.value
    (subst (λ (kept : List ModuleNames). KeepsMeanings names c.self.inside.given kept (rows_of c.deref-2.result.now) links clash) c.deref.ensures.value c.in_ok-settled.ensures)
