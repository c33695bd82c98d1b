use Rattle.std.proofs.Common.{ap}
use Rattle.symbol_names.specs.Interning.{AreRecords}
use Rattle.symbol_names.proofs.RecordLemmas.{none_noted, plain_definitions}
use Rattle.std.proofs.Common.{ℕ, subst, sym, Vec, Global, ◌∙◌}
use Rattle.symbol_names.proofs.lists.note_provided.Goals as goal
use Rattle.symbol_names.proofs.lists.note_provided.Goals.{then-is_some, else-is_some}

pub returns-clause-records : goal.returns-clause-records
returns-clause-records c are =
    let names = c.note_definitions.new.names.keys in
    let bytes = c.args.«module».now.bytes in
    elim c.if-is_some.branch [
      | then-is_some w ↦ none_noted names bytes c.if-is_some.records.items (ap (λ (v : Vec ℕ Global). v.items) w.records-is ∙ w.clear.ensures.items)
      | else-is_some w ↦ subst (λ (v : Vec ℕ Global). AreRecords names bytes v.items) (sym w.records-is)
          (c.in_ok-definitions.ensures.records bytes (plain_definitions bytes c.definitions.result.now c.import.result c.args.«module».now.imported w.if-is_some.ensures c.import.ensures c.definitions.ensures.definitions) are)
    ]
