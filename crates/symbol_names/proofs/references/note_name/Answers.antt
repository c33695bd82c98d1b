use Rattle.std.proofs.Common.{ℕ, ◌++◌, [], List, Option, map, sym, subst, ◌∙◌}
use Rattle.std.proofs.lemmas.Result.{on_ok_weaker}
use Rattle.std.specs.List.{AllZip, cons_option}
use Rattle.symbol_names.specs.Interning.{NotesAsked}
use Rattle.symbol_names.specs.References.{asked_by_name}
use Rattle.symbol_names.proofs.references.note_name.Goals as goal

pub returns-in-Some-clause-noted : goal.returns-in-Some-clause-noted
returns-in-Some-clause-noted c =
    on_ok_weaker c.note_one.result (λ noted earlier was.
    subst (λ (o : Option (List ℕ)). AllZip (NotesAsked c.note_one.new.names.keys) (earlier ++ map asked_by_name (cons_option o [])) c.note_one.new.noted.items) (sym c.in-Some.is ∙ c.asked_name.ensures)
    (noted earlier was)) c.note_one.ensures.noted
