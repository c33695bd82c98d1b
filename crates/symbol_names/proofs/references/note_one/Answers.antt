use Rattle.std.proofs.Common.{refl}
use Rattle.symbol_names.specs.References.{asked_by_name}
use Rattle.symbol_names.proofs.NotedLemmas.{asked_last}
use Rattle.symbol_names.proofs.references.note_one.Goals as goal

pub returns-clause-noted : goal.returns-clause-noted
returns-clause-noted c = λ earlier was.
    asked_last c.args.names.now.keys c.number_again.new.names.keys c.number_again.ensures.kept earlier c.args.noted.now.items c.push.new.self.items (asked_by_name c.args.name.now) _ was (record { named = c.in_ok-name.ensures.numbered; search_is = refl }) c.in_ok-push.ensures.items
