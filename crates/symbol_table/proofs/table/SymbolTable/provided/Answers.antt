use Rattle.std.proofs.Common.{sym, ap, ◌∙◌}
use Rattle.std.specs.Prelude.{is_some}
use Rattle.symbol_names.specs.LinkView.{LinkView}
use Rattle.symbol_table.specs.OpenNames.{is_provided}
use Rattle.symbol_names.specs.Flags.{flag_of}
use Rattle.symbol_table.proofs.AbsentLemmas.{position_numbers, position_absent}
use Rattle.symbol_table.proofs.AskedLemmas.{provided_is, absent_provided}
use Rattle.symbol_table.proofs.table.SymbolTable.provided.Goals as goal

pub returns-in-Some : goal.returns-in-Some
returns-in-Some c =
    let names = c.self.inside.names.keys in
    let name = c.args.name in
    let number = c.in-Some.number in
    let flag = flag_of c.self.inside.asked.provided.items number in
    c.is_there.ensures
    ∙ sym (provided_is names number name c.self.invariant.distinct (position_numbers names name number (sym c.in-Some.ensures.index)) c.self.inside.modules.items flag c.self.invariant.whole.modules.noted (c.self.invariant.asked_for.provided number))
    ∙ ap (λ (v : LinkView). is_provided v.modules name) c.self.view_is

pub returns-in-None : goal.returns-in-None
returns-in-None c =
    let names = c.self.inside.names.keys in
    let name = c.args.name in
    c.is_some.ensures ∙ ap is_some c.linker_meaning.ensures
    ∙ sym (absent_provided names name (position_absent names name (sym c.in-None.ensures.index)) c.self.inside.modules.items c.self.invariant.whole.modules.noted)
    ∙ ap (λ (v : LinkView). is_provided v.modules name) c.self.view_is
