use Rattle.std.proofs.Common.{Bool, ◌&&◌, not, sym, ap, ◌∙◌}
use Rattle.symbol_names.specs.LinkView.{LinkView}
use Rattle.symbol_names.specs.References.{all_asked}
use Rattle.symbol_table.specs.OpenNames.{is_provided, is_open_name}
use Rattle.symbol_table.specs.TableParts.{link_view}
use Rattle.symbol_table.proofs.AbsentLemmas.{position_numbers, position_absent}
use Rattle.symbol_table.proofs.AskedLemmas.{open_by_number, absent_sought}
use Rattle.symbol_table.proofs.table.SymbolTable.is_open.Goals as goal

pub returns-in-Some : goal.returns-in-Some
returns-in-Some c =
    let names = c.self.inside.names.keys in
    let name = c.args.name in
    let number = c.in-Some.number in
    c.is_sought.ensures
    ∙ sym (open_by_number names c.self.inside.given c.self.inside.modules.items c.self.inside.asked number name c.self.invariant (position_numbers names name number (sym c.in-Some.ensures.index)))
    ∙ ap (λ (v : LinkView). is_open_name v name) c.self.view_is

pub returns-in-None : goal.returns-in-None
returns-in-None c =
    let names = c.self.inside.names.keys in
    let name = c.args.name in
    let link = link_view c.self.inside.given c.self.inside.modules.items in
    sym (ap (λ (b : Bool). b && not (is_provided link.modules name)) (absent_sought names name (position_absent names name (sym c.in-None.ensures.index)) (all_asked link) c.self.inside.asked.list.items c.self.invariant.asked_for.list))
    ∙ ap (λ (v : LinkView). is_open_name v name) c.self.view_is
