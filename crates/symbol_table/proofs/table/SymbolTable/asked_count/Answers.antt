use Rattle.std.proofs.Common.{◌≡◌, length, ap, arith}
use Rattle.symbol_names.specs.LinkView.{LinkView}
use Rattle.symbol_names.specs.References.{all_asked}
use Rattle.symbol_names.specs.Interning.{NotesAsked}
use Rattle.symbol_table.specs.TableParts.{link_view}
use Rattle.symbol_names.proofs.NumberLemmas.{zip_length}
use Rattle.symbol_table.proofs.table.SymbolTable.asked_count.Goals as goal

pub returns : goal.returns
returns c =
    let list = all_asked (link_view c.self.inside.given c.self.inside.modules.items) in
    let long : length list ≡ length c.self.inside.asked.list.items =
    zip_length (NotesAsked c.self.inside.names.keys) list c.self.inside.asked.list.items c.self.invariant.asked_for.list in
    let same : length list ≡ length (all_asked c.args.self.now) = ap (λ (v : LinkView). length (all_asked v)) c.self.view_is in
    omega (arith, c.len.ensures, long, same)
