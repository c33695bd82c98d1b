use Rattle.std.proofs.Common.{◌≡◌, get_or, None, sym, ◌∙◌, ap, not, arith}
use Rattle.std.specs.Prelude.{is_some}
use Rattle.std.proofs.lemmas.List.{get_or_read}
use Rattle.link_base.proofs.OptionLemmas.{none_is}
use Rattle.symbol_table.proofs.WeakLemmas.{weak_first, weak_known}
use Rattle.symbol_table.proofs.first_weak.note_weak.Goals as goal

pub returns-then-is_none-clause-noted : goal.returns-then-is_none-clause-noted
returns-then-is_none-clause-noted c = λ earlier bytes entry notes was.
    let old = c.args.weaks.now.items in
    let noted = c.args.weak.now in
    let read : c.index.result.now ≡ get_or old noted.name None = get_or_read old noted.name c.index.result.now (omega (arith, c.requires.within, c.requires.long)) c.index.ensures None in
    weak_first c.args.names.now.keys earlier c.args.position bytes entry noted old c.requires.distinct (sym read ∙ none_is c.index.result.now (c.is_none.ensures ∙ ap not c.if-is_none.true)) notes was

pub returns-else-is_none-clause-noted : goal.returns-else-is_none-clause-noted
returns-else-is_none-clause-noted c = λ earlier bytes entry notes was.
    let old = c.args.weaks.now.items in
    let noted = c.args.weak.now in
    let read : c.index.result.now ≡ get_or old noted.name None = get_or_read old noted.name c.index.result.now (omega (arith, c.requires.within, c.requires.long)) c.index.ensures None in
    weak_known c.args.names.now.keys earlier c.args.position bytes entry noted old c.requires.distinct (ap is_some (sym read) ∙ c.is_none.ensures ∙ ap not c.if-is_none.false) notes was
