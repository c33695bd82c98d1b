use Rattle.std.proofs.Common.{◌≡◌, get_or, None, sym, ◌∙◌, ap, not, arith}
use Rattle.std.specs.Prelude.{is_some}
use Rattle.std.proofs.lemmas.List.{get_or_read}
use Rattle.link_base.proofs.OptionLemmas.{none_is}
use Rattle.symbol_table.proofs.AlternateLemmas.{alternate_first, alternate_again}
use Rattle.symbol_table.proofs.first_alternate.note_alternate.Goals as goal

pub returns-then-is_none-clause-noted : goal.returns-then-is_none-clause-noted
returns-then-is_none-clause-noted c = λ earlier entry notes was.
    let old = c.args.alternates.now.items in
    let noted = c.args.noted.now in
    let read : c.index.result.now ≡ get_or old noted.left None = get_or_read old noted.left c.index.result.now (omega (arith, c.requires.within, c.requires.long)) c.index.ensures None in
    alternate_first c.args.names.now.keys earlier entry noted old c.requires.distinct (sym read ∙ none_is c.index.result.now (c.is_none.ensures ∙ ap not c.if-is_none.true)) notes was

pub returns-else-is_none-clause-noted : goal.returns-else-is_none-clause-noted
returns-else-is_none-clause-noted c = λ earlier entry notes was.
    let old = c.args.alternates.now.items in
    let noted = c.args.noted.now in
    let read : c.index.result.now ≡ get_or old noted.left None = get_or_read old noted.left c.index.result.now (omega (arith, c.requires.within, c.requires.long)) c.index.ensures None in
    alternate_again c.args.names.now.keys earlier entry noted old c.requires.distinct (ap is_some (sym read) ∙ c.is_none.ensures ∙ ap not c.if-is_none.false) notes was
