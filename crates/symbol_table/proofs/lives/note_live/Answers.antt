use Rattle.std.proofs.Common.{◌≡◌, get_or, None, sym, ◌∙◌, ap, not, arith}
use Rattle.std.proofs.lemmas.List.{get_or_read}
use Rattle.symbol_names.specs.Lists.{provided}
use Rattle.symbol_table.specs.Passes.{clash_with_first}
use Rattle.symbol_table.proofs.LiveLemmas.{none_or, some_or, live_first, live_again}
use Rattle.symbol_table.proofs.lives.note_live.Goals as goal

pub returns-in-None-clause-noted : goal.returns-in-None-clause-noted
returns-in-None-clause-noted c = λ earlier entry notes was.
    let old = c.args.lives.now.firsts.items in
    let noted = c.args.definition.now in
    let read : c.index.result.now ≡ get_or old noted.name None = get_or_read old noted.name c.index.result.now (omega (arith, c.requires.within, c.requires.long)) c.index.ensures None in
    live_first c.args.names.now.keys earlier c.args.position entry noted old c.args.lives.now.clash c.requires.distinct (sym read ∙ c.in-None.is) notes was

pub returns-then-is_none-clause-noted : goal.returns-then-is_none-clause-noted
returns-then-is_none-clause-noted c = λ earlier entry notes was.
    let old = c.args.lives.now.firsts.items in
    let noted = c.args.definition.now in
    let clash = c.args.lives.now.clash in
    let read : c.index.result.now ≡ get_or old noted.name None = get_or_read old noted.name c.index.result.now (omega (arith, c.requires.within, c.requires.long)) c.index.ensures None in
    live_again c.args.names.now.keys earlier c.args.position entry noted old c.in-Some.first clash c.clash_with-lives.result c.requires.distinct (sym read ∙ c.in-Some.is) notes was
    (c.clash_with-lives.ensures entry notes ∙ none_or clash (clash_with_first (provided c.args.position entry) c.in-Some.first) (c.is_none.ensures ∙ ap not c.if-is_none.true))

pub returns-else-is_none-clause-noted : goal.returns-else-is_none-clause-noted
returns-else-is_none-clause-noted c = λ earlier entry notes was.
    let old = c.args.lives.now.firsts.items in
    let noted = c.args.definition.now in
    let clash = c.args.lives.now.clash in
    let read : c.index.result.now ≡ get_or old noted.name None = get_or_read old noted.name c.index.result.now (omega (arith, c.requires.within, c.requires.long)) c.index.ensures None in
    live_again c.args.names.now.keys earlier c.args.position entry noted old c.in-Some.first clash clash c.requires.distinct (sym read ∙ c.in-Some.is) notes was
    (some_or clash (clash_with_first (provided c.args.position entry) c.in-Some.first) (c.is_none.ensures ∙ ap not c.if-is_none.false))
