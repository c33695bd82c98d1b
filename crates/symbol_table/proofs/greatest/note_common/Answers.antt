use Rattle.std.proofs.Common.{◌≡◌, get_or, None, Option, sym, ◌∙◌, ap, arith}
use Rattle.std.proofs.lemmas.List.{get_or_read}
use Rattle.symbol_table.specs.declared.greatest.GreatestCommon.{GreatestCommon}
use Rattle.symbol_table.specs.Passes.{is_greater}
use Rattle.symbol_table.proofs.GreatestLemmas.{common_first, common_again}
use Rattle.symbol_table.proofs.greatest.note_common.Goals as goal

pub returns-then-is_greater-clause-noted : goal.returns-then-is_greater-clause-noted
returns-then-is_greater-clause-noted c = λ earlier entry notes was.
    let old = c.args.commons.now.items in
    let noted = c.args.common.now in
    let read : c.index.result.now ≡ get_or old noted.name None = get_or_read old noted.name c.index.result.now (omega (arith, c.requires.within, c.requires.long)) c.index.ensures None in
    common_first c.args.names.now.keys earlier c.args.position entry noted old c.requires.distinct
    (ap (λ (o : Option GreatestCommon). is_greater noted.size o) (sym read) ∙ sym c.is_greater.ensures ∙ c.if-is_greater.true) notes was

pub returns-else-is_greater-clause-noted : goal.returns-else-is_greater-clause-noted
returns-else-is_greater-clause-noted c = λ earlier entry notes was.
    let old = c.args.commons.now.items in
    let noted = c.args.common.now in
    let read : c.index.result.now ≡ get_or old noted.name None = get_or_read old noted.name c.index.result.now (omega (arith, c.requires.within, c.requires.long)) c.index.ensures None in
    common_again c.args.names.now.keys earlier c.args.position entry noted old c.requires.distinct
    (ap (λ (o : Option GreatestCommon). is_greater noted.size o) (sym read) ∙ sym c.is_greater.ensures ∙ c.if-is_greater.false) notes was
