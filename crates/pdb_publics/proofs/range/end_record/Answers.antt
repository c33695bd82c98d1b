use Rattle.std.proofs.Common.{arith, sym, ap, ◌∙◌, ◌/◌, ℕ}
use Rattle.pdb_publics.specs.Lookup.{stream_bytes_of, records_len}
use Rattle.pdb_publics.proofs.RangeLemmas.{no_next, has_another, end_last, end_next, end_missing}
use Rattle.pdb_publics.proofs.range.end_record.Goals as goal

pub returns-then-number-set_below-clause-end : goal.returns-then-number-set_below-clause-end
unfolding records_len
returns-then-number-set_below-clause-end c =
    let publics = stream_bytes_of c.args.msf.now 6 in
    end_last publics c.args.number (c.len_at.result / 8) (no_next publics c.args.number c.set_below.result c.set_below.ensures.count (omega (arith, c.if-number-set_below.true))) (ap (λ (n : ℕ). n / 8) c.len_at.ensures.len)

pub returns-then-not-is_word-clause-end : goal.returns-then-not-is_word-clause-end
returns-then-not-is_word-clause-end c =
    let publics = stream_bytes_of c.args.msf.now 6 in
    end_missing publics c.args.number (has_another publics c.args.number c.set_below.result c.set_below.ensures.count (omega (arith, c.if-number-set_below.false))) (sym c.if-not-is_word.true ∙ c.is_word.ensures.word)

pub returns-clause-small : goal.returns-clause-small
returns-clause-small c = omega (arith, c.word.ensures.small)

pub returns-clause-end : goal.returns-clause-end
returns-clause-end c =
    let publics = stream_bytes_of c.args.msf.now 6 in
    end_next publics c.args.number (c.word.result / 12) (has_another publics c.args.number c.set_below.result c.set_below.ensures.count (omega (arith, c.if-number-set_below.false))) (sym c.if-not-is_word.false ∙ c.is_word.ensures.word) (ap (λ (n : ℕ). n / 12) c.word.ensures.word)
