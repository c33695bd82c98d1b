use Rattle.std.proofs.Common.{◌≡◌, sym, subst, ap, ◌∙◌, ◌/◌, ℕ, false}
use Rattle.pdb_publics.specs.Lookup.{stream_bytes_of, records_len, has_range, IsRange}
use Rattle.pdb_publics.proofs.RangeLemmas.{no_word, no_end, descends, leaves, range_is}
use Rattle.pdb_publics.proofs.range.bucket_range.Goals as goal

pub returns-then-not-is_word : goal.returns-then-not-is_word
returns-then-not-is_word c =
    let publics = stream_bytes_of c.args.msf.now 6 in
    subst (λ (n : ℕ). has_range publics n ≡ false) c.set_below-number.ensures.count
    (no_word publics c.set_below-number.result (sym c.if-not-is_word.true ∙ c.is_word.ensures.word))

pub returns-in_default : goal.returns-in_default
returns-in_default c =
    let publics = stream_bytes_of c.args.msf.now 6 in
    subst (λ (n : ℕ). has_range publics n ≡ false) c.set_below-number.ensures.count
    (no_end publics c.set_below-number.result c.in_default.ensures.end)

pub returns-then-first-end : goal.returns-then-first-end
returns-then-first-end c =
    let publics = stream_bytes_of c.args.msf.now 6 in
    subst (λ (n : ℕ). has_range publics n ≡ false) c.set_below-number.ensures.count
    (descends publics c.set_below-number.result (c.word-first.result / 12) c.in-Some.end (ap (λ (n : ℕ). n / 12) c.word-first.ensures.word) c.in-Some.ensures.end.1 c.if-first-end.true)

pub returns-then-end-len_at : goal.returns-then-end-len_at
unfolding records_len
returns-then-end-len_at c =
    let publics = stream_bytes_of c.args.msf.now 6 in
    subst (λ (n : ℕ). has_range publics n ≡ false) c.set_below-number.ensures.count
    (leaves publics c.set_below-number.result c.in-Some.end c.len_at.result c.in-Some.ensures.end.1 c.len_at.ensures.len c.if-end-len_at.true)

pub returns : goal.returns
unfolding records_len
returns c =
    let publics = stream_bytes_of c.args.msf.now 6 in
    subst (λ (n : ℕ). IsRange publics n (c.word-first.result / 12, c.in-Some.end)) c.set_below-number.ensures.count
    (range_is publics c.set_below-number.result (c.word-first.result / 12) c.in-Some.end c.len_at.result (sym c.if-not-is_word.false ∙ c.is_word.ensures.word) c.in-Some.ensures.end.0 (ap (λ (n : ℕ). n / 12) c.word-first.ensures.word) c.in-Some.ensures.end.1 c.len_at.ensures.len c.if-first-end.false c.if-end-len_at.false)
