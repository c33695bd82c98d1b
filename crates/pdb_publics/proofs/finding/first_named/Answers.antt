use Rattle.std.proofs.Common.{◌+◌, ◌-◌, ℕ, refl, ap, sym, ◌∙◌, Option, unwrap_or, Ok, None}
use Rattle.link_base.specs.Refusals.{first_refusal_below}
use Rattle.link_base.proofs.RefusalLemmas.{first_refusal_below-more, first_refusal_below-found}
use Rattle.pdb_publics.specs.Lookup.{stream_bytes_of, verdict, hash_entry, first_named, Answer}
use Rattle.pdb_publics.proofs.finding.first_named.Goals as goal

pub loop-index-init : goal.loop-index-init
unfolding first_refusal_below
loop-index-init c = refl

pub loop-index-preserved : goal.loop-index-preserved
loop-index-preserved c =
    first_refusal_below-more c.loop-index.index (λ (index : ℕ). verdict (stream_bytes_of c.args.msf.now 7) c.args.name.now (hash_entry (stream_bytes_of c.args.msf.now 6) (c.args.first + index))) c.loop-index.invariant
    (ap (verdict (stream_bytes_of c.args.msf.now 7) c.args.name.now) (sym c.hash_entry.ensures) ∙ sym c.verdict.ensures ∙ c.in_default.is)

pub returns-in-Some : goal.returns-in-Some
unfolding first_named
returns-in-Some c =
    sym (ap (λ (o : Option Answer). unwrap_or o (Ok None))
    (first_refusal_below-found c.loop-index.index (c.args.end - c.args.first) (λ (index : ℕ). verdict (stream_bytes_of c.args.msf.now 7) c.args.name.now (hash_entry (stream_bytes_of c.args.msf.now 6) (c.args.first + index))) c.in-Some.answer c.loop-index-test.true c.loop-index.invariant
    (ap (verdict (stream_bytes_of c.args.msf.now 7) c.args.name.now) (sym c.hash_entry.ensures) ∙ sym c.verdict.ensures ∙ c.in-Some.is)))
