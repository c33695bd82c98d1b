use Rattle.std.proofs.Common.{refl, sym, ◌∙◌, ap, ◌≡◌, arith, ℕ}
use Rattle.link_base.specs.Refusals.{first_refusal_below}
use Rattle.link_base.proofs.RefusalLemmas.{first_refusal_below-more}
use Rattle.link_base.proofs.OptionLemmas.{none_is}
use Rattle.export_tables.specs.ExportDirectory.{named_address, name_address}
use Rattle.export_tables.proofs.NameLemmas.{none_named, first_named}
use Rattle.export_tables.proofs.lookup.name_address.Goals as goal

pub loop-index-init : goal.loop-index-init
unfolding first_refusal_below
loop-index-init c = refl

pub returns-then-directory-index : goal.returns-then-directory-index
returns-then-directory-index c =
    none_named c.args.memory.now c.args.directory c.args.name.now c.loop-index.index c.loop-index-test.true c.loop-index.invariant c.if-directory-index.true

pub returns-then-is_some : goal.returns-then-is_some
returns-then-is_some c =
    first_named c.args.memory.now c.args.directory c.args.name.now c.loop-index.index c.named_address-address.result c.loop-index-test.true c.loop-index.invariant c.named_address-address.ensures (sym c.is_some.ensures ∙ c.if-is_some.true)

pub loop-index-preserved : goal.loop-index-preserved
loop-index-preserved c =
    first_refusal_below-more c.loop-index.index (named_address c.args.memory.now c.args.directory c.args.name.now) c.loop-index.invariant
    (sym c.named_address-address.ensures ∙ none_is c.named_address-address.result (sym c.is_some.ensures ∙ c.if-is_some.false))

pub returns : goal.returns
unfolding name_address
returns c =
    let all : c.args.directory.name_count ≡ c.loop-index.index = omega (arith, c.loop-index-test.false) in
    sym (ap (λ (n : ℕ). first_refusal_below n (named_address c.args.memory.now c.args.directory c.args.name.now)) all ∙ c.loop-index.invariant)
