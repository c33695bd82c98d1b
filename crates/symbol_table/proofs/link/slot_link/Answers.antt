use Rattle.std.proofs.Common.{◌≡◌, true, cond, List, ℕ, Err, refl, sym, ap, subst, ◌∙◌}
use Rattle.link_base.specs.NameText.{begins_import, behind_import}
use Rattle.symbol_table.specs.declared.link.Link.TheVariants as link
use Rattle.symbol_table.specs.declared.meaning.NoMeaning.TheVariants.{Undefined}
use Rattle.symbol_names.specs.Interning.{Numbers}
use Rattle.symbol_names.proofs.NumberLemmas.{one_name}
use Rattle.symbol_table.specs.Resolution.{Step, Ends, Leads}
use Rattle.symbol_table.specs.Links.{IsStep}
use Rattle.symbol_table.proofs.AbsentLemmas.{position_numbers, position_absent}
use Rattle.symbol_table.proofs.link.slot_link.Goals as goal

pub unreachable-requires : goal.unreachable-requires
unreachable-requires c =
    let names = c.args.names.now.keys in
    let name = c.name_at-name.result in
    let rest = c.requires.rests c.args.number name c.name_at-name.ensures (sym c.if-not-is_import.ensures) in
    position_absent names c.of.result (sym c.in-None.ensures.index) rest.number
    (subst (λ (n : List ℕ). Numbers names rest.number n) (sym (c.of.ensures ∙ c.rest.ensures)) rest.numbered)

pub returns : goal.returns
returns c = λ name numbered.
    let names = c.args.names.now.keys in
    let number = c.in-Some.number in
    let same : name ≡ c.name_at-name.result = one_name names c.args.number name c.name_at-name.result numbered c.name_at-name.ensures in
    let begins : begins_import name ≡ true = ap begins_import same ∙ sym c.if-not-is_import.ensures in
    let there = position_numbers names c.of.result number (sym c.in-Some.ensures.index) in
    subst (λ (s : Step). IsStep names s (link.Leads number true)) (sym (ap (λ b. cond b (Leads true (behind_import name)) (Ends (Err Undefined))) begins))
    (refl, subst (λ (n : List ℕ). Numbers names number n) (c.of.ensures ∙ c.rest.ensures ∙ ap behind_import (sym same)) there)
