use Rattle.std.proofs.Common.{◌-◌, ◌≡◌, ℕ, List, length, Result, sym, ap, ◌∙◌, arith}
use Rattle.symbol_names.specs.Kept.{rows_of}
use Rattle.symbol_table.specs.declared.meaning.Meaning.{Meaning}
use Rattle.symbol_table.specs.declared.meaning.NoMeaning.{NoMeaning}
use Rattle.symbol_table.proofs.EndLemmas.{begins_long, behind_is, settles_means}
use Rattle.symbol_table.proofs.AbsentLemmas.{absent_own, absent_nothing, absent_slot, position_numbers, position_absent}
use Rattle.std.proofs.lemmas.List.{get_or_read, length-drop}
use Rattle.symbol_table.specs.Links.{no_link, end_of}
use Rattle.symbol_table.specs.TableParts.{link_view, ResolvedView}
use Rattle.symbol_table.specs.Resolution.{slot_of, meaning_of}
use Rattle.symbol_table.proofs.resolved.ResolvedNames.+resolve.Goals as goal

pub returns-in-Some-clause-meaning : goal.returns-in-Some-clause-meaning
returns-in-Some-clause-meaning t c =
    let kept = c.self.inside.modules.items in
    let chosen = rows_of c.self.inside.chosen.items in
    let names = c.self.inside.names.keys in
    let name = c.args.name in
    let number = c.in-Some.number in
    let numbered = position_numbers names name number (sym c.in-Some.ensures.index) in
    c.end_of.ensures ∙ ap end_of (get_or_read c.self.inside.links.items number c.index.result.now (omega (arith, c.in-Some.ensures.within, c.self.invariant.meant.long)) c.index.ensures no_link)
    ∙ sym (settles_means (link_view c.self.inside.given kept) chosen name _ (c.self.invariant.meant.each number name numbered))
    ∙ ap (λ (v : ResolvedView). meaning_of v.link v.chosen name) c.self.view_is

pub returns-in-Some-linker_meaning-clause-meaning :
    goal.returns-in-Some-linker_meaning-clause-meaning
returns-in-Some-linker_meaning-clause-meaning t c =
    let kept = c.self.inside.modules.items in
    let chosen = rows_of c.self.inside.chosen.items in
    let names = c.self.inside.names.keys in
    sym (absent_own names kept c.self.invariant.whole.modules.noted c.args.name (position_absent names c.args.name (sym c.in_default.ensures.index)) c.self.inside.given chosen c.in-Some-linker_meaning.meaning c.self.invariant.whole.alternates (sym c.in-Some-linker_meaning.ensures))
    ∙ ap (λ (v : ResolvedView). meaning_of v.link v.chosen c.args.name) c.self.view_is

pub returns-then-not-is_import-clause-meaning : goal.returns-then-not-is_import-clause-meaning
returns-then-not-is_import-clause-meaning t c =
    let kept = c.self.inside.modules.items in
    let chosen = rows_of c.self.inside.chosen.items in
    let names = c.self.inside.names.keys in
    sym (absent_nothing names kept c.self.invariant.whole.modules.noted c.args.name (position_absent names c.args.name (sym c.in_default.ensures.index)) c.self.inside.given chosen c.self.invariant.whole.alternates (sym c.in_default-linker_meaning.ensures) (sym c.if-not-is_import.ensures))
    ∙ ap (λ (v : ResolvedView). meaning_of v.link v.chosen c.args.name) c.self.view_is

pub resolve-requires : goal.resolve-requires
resolve-requires t c =
    let name = c.args.name in
    let begins = sym c.if-not-is_import.ensures in
    let shorter : length c.of-rest.result ≡ length name - 6 = ap length (c.of-rest.ensures ∙ c.rest.ensures ∙ behind_is name begins) ∙ length-drop 6 name in
    (omega (arith, c.decreases, begins_long name begins, shorter), tt)

pub returns-clause-meaning : goal.returns-clause-meaning
returns-clause-meaning t c =
    let kept = c.self.inside.modules.items in
    let chosen = rows_of c.self.inside.chosen.items in
    let names = c.self.inside.names.keys in
    let rest = c.of-rest.result in
    c.slot_of.ensures
    ∙ ap (λ (n : List ℕ). slot_of n c.resolve.result) c.again.ensures
    ∙ ap (λ (e : Result Meaning NoMeaning). slot_of rest e) (c.resolve.ensures.meaning ∙ ap (λ (v : ResolvedView). meaning_of v.link v.chosen rest) (sym c.self.view_is))
    ∙ sym (absent_slot names kept c.self.invariant.whole.modules.noted c.args.name (position_absent names c.args.name (sym c.in_default.ensures.index)) c.self.inside.given chosen rest c.self.invariant.whole.alternates (sym c.in_default-linker_meaning.ensures) (sym c.if-not-is_import.ensures) (c.of-rest.ensures ∙ c.rest.ensures))
    ∙ ap (λ (v : ResolvedView). meaning_of v.link v.chosen c.args.name) c.self.view_is
