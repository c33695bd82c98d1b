use Rattle.std.proofs.Common.{ℕ, List, Option, [], ◌∷◌, length, get_or, None, sym, ap, subst, ◌∙◌, arith}
use borrow.Author.Count.{below_more}
use Rattle.std.proofs.lemmas.List.{get_or_append_left, get_or_push, length-append}
use Rattle.std.proofs.lemmas.Option.{slice_get_within}
use Rattle.symbol_table.specs.declared.link.Link.{Link}
use Rattle.symbol_table.specs.declared.greatest.GreatestCommon.{GreatestCommon}
use Rattle.symbol_table.specs.Resolution.{step}
use Rattle.symbol_names.specs.Interning.{Numbers}
use Rattle.std.specs.Prelude.{option_map}
use Rattle.std.specs.Option.{option_or}
use Rattle.symbol_table.specs.LinkerNames.{linker_meaning}
use Rattle.symbol_names.specs.Kept.{rows_of}
use Rattle.symbol_table.specs.Passes.{first_meaning, kept_meaning, KeepsWeak, KeepsAlternate}
use Rattle.symbol_table.specs.Links.{IsStep, link_at, no_link}
use Rattle.symbol_table.proofs.LinkLemmas.{step_is}
use Rattle.symbol_table.proofs.link.links.Goals as goal

pub loop-number-preserved : goal.loop-number-preserved
loop-number-preserved c =
    let links = c.loop-number.links.items in
    let number = c.loop-number.number in
    let names = c.args.names.now.keys in
    let chosen = rows_of c.args.chosen.now in
    let link = c.link_of.result in
    let long = c.loop-number.invariant.long in
    record {
      long = omega (arith, ap length c.in_ok-push.ensures.items, length-append links (link ∷ []), long);
      each = λ view k name first greatest weak alternate lt.
          below_more (λ (j : ℕ). Numbers names j name → IsStep names (step view chosen name) (link_at c.push.new.self.items j)) number
          (λ j below numbered.
          subst (IsStep names (step view chosen name)) (sym (get_or_append_left links (link ∷ []) no_link j (omega (arith, long))) ∙ ap (λ (ls : List Link). link_at ls j) (sym c.in_ok-push.ensures.items)) (c.loop-number.invariant.each view j name first greatest weak alternate below numbered))
          (λ numbered.
          subst (IsStep names (step view chosen name)) (sym (get_or_push links link no_link number long) ∙ ap (λ (ls : List Link). link_at ls number) (sym c.in_ok-push.ensures.items))
          (step_is view chosen names c.args.firsts.now c.args.commons.now c.args.weaks.now c.args.alternates.now number name c.own_meaning-own.result link first greatest weak alternate numbered (c.own_meaning-own.ensures name numbered ∙ ap (λ (common : Option GreatestCommon). option_or (option_map first_meaning (get_or c.args.firsts.now number None)) (option_or (option_map kept_meaning common) (linker_meaning name))) c.entry_at.ensures) (λ entry pair keeps stands. c.link_of.ensures names name entry pair (c.slot_link-slot.ensures name numbered) (subst (KeepsWeak names entry) (sym c.entry_at-weak.ensures) keeps) (subst (KeepsAlternate names pair) (sym c.entry_at-alternate.ensures) stands))))
          k lt;
    }

pub returns : goal.returns
returns c = λ view first greatest weak alternate. record {
  long = omega (arith, c.loop-number.invariant.long, c.len-number-end.ensures.len, c.loop-number-test.false);
  each = λ k name numbered. c.loop-number.invariant.each view k name first greatest weak alternate (omega (arith, slice_get_within c.args.names.now.keys k name numbered, c.len-number-end.ensures.len, c.loop-number-test.false)) numbered;
}
