use Rattle.std.proofs.Common.{◌≡◌, ℕ, ◌<◌, true, false, eqb, ◌&&◌, length, get_or, refl, sym, ap, ◌∙◌, arith}
use Rattle.std.specs.Prelude.{replicate}
use Rattle.std.proofs.lemmas.List.{get_or_read}
use Rattle.std.proofs.lemmas.List.Folds.{list_all_more}
use Rattle.coff_aux.specs.AuxRecords.{COMDAT_SELECT_ANY}
use Rattle.comdat.specs.Entries.{no_entry}
use Rattle.comdat.proofs.FirstLemmas.{firsts_none, firsts_more, firsts_all}
use Rattle.comdat.proofs.NumberingLemmas.{number_at}
use Rattle.comdat.proofs.firsts.firsts_of_any.Goals as goal

pub loop-index-init : goal.loop-index-init
loop-index-init c = record {
  any = refl;
  firsts = firsts_none c.args.entries.now (length c.args.names.now.keys) c.in_ok-seen.seen.items c.in_ok-flags.flags.items (c.in_ok-seen.ensures.items_if_clones_equal (λ y e. e) ∙ ap (λ (n : ℕ). replicate n false) c.len.ensures.len) (c.in_ok-flags.ensures.items_if_clones_equal (λ y e. e));
}

pub loop-index-preserved : goal.loop-index-preserved
loop-index-preserved c =
    let entries = c.args.entries.now in
    let count = length c.args.names.now.keys in
    let k = c.loop-index.index in
    let seen = c.loop-index.seen.items in
    let before = c.loop-index.invariant.firsts in
    let in_count : number_at entries k < count = c.requires k no_entry c.loop-index-test.true in
    let here : eqb (get_or entries k no_entry).selection COMDAT_SELECT_ANY ≡ true = sym c.is_any.ensures ∙ c.if-not-is_any.false in
    record {
      any = list_all_more (λ entry. eqb entry.selection COMDAT_SELECT_ANY) entries k no_entry c.loop-index-test.true ∙ (λ i. c.loop-index.invariant.any i && here i);
      firsts = firsts_more entries count k seen c.loop-index.flags.items c.index.result.now before c.loop-index-test.true in_count
          (get_or_read seen (number_at entries k) c.index.result.now (omega (arith, in_count, before.names)) c.index.ensures false);
    }

pub returns-clause-firsts : goal.returns-clause-firsts
returns-clause-firsts c = λ modules kept.
    firsts_all c.args.names.now.keys modules c.args.entries.now (length c.args.names.now.keys) c.loop-index.index c.loop-index.seen.items c.loop-index.flags.items c.len.ensures.unique kept c.loop-index.invariant.firsts (omega (arith, c.loop-index-test.false, c.loop-index.auto))
