use Rattle.std.proofs.Common.{ℕ, length, refl, ap, sym, ◌∙◌, subst, arith}
use Rattle.icf.specs.declared.rounds.Key.{Key}
use Rattle.icf.specs.Rounds.{AreFieldsWithin, IsKey, renamed}
use Rattle.icf.proofs.ListLemmas.{each_more, size_more, listed_item}
use Rattle.icf.proofs.rounds.keys_of.Goals as goal

pub renamed-requires : goal.renamed-requires
renamed-requires c =
    let own = listed_item c.args.lists.now c.loop-number.number c.index-lists-number.result (omega (arith, c.requires.same_length)) c.index-lists-number.is in
    subst (AreFieldsWithin (length c.args.classes.now)) (own ∙ sym c.deref.ensures.value) (c.requires.within c.loop-number.number)

pub loop-number-preserved : goal.loop-number-preserved
loop-number-preserved c =
    let lists = c.args.lists.now in
    let classes = c.args.classes.now in
    let number = c.loop-number.number in
    let is = c.in_ok-push.ensures.items in
    let same = c.loop-number.invariant.same_length in
    let own = listed_item lists number c.index-lists-number.result (omega (arith, c.requires.same_length)) c.index-lists-number.is in
    record {
      same_length = size_more (λ n k. Unit {0}) c.loop-number.keys.items _ number same c.push.new.self.items is;
      each = each_more (λ (n : ℕ) (k : Key). IsKey lists classes n k) c.loop-number.keys.items _ number same c.loop-number.invariant.each
          (record { class = refl; fields = c.in_ok-fields.ensures ∙ ap (renamed classes) (c.deref.ensures.value ∙ sym own) }) c.push.new.self.items is;
    }
