use Rattle.std.proofs.Common.{◌<◌, [], ◌∷◌, ℕ, length, sym, subst, arith}
use Rattle.std.specs.List.{All}
use Rattle.std.proofs.lemmas.List.{length-map}
use Rattle.std.proofs.lemmas.List.Elements.{All-append, All-cons, All-nil}
use Rattle.std.proofs.lemmas.Result.{err_from_is_err_and}
use Rattle.comdat.specs.Entries.{entry_at, named_by}
use Rattle.comdat.specs.Numbering.{candidates_at}
use Rattle.comdat.proofs.GroupLemmas.{list_at, refused_at, winners_more, none_conflicts}
use Rattle.comdat.proofs.groups.winners.Goals as goal

pub group_winner-requires-clause-places : goal.group_winner-requires-clause-places
group_winner-requires-clause-places c =
    let numbering = c.args.numbering.now in
    let list = list_at (named_by c.args.modules.now c.args.entries.now) numbering.numbers.items numbering.firsts.items c.loop-places.places-index c.args.lists.now c.places-item.result c.deref.result.now c.requires.numbers c.requires.lists c.loop-places-test.true c.places-item.is c.deref.ensures.value in
    subst (λ (n : ℕ). All (λ k. k < n) c.deref.result.now) (length-map c.args.entries.now (entry_at c.args.modules.now)) list.within

pub group_winner-requires-clause-some : goal.group_winner-requires-clause-some
group_winner-requires-clause-some c =
    let numbering = c.args.numbering.now in
    (list_at (named_by c.args.modules.now c.args.entries.now) numbering.numbers.items numbering.firsts.items c.loop-places.places-index c.args.lists.now c.places-item.result c.deref.result.now c.requires.numbers c.requires.lists c.loop-places-test.true c.places-item.is c.deref.ensures.value).some

pub returns-in_err-winner-clause-refused : goal.returns-in_err-winner-clause-refused
returns-in_err-winner-clause-refused c =
    let named = named_by c.args.modules.now c.args.entries.now in
    let numbering = c.args.numbering.now in
    let number = c.loop-places.places-index in
    let list = list_at named numbering.numbers.items numbering.firsts.items number c.args.lists.now c.places-item.result c.deref.result.now c.requires.numbers c.requires.lists c.loop-places-test.true c.places-item.is c.deref.ensures.value in
    let given = err_from_is_err_and c.from_residual-in_err-winner.result c.from_residual-in_err-winner.ensures.1 in
    let refused = refused_at named numbering.numbers.items numbering.firsts.items number c.loop-places.winners.items c.deref.result.now c.in_err-winner.field-0.0 c.requires.numbers c.loop-places.invariant.winners list c.in_err-winner.ensures.refused in
    rw (given.1, given.2) refused

pub loop-places-preserved : goal.loop-places-preserved
loop-places-preserved c =
    let named = named_by c.args.modules.now c.args.entries.now in
    let numbering = c.args.numbering.now in
    let number = c.loop-places.places-index in
    let winners = c.loop-places.winners.items in
    let winner = c.in_ok-winner.winner in
    let before = c.loop-places.invariant in
    let list = list_at named numbering.numbers.items numbering.firsts.items number c.args.lists.now c.places-item.result c.deref.result.now c.requires.numbers c.requires.lists c.loop-places-test.true c.places-item.is c.deref.ensures.value in
    let Within : ℕ → Type 0 = λ k. k < length c.args.entries.now in
    record {
      within = subst (All Within) (sym c.in_ok-push.ensures.items) (All-append Within winners (winner ∷ []) before.within (All-cons Within winner [] c.in_ok-winner.ensures.within (All-nil Within)));
      winners = winners_more named numbering.firsts.items number winners c.push.new.self.items (candidates_at named c.deref.result.now) winner before.winners list.is c.in_ok-winner.ensures.chosen c.in_ok-winner.ensures.accepted c.in_ok-push.ensures.items;
    }

pub returns-clause-accepted : goal.returns-clause-accepted
returns-clause-accepted c =
    none_conflicts (named_by c.args.modules.now c.args.entries.now) c.args.numbering.now.numbers.items c.args.numbering.now.firsts.items c.loop-places.places-index c.loop-places.winners.items c.requires.numbers c.loop-places.invariant.winners (omega (arith, c.requires.lists.same_length))
