use Rattle.std.specs.List.{All}
use Rattle.std.proofs.Common.{refl, ◌≡◌, ◌+◌, ◌<◌, ◌≤◌, ℕ, Vec, Global, length, sym, ap, ◌∙◌, subst, arith}
use Rattle.std.proofs.lemmas.List.{get_or_read}
use Rattle.std.proofs.lemmas.Option.{slice_get_within}
use Rattle.link_base.proofs.OptionLemmas.{none_is}
use Rattle.symbol_table.specs.declared.link.Link.{Link}
use Rattle.symbol_table.specs.Links.{no_link, link_at, next_of, LeadsBelow}
use Rattle.symbol_table.proofs.ChainLemmas.{steps_known, known_end, AreSettled, settled_more, settled_same}
use Rattle.symbol_table.proofs.chains.settle.Goals as goal
use Rattle.symbol_table.proofs.chains.settle.Goals.{then-is_some+in_ok-follow, else-is_some}

pub loop-number-init : goal.loop-number-init
loop-number-init c = record {
  long = refl;
  below = c.requires.below;
  known = λ view chosen known. known;
  done = λ number less. absurd (omega (arith, less));
}

pub follow-requires-clause-long : goal.follow-requires-clause-long
follow-requires-clause-long c = c.loop-number.invariant.long ∙ c.requires.long

pub follow-requires-clause-within : goal.follow-requires-clause-within
follow-requires-clause-within c =
    omega (arith, c.loop-number-test.true, c.len-number-end.ensures, c.args.links.now.ok.0, c.loop-number.invariant.long)

pub follow-requires-clause-below : goal.follow-requires-clause-below
follow-requires-clause-below c =
    let before = c.loop-number.invariant in
    subst (λ (n : ℕ). All (LeadsBelow n) c.loop-number.links.items) (sym before.long) before.below

pub loop-number-preserved : goal.loop-number-preserved
loop-number-preserved c =
    let before = c.loop-number.invariant in
    let names = c.args.names.now.keys in
    let start = c.args.links.now.items in
    let now = c.loop-number.links.items in
    let number = c.loop-number.number in
    let within : number < length now = omega (arith, c.loop-number-test.true, c.len-number-end.ensures, c.args.links.now.ok.0, before.long) in
    let read : c.index.result.now ≡ link_at now number = get_or_read now number c.index.result.now within c.index.ensures no_link in
    elim c.if-is_some.branch [
      | then-is_some+in_ok-follow w ↦
          let followed = w.in_ok-follow.ensures in
          subst (λ (links : Vec Link Global). AreSettled names start links.items (number + 1)) (sym w.links-is)
          (settled_more names start now w.follow.new.links.items number before followed.long followed.below followed.known followed.ended followed.stay)
      | else-is_some w ↦
          subst (λ (links : Vec Link Global). AreSettled names start links.items (number + 1)) (sym w.links-is)
          (settled_same names start now number before (ap next_of (sym read) ∙ sym c.next_of.ensures ∙ none_is c.next_of.result (sym c.is_some.ensures ∙ w.if-is_some.false)))
    ]

pub returns : goal.returns
returns c = λ view chosen are.
    let names = c.args.names.now.keys in
    let before = c.loop-number.invariant in
    let whole : length c.args.links.now.items ≤ c.loop-number.number = omega (arith, c.loop-number-test.false, c.len-number-end.ensures, c.args.links.now.ok.0) in
    record {
      long = before.long ∙ are.long;
      each = λ number name numbered.
          known_end view chosen names c.loop-number.links.items number name (before.known view chosen (steps_known view chosen names c.args.links.now.items are)) numbered
          (before.done number (omega (arith, slice_get_within names number name numbered, whole, are.long)));
    }
