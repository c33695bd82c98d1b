use Rattle.std.proofs.Common.{◌≡◌, ℕ, length, ap, subst, arith, rules}
use Rattle.icf.specs.Owners.{WithSections, AreOwnersBelow}
use Rattle.icf.specs.Sections.{sections_of}
use Rattle.icf.proofs.SectionLemmas.{sections_read, within_there, number_below}
use Rattle.icf.proofs.OwnerLemmas.{owners_none, owners_more, owners_all}
use Rattle.icf.proofs.owners.owners_of.Goals as goal

pub loop-number-init : goal.loop-number-init
loop-number-init c = record {
  owners = owners_none c.args.candidates.now c.args.pieces c.in_ok-owners.owners.items (c.in_ok-owners.ensures.items_if_clones_equal (λ y e. search rules));
  few = omega arith;
}

pub narrowed-narrow-requires : goal.narrowed-narrow-requires
narrowed-narrow-requires c =
    let candidates = c.args.candidates.now in
    let low = number_below c.args.pieces candidates c.requires c.loop-number.number c.index-candidates-number.result (omega arith) in
    omega (arith, low, ap (λ candidate. candidate.piece) c.index-candidates-number.is)

pub take_sections-requires : goal.take_sections-requires
take_sections-requires c = λ rank piece there.
    let lt = within_there c.args.candidates.now c.args.pieces c.requires.within c.loop-number.number c.index-candidates-number.result (omega arith) c.index-candidates-number.is rank piece there in
    omega (arith, c.loop-number.invariant.owners.same_length)

pub loop-number-preserved : goal.loop-number-preserved
loop-number-preserved c =
    let candidates = c.args.candidates.now in
    let own = sections_read candidates c.loop-number.number c.index-candidates-number.result (omega arith) c.index-candidates-number.is in
    record {
      owners = owners_more candidates c.args.pieces c.loop-number.number (sections_of c.index-candidates-number.result) c.loop-number.owners.items c.take_sections.new.owners.items own c.loop-number.invariant.owners (let taken = subst (λ (n : ℕ). WithSections n (sections_of c.index-candidates-number.result) (length (sections_of c.index-candidates-number.result)) c.loop-number.owners.items c.take_sections.new.owners.items) c.narrowed-narrow.ensures c.take_sections.ensures in taken);
      few = omega (arith, c.narrowed-narrow.ensures);
    }

pub returns-clause-owners : goal.returns-clause-owners
returns-clause-owners c =
    let all : c.loop-number.number ≡ length c.args.candidates.now = omega arith in
    owners_all c.args.candidates.now c.args.pieces c.loop-number.owners.items c.requires (subst (λ (n : ℕ). AreOwnersBelow c.args.candidates.now c.args.pieces n c.loop-number.owners.items) all c.loop-number.invariant.owners)
