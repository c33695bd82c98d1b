use Rattle.std.proofs.Common.{ℕ, List, length, get_or, slice_get, sym, ap, ◌∙◌, arith}
use Rattle.std.proofs.lemmas.List.FromFn.{length-range_with_len}
use Rattle.icf.specs.Sections.{sections_of}
use Rattle.icf.proofs.SectionLemmas.{sections_read}
use Rattle.link_folding.proofs.PutLemmas.{place_more, below_none, below_more, places_all}
use Rattle.link_folding.proofs.folded.places_by.Goals as goal

pub loop-k-preserved : goal.loop-k-preserved
loop-k-preserved c = place_more c.loop-k.k c.loop-k.places.items c.push.new.self.items c.loop-k.invariant c.in_ok-push.ensures.items

pub loop-number-init : goal.loop-number-init
loop-number-init c = record {
  for_each = omega (arith, ap length c.loop-k.invariant, length-range_with_len 0 c.loop-k.k);
  below = below_none c.args.candidates.now c.args.answers.now c.loop-k.k c.loop-k.places.items c.loop-k.invariant;
}

pub put_places-requires-clause-as_many : goal.put_places-requires-clause-as_many
put_places-requires-clause-as_many c =
    let candidates = c.args.candidates.now in
    let number = c.loop-number.number in
    let first = get_or c.args.answers.now number 0 in
    let lt = c.loop-number-test.true in
    ap length (sym (sections_read candidates number c.index-candidates-number.result lt c.index-candidates-number.is))
    ∙ sym (c.requires.answers.as_many number lt)
    ∙ ap length (sections_read candidates first c.index-candidates-answers.result (c.requires.answers.within number lt) c.index-candidates-answers.is)

pub put_places-requires-clause-within : goal.put_places-requires-clause-within
put_places-requires-clause-within c = λ rank piece there.
    let candidates = c.args.candidates.now in
    let number = c.loop-number.number in
    let own = sections_read candidates number c.index-candidates-number.result c.loop-number-test.true c.index-candidates-number.is in
    let lt = c.requires.candidates.within number rank piece (ap (λ (xs : List ℕ). slice_get xs rank) own ∙ there) in
    omega (arith, lt, c.loop-number.invariant.for_each)

pub put_places-requires-clause-distinct : goal.put_places-requires-clause-distinct
put_places-requires-clause-distinct c = λ rank other piece here there.
    let candidates = c.args.candidates.now in
    let number = c.loop-number.number in
    let own = sections_read candidates number c.index-candidates-number.result c.loop-number-test.true c.index-candidates-number.is in
    (c.requires.candidates.distinct number rank number other piece (ap (λ (xs : List ℕ). slice_get xs rank) own ∙ here) (ap (λ (xs : List ℕ). slice_get xs other) own ∙ there)).1

pub loop-number-preserved : goal.loop-number-preserved
loop-number-preserved c =
    let candidates = c.args.candidates.now in
    let answers = c.args.answers.now in
    let number = c.loop-number.number in
    let own = sections_read candidates number c.index-candidates-number.result c.loop-number-test.true c.index-candidates-number.is in
    let others = sections_read candidates (get_or answers number 0) c.index-candidates-answers.result (c.requires.answers.within number c.loop-number-test.true) c.index-candidates-answers.is in
    record {
      for_each = c.put_places.ensures.same_length ∙ c.loop-number.invariant.for_each;
      below =
          below_more candidates answers number (sections_of c.index-candidates-number.result) (sections_of c.index-candidates-answers.result) c.loop-number.places.items c.put_places.new.places.items own others c.put_places.ensures c.loop-number.invariant.below;
    }

pub returns-clause-places : goal.returns-clause-places
returns-clause-places c =
    places_all c.args.candidates.now c.args.answers.now c.loop-number.number c.loop-number.places.items (omega arith) c.loop-number.invariant.below
