use Rattle.std.proofs.Common.{◌≡◌, ℕ, suc, ◌+◌, ◌<◌, List, length, Some, slice_get, slice_index_or, slice_set, add-one, refl, ap, ◌∙◌, arith}
use Rattle.std.proofs.lemmas.Option.{slice_get_read}
use Rattle.icf.specs.Sections.{sections_of}
use Rattle.link_folding.proofs.PutLemmas.{put_more}
use Rattle.link_folding.proofs.folded.put_places.Goals as goal

pub index_mut-requires : goal.index_mut-requires
index_mut-requires c =
    omega (arith, c.requires.within 0 c.args.candidate.now.piece refl, c.args.places.now.ok.0)

-- the child of a rank, as it is read
child_read : (children : List ℕ) (rank child count : ℕ) → count ≡ length children → rank < count → child ≡ slice_index_or children rank child → slice_get children rank ≡ Some child
child_read children rank child count all lt is = slice_get_read children count rank child all lt is

pub index_mut-requires-in-loop-rank : goal.index_mut-requires-in-loop-rank
index_mut-requires-in-loop-rank c =
    let children = c.args.candidate.now.children in
    let child = c.index-in-loop-rank.result.now in
    let there = child_read children.items c.loop-rank.rank child (length children.items) refl (omega (arith, c.loop-rank-test.true, children.ok.0)) c.index-in-loop-rank.ensures in
    omega (arith, c.requires.within (suc c.loop-rank.rank) child there, c.loop-rank.invariant.same_length, c.loop-rank.places.ok.0)

pub loop-rank-preserved : goal.loop-rank-preserved
loop-rank-preserved c =
    let sections = sections_of c.args.candidate.now in
    let others = sections_of c.args.first.now in
    let rank = c.loop-rank.rank in
    let children = c.args.candidate.now.children in
    let firsts = c.args.first.now.children in
    let child = c.index-in-loop-rank.result.now in
    let first = c.index.result.now in
    let lt : rank < length children.items = omega (arith, c.loop-rank-test.true, children.ok.0) in
    let there = child_read children.items rank child (length children.items) refl lt c.index-in-loop-rank.ensures in
    let first_there = child_read firsts.items rank first (length firsts.items) refl (omega (arith, lt, c.requires.as_many)) c.index.ensures in
    put_more sections others (rank + 1) c.args.places.now.items c.loop-rank.places.items (slice_set c.loop-rank.places.items child first) child first c.loop-rank.invariant
    (ap (slice_get sections) (add-one rank) ∙ there)
    (ap (slice_get others) (add-one rank) ∙ first_there)
    (c.requires.within (suc rank) child there) c.requires.distinct refl
