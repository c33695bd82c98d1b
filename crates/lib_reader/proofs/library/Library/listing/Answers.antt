use Rattle.std.proofs.Common.{◌≡◌, ap, sym, ◌∙◌, arith}
use Rattle.std.specs.List.{slice_get}
use Rattle.lib_reader.specs.LibraryWalk.{listing_of}
use Rattle.lib_reader.proofs.ListingLemmas.{drop_passed, drop_first, drop_none}
use Rattle.lib_reader.proofs.library.Library.listing.Goals as goal

pub loop-preserved : goal.loop-preserved
loop-preserved c =
    drop_passed c.loop.counter (listing_of c.args.self.now) c.loop.listings c.next.new.self c.next.result c.loop.invariant c.next.ensures.steps

pub returns-in-Some : goal.returns-in-Some
returns-in-Some c =
    let all = listing_of c.args.self.now in
    let place : c.loop.counter ≡ c.args.i = omega arith in
    ap (slice_get all) (sym place)
    ∙ drop_first c.loop.counter all c.in-Some.listing c.next-2.new.self (sym c.loop.invariant ∙ c.in-Some.ensures.steps)

pub returns-in-None : goal.returns-in-None
returns-in-None c =
    let all = listing_of c.args.self.now in
    absurd (omega (arith, c.requires, drop_none c.loop.counter all (sym c.loop.invariant ∙ c.in-None.ensures.steps.0)))
