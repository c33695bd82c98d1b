use Rattle.std.proofs.Common.{◌≡◌, ◌<◌, ℕ, Bool, List, Option, Some, None, refl, sym, ap, subst, ◌∙◌, length, get_or, arith}
use Rattle.std.specs.List.{All}
use Rattle.std.proofs.lemmas.List.{get_or_read}
use Rattle.symbol_table.specs.declared.link.Link.{Link}
use Rattle.symbol_table.specs.Links.{no_link, link_at, next_of, end_of}
use Rattle.symbol_table.proofs.ChainLemmas.{cycle, path_start, path_more, fewer_lead, IsBelow, path_walked, followed_ends, followed_stay, followed_below}
use Rattle.symbol_table.proofs.chains.follow.Goals as goal

-- what is read at a number
same_there : (links : List Link) (at : ℕ) (read : Link) (start : List Link) → at < length start → length links ≡ length start → read ≡ get_or links at read → read ≡ link_at links at
same_there links at read start within long e = get_or_read links at read (omega (arith, within, long)) e no_link

-- a link that leads nowhere
none_after : (links : List Link) (at : ℕ) (read : Link) (next : Option (ℕ × Bool)) → read ≡ link_at links at → next ≡ next_of read → ((number : ℕ × Bool) → next ≡ Some number → ⊥) → next_of (link_at links at) ≡ None
none_after links at read None same e never = ap next_of (sym same) ∙ sym e
none_after links at read (Some number) same e never = absurd (never number refl)

pub loop-next-init : goal.loop-next-init
loop-next-init c = path_start c.args.links.now.items c.clear.new.self.items c.args.number c.clear.ensures.items c.requires.within

pub index-requires : goal.index-requires
index-requires c = omega (arith, c.loop-next.invariant.within, c.loop-next.invariant.long, c.loop-next.links.ok.0)

pub index_mut-requires : goal.index_mut-requires
index_mut-requires c = omega (arith, c.loop-next.invariant.within, c.loop-next.invariant.long, c.loop-next.links.ok.0)

pub loop-next-smaller : goal.loop-next-smaller
loop-next-smaller c =
    let before = c.loop-next.invariant in
    let now = c.loop-next.links.items in
    let read = same_there now c.loop-next.at c.index.result.now c.args.links.now.items before.within before.long c.index.ensures in
    fewer_lead now c.loop-next.at (c.in-Some.next, c.in-Some.slot) cycle (omega (arith, before.within, before.long)) (ap next_of (sym read) ∙ sym c.in-Some.ensures)

pub loop-next-preserved : goal.loop-next-preserved
loop-next-preserved c =
    let before = c.loop-next.invariant in
    let now = c.loop-next.links.items in
    let read = same_there now c.loop-next.at c.index.result.now c.args.links.now.items before.within before.long c.index.ensures in
    path_more c.args.links.now.items now c.loop-next.path.items c.push.new.self.items c.args.number c.loop-next.at (c.in-Some.next, c.in-Some.slot) c.requires.below before (ap next_of (sym read) ∙ sym c.in-Some.ensures) c.in_ok-push.ensures.items

pub index-requires-2 : goal.index-requires-2
index-requires-2 c = omega (arith, c.loop-next.invariant.within, c.loop-next.invariant.long, c.loop-next.links.ok.0)

pub note_ends-requires-clause-long : goal.note_ends-requires-clause-long
note_ends-requires-clause-long c = c.loop-next.invariant.long ∙ c.requires.long

pub note_ends-requires-clause-within : goal.note_ends-requires-clause-within
note_ends-requires-clause-within c =
    subst (λ (n : ℕ). All (IsBelow n) c.loop-next.path.items) c.requires.long c.loop-next.invariant.all

pub returns-clause-long : goal.returns-clause-long
returns-clause-long c = c.note_ends.ensures.long ∙ c.loop-next.invariant.long

pub returns-clause-below : goal.returns-clause-below
returns-clause-below c =
    c.note_ends.ensures.below (length c.args.links.now.items)
    (followed_below c.args.links.now.items c.loop-next.links.items c.loop-next.path.items c.args.number c.loop-next.at c.requires.below c.loop-next.invariant)

pub returns-clause-known : goal.returns-clause-known
returns-clause-known c = λ view chosen known.
    let before = c.loop-next.invariant in
    let now = c.loop-next.links.items in
    let at = c.loop-next.at in
    let start = c.args.links.now.items in
    let read = same_there now at c.index.result.now start before.within before.long c.index.ensures in
    let again = same_there now at c.index-2.result.now start before.within before.long c.index-2.ensures in
    c.note_ends.ensures.known view chosen c.args.number
    (path_walked view chosen c.args.names.now.keys start now c.loop-next.path.items c.args.number at c.end_of-end.result known before (none_after now at c.index.result.now c.next_of.result read c.next_of.ensures c.in_default.not-Some) (c.end_of-end.ensures ∙ ap end_of again))

pub returns-clause-ended : goal.returns-clause-ended
returns-clause-ended c =
    let before = c.loop-next.invariant in
    let now = c.loop-next.links.items in
    let at = c.loop-next.at in
    let start = c.args.links.now.items in
    let read = same_there now at c.index.result.now start before.within before.long c.index.ensures in
    c.note_ends.ensures.ended c.args.number
    (followed_ends start now c.loop-next.path.items c.args.number at before (none_after now at c.index.result.now c.next_of.result read c.next_of.ensures c.in_default.not-Some))

pub returns-clause-stay : goal.returns-clause-stay
returns-clause-stay c = λ other none.
    c.note_ends.ensures.ended other
    (followed_stay c.args.links.now.items c.loop-next.links.items c.loop-next.path.items c.args.number c.loop-next.at c.loop-next.invariant other none)
