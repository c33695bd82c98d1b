use Rattle.std.proofs.Common.{◌<◌, Bool, List, [], ◌∷◌, ◌++◌, ℕ, length, map, take, ap, sym, subst, ◌∙◌, arith}
use Rattle.std.proofs.lemmas.List.{get_or_default, length-map, map_more, take_all}
use Rattle.std.proofs.lemmas.Simd.{map-map}
use Rattle.comdat.specs.declared.entry.Entry.{Entry}
use Rattle.comdat.specs.Entries.{no_entry, entry_at, named_by}
use Rattle.comdat.specs.Groups.{is_selected}
use Rattle.comdat.proofs.FirstLemmas.{firsts_selected, any_accepted}
use Rattle.comdat.proofs.GroupLemmas.{winner_within, flag_is}
use Rattle.comdat.proofs.OrderLemmas.{if_some}
use Rattle.std.specs.Prelude.{is_some}
use Rattle.comdat.proofs.groups.select.Goals as goal

pub returns-in-Some-clause-selected : goal.returns-in-Some-clause-selected
returns-in-Some-clause-selected c =
    let modules = c.args.modules.now in
    let entries = c.args.entries.now in
    firsts_selected modules entries c.in-Some.flags.items (λ k d lt. (c.requires.kept k d lt).section) (sym c.in_ok-firsts.ensures.any ∙ ap is_some c.in-Some.is) c.requires.apart (if_some _ c.in-Some.is c.in_ok-firsts.ensures.firsts modules c.requires.kept)

pub returns-in-Some-clause-accepted : goal.returns-in-Some-clause-accepted
returns-in-Some-clause-accepted c =
    any_accepted c.args.modules.now c.args.entries.now (λ k d lt. (c.requires.kept k d lt).section) (sym c.in_ok-firsts.ensures.any ∙ ap is_some c.in-Some.is)

pub group_lists-requires : goal.group_lists-requires
group_lists-requires c = λ k d lt.
    let numbering = c.in_ok-numbering.numbering in
    let are = c.in_ok-numbering.ensures c.args.modules.now c.requires.kept in
    subst (λ (n : ℕ). n < length numbering.firsts.items) (sym (get_or_default numbering.numbers.items k d 0 lt)) (are.within k (omega (arith, lt, are.same_length)))

pub index-requires-in-loop-index : goal.index-requires-in-loop-index
index-requires-in-loop-index c =
    let modules = c.args.modules.now in
    let entries = c.args.entries.now in
    let numbering = c.in_ok-numbering.numbering in
    let within = winner_within (named_by modules entries) numbering.numbers.items numbering.firsts.items c.in_ok-winners.winners.items c.loop-index.index c.index.result.now (c.in_ok-numbering.ensures modules c.requires.kept) c.in_ok-winners.ensures.winners (omega (arith, c.loop-index-test.true, length-map entries (entry_at modules))) c.index.ensures in
    omega (arith, within, c.in_ok-winners.winners.ok.0)

pub bounds-entries-winner : goal.bounds-entries-winner
bounds-entries-winner c =
    let modules = c.args.modules.now in
    let entries = c.args.entries.now in
    let numbering = c.in_ok-numbering.numbering in
    let winner = c.index-in-loop-index.result.now in
    let within = winner_within (named_by modules entries) numbering.numbers.items numbering.firsts.items c.in_ok-winners.winners.items c.loop-index.index c.index.result.now (c.in_ok-numbering.ensures modules c.requires.kept) c.in_ok-winners.ensures.winners (omega (arith, c.loop-index-test.true, length-map entries (entry_at modules))) c.index.ensures in
    subst (λ (n : ℕ). n < length entries) (sym c.index-in-loop-index.ensures) (c.in_ok-winners.ensures.within c.index.result.now winner within)

pub loop-index-preserved : goal.loop-index-preserved
loop-index-preserved c =
    let modules = c.args.modules.now in
    let entries = c.args.entries.now in
    let named = named_by modules entries in
    let done = c.loop-index.index in
    let numbering = c.in_ok-numbering.numbering in
    let winners = c.in_ok-winners.winners.items in
    let winner = c.index-in-loop-index.result.now in
    let are = c.in_ok-numbering.ensures modules c.requires.kept in
    let within = winner_within named numbering.numbers.items numbering.firsts.items winners done c.index.result.now are c.in_ok-winners.ensures.winners (omega (arith, c.loop-index-test.true, length-map entries (entry_at modules))) c.index.ensures in
    let in_entries : winner < length entries = subst (λ (n : ℕ). n < length entries) (sym c.index-in-loop-index.ensures) (c.in_ok-winners.ensures.within c.index.result.now winner within) in
    let flag = flag_is modules entries numbering.numbers.items numbering.firsts.items winners done c.index.result.now winner c.is_same_section.result are c.in_ok-winners.ensures.winners c.loop-index-test.true in_entries c.index.ensures c.index-in-loop-index.ensures (c.is_same_section.ensures modules) in
    let test = λ (entry : Entry). is_selected named (entry_at modules entry) in
    c.in_ok-push.ensures.items
    ∙ ap (λ (flags : List Bool). flags ++ c.is_same_section.result ∷ []) c.loop-index.invariant
    ∙ ap (λ (b : Bool). map test (take done entries) ++ b ∷ []) flag
    ∙ sym (map_more test entries done no_entry c.loop-index-test.true)

pub returns-clause-selected : goal.returns-clause-selected
returns-clause-selected c =
    let modules = c.args.modules.now in
    let entries = c.args.entries.now in
    let test = is_selected (named_by modules entries) in
    c.loop-index.invariant
    ∙ ap (map (λ (entry : Entry). test (entry_at modules entry))) (take_all c.loop-index.index entries (omega arith))
    ∙ sym (map-map test (entry_at modules) entries)
