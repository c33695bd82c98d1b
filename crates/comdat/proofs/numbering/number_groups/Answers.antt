use Rattle.std.proofs.Common.{Vec, ◌≡◌, ◌<◌, ◌+◌, ℕ, [], ◌∷◌, ◌++◌, List, length, sym, ap, subst, ◌∙◌, arith}
use Rattle.std.specs.declared.alloc.Global.{Global}
use Rattle.std.proofs.lemmas.List.{get_or_read}
use Rattle.comdat.specs.Entries.{no_entry}
use Rattle.comdat.specs.Numbering.{NO_GROUP}
use Rattle.comdat.proofs.NumberingLemmas.{Grouped, number_at, group_at, section_known, section_new, to_numbers}
use Rattle.comdat.proofs.numbering.number_groups.Goals as goal
use Rattle.comdat.proofs.numbering.number_groups.Goals.{then-index+in_ok-groups-2+in_ok-push, else-index}

pub loop-index-preserved : goal.loop-index-preserved
loop-index-preserved c =
    let entries = c.args.entries.now in
    let count = length c.args.names.now.keys in
    let done = c.loop-index.index in
    let groups = c.loop-index.groups.items in
    let numbers = c.loop-index.numbers.items in
    let firsts = c.loop-index.firsts.items in
    let before = c.loop-index.invariant in
    let name = number_at entries done in
    let in_count : name < count = c.requires done no_entry c.loop-index-test.true in
    let read : c.index.result.now ≡ group_at groups name =
    get_or_read groups name c.index.result.now (omega (arith, in_count, before.long)) c.index.ensures NO_GROUP in
    let noted : Grouped entries count (done + 1) c.if-index.groups.items (numbers ++ group_at c.if-index.groups.items name ∷ []) c.if-index.firsts.items =
    elim c.if-index.branch [
      | then-index+in_ok-groups-2+in_ok-push w ↦
          section_new entries count done w.in_ok-groups-2.field-0 groups c.if-index.groups.items numbers firsts c.if-index.firsts.items before
          (ap (λ (v : Vec ℕ Global). v.items) w.groups-is)
          (ap (λ (v : Vec ℕ Global). v.items) w.firsts-is ∙ w.in_ok-push.ensures.items)
          (omega (arith, w.in_ok-groups-2.ensures.number, w.len-then-index.ensures))
          w.in_ok-groups-2.ensures.below in_count
          (sym read ∙ w.if-index.true)
      | else-index w ↦
          section_known entries count done groups c.if-index.groups.items numbers firsts c.if-index.firsts.items before
          (ap (λ (v : Vec ℕ Global). v.items) w.groups-is)
          (ap (λ (v : Vec ℕ Global). v.items) w.firsts-is)
          (λ e. w.if-index.false (read ∙ e))
    ] in
    let given : c.index-in-loop-index.result.now ≡ group_at c.if-index.groups.items name =
    get_or_read c.if-index.groups.items name c.index-in-loop-index.result.now (omega (arith, in_count, noted.long)) c.index-in-loop-index.ensures NO_GROUP in
    subst (λ (ns : List ℕ). Grouped entries count (done + 1) c.if-index.groups.items ns c.if-index.firsts.items)
    (sym (c.in_ok-push-2.ensures.items ∙ ap (λ (n : ℕ). numbers ++ n ∷ []) given)) noted

pub returns : goal.returns
returns c = λ modules kept.
    to_numbers c.args.names.now.keys modules c.args.entries.now (length c.args.names.now.keys) c.loop-index.index c.loop-index.groups.items c.loop-index.numbers.items c.loop-index.firsts.items c.len.ensures.unique kept c.loop-index.invariant (omega arith)
