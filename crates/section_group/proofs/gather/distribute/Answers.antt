use Rattle.std.proofs.Common.{Vec, ℕ, ◌+◌, sym, subst}
use Rattle.std.specs.declared.alloc.Global.{Global}
use Rattle.section_group.specs.Gathering.{AreMembers}
use Rattle.section_group.proofs.GatherLemmas.{more_used, more_unused}
use Rattle.section_group.proofs.gather.distribute.Goals as goal
use Rattle.section_group.proofs.gather.distribute.Goals.{in-Some+in_ok-push, in_default}

pub loop-index-preserved : goal.loop-index-preserved
loop-index-preserved c =
    let numbers = c.args.numbers.now in
    let i = c.loop-index.index in
    let sections = c.args.sections in
    let members = c.loop-index.members.items in
    elim c.match-number.branch [
      | in-Some+in_ok-push w ↦
          subst (λ (v : Vec (Vec ℕ Global) Global). AreMembers numbers (i + 1) sections v.items) (sym w.members-is)
          (more_used numbers i sections w.in-Some.number members w.index_mut.result.now w.push.new.self c.loop-index.invariant w.in-Some.is (c.requires.within i w.in-Some.number w.in-Some.is) w.index_mut.ensures.value w.in_ok-push.ensures.items)
      | in_default w ↦
          subst (λ (v : Vec (Vec ℕ Global) Global). AreMembers numbers (i + 1) sections v.items) (sym w.members-is)
          (more_unused numbers i sections members c.loop-index.invariant w.in_default.is)
    ]
