use Rattle.std.proofs.Common.{◌+◌, length, sym, subst}
use Rattle.section_group.specs.Places.{LeadsFar}
use Rattle.section_group.proofs.PlaceLemmas.{follows_made}
use Rattle.section_group.proofs.renames.follow.Goals as goal

pub returns : goal.returns
returns c =
    let given = c.args.merges.now in
    let entries = c.in_ok-targets.targets.entries in
    let targets = c.in_ok-targets.ensures in
    follows_made given entries c.deref.result.now c.new.result c.new.ensures.targets c.new.ensures.ends targets
    (subst (LeadsFar given entries (length given + 5)) (sym c.deref.ensures.value) (c.in_ok-lasts.ensures.leads given targets))
