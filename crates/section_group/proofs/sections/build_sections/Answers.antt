use Rattle.std.proofs.Common.{◌+◌, sym, subst}
use Rattle.section_group.specs.Gathering.{input_of}
use Rattle.section_group.specs.Sections.{AreBuilt}
use Rattle.section_group.proofs.OrderedLemmas.{built_more}
use Rattle.section_group.proofs.sections.build_sections.Goals as goal

pub loop-key-preserved : goal.loop-key-preserved
loop-key-preserved c =
    let input = input_of c.args.parts.now in
    let keys = c.deref-key-items.result.now in
    subst (AreBuilt input c.args.homes.now.keys c.args.members.now keys (c.loop-key.key-index + 1)) (sym c.in_ok-push.ensures.items)
    (built_more input c.args.homes.now.keys c.args.members.now keys c.loop-key.key-index c.loop-key.sections.items _ c.in_ok-build_section.field-0 c.loop-key.invariant c.loop-key-test.true c.in_ok-build_section.ensures)
