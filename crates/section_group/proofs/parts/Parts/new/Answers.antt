use Rattle.section_group.specs.Chains.{led_by}
use Rattle.indexmap.specs.IndexMap.{keys}
use Rattle.section_group.proofs.PartLemmas.{cuts_are}
use Rattle.section_group.proofs.parts.Parts.new.Goals as goal

pub invariant_of-result : goal.invariant_of-result
invariant_of-result c =
    let r = c.in_ok-renames.renames in
    record {
      few = c.requires.few;
      all_told = c.requires.all_told;
      cut = cuts_are c.args.pieces.now c.args.used.now c.args.merges.now (led_by (keys r.targets) r.ends.items) c.in_ok-cuts.cuts.items c.in_ok-cuts.numbers.items c.in_ok-cuts.ensures c.in_ok-renames.ensures.leads;
    }
