use Rattle.std.proofs.Common.{sym, ◌∙◌}
use Rattle.std.proofs.lemmas.Map.Entries.{length-keys_of}
use Rattle.indexmap.specs.IndexMap.{keys}
use Rattle.section_group.proofs.ChainLemmas.{led_at}
use Rattle.section_group.proofs.renames.Renames.target_and_end.Goals as goal

pub returns-clause-end : goal.returns-clause-end
returns-clause-end c =
    let s = c.args.self.now in
    led_at (keys s.targets) s.ends.items c.args.name.now c.index.result.now c.in_ok-at.at c.in_ok-at.ensures.index (s.same_length ∙ sym (length-keys_of s.targets.entries)) c.index.ensures
