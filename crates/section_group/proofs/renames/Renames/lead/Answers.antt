use Rattle.std.proofs.Common.{sym, ◌∙◌}
use Rattle.std.proofs.lemmas.Map.Entries.{length-keys_of}
use Rattle.indexmap.specs.IndexMap.{keys}
use Rattle.section_group.proofs.ChainLemmas.{led_at, led_none}
use Rattle.section_group.proofs.renames.Renames.lead.Goals as goal

pub returns-in-Some : goal.returns-in-Some
returns-in-Some c =
    let s = c.args.self.now in
    c.again.ensures ∙ led_at (keys s.targets) s.ends.items c.args.name.now c.index.result.now c.in-Some.at c.in-Some.ensures.index (s.same_length ∙ sym (length-keys_of s.targets.entries)) c.index.ensures

pub returns-in-None : goal.returns-in-None
returns-in-None c =
    let s = c.args.self.now in
    c.again-in-None.ensures ∙ led_none (keys s.targets) s.ends.items c.args.name.now c.in-None.ensures.index (s.same_length ∙ sym (length-keys_of s.targets.entries))
