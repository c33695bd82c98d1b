use Rattle.std.proofs.Common.{arith}
use Rattle.std.proofs.lemmas.Map.Entries.{length-keys_of}
use Rattle.std.specs.Map.{keys_of}
use Rattle.section_group.proofs.PlaceLemmas.{past_all}
use Rattle.section_group.proofs.places.place_of.Goals as goal

pub returns-in-None : goal.returns-in-None
returns-in-None c =
    let entries = c.args.targets.now.entries in
    past_all (keys_of entries) c.args.name.now c.len.result (omega (arith, c.len.ensures.len, length-keys_of entries)) c.in-None.ensures.index
