use Rattle.std.proofs.Common.{◌≡◌, map, take}
use Rattle.std.specs.Prelude.{string_bytes}
use Rattle.link_rows.specs.Runs.{texts}
use Rattle.link_rows.proofs.world.owned_words.Given as goal

abbrev pub invariant-loop-word : goal.invariant-loop-word
invariant-loop-word l = map string_bytes l.owned.items ≡ texts (take l.word-index l.words)
