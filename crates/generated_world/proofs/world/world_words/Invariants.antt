use Rattle.std.proofs.Common.{◌≡◌, ◌∷◌, map}
use Rattle.std.specs.Prelude.{codes, string_bytes}
use Rattle.std.specs.List.{range_with_len}
use Rattle.generated_world.specs.GeneratedObject.{object_name}
use Rattle.generated_world.proofs.world.world_words.Given as goal

abbrev pub invariant-loop-index : goal.invariant-loop-index
invariant-loop-index l = map string_bytes l.words.items ≡ codes "link" ∷ map object_name (range_with_len 0 l.index)
