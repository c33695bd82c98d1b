use Rattle.std.proofs.Common.{◌≡◌, fold, map, Some}
use Rattle.directives.specs.Attribute.{attribute_of}
use Rattle.directives.specs.Taken.{none_taken, also}
use Rattle.directives.proofs.attributes.attributes_of.Given as goal

abbrev pub invariant-loop-part : goal.invariant-loop-part
invariant-loop-part l = fold also (Some none_taken) (map attribute_of (map (λ part. part.now) l.yielded)) ≡ Some l.taken
