use Rattle.std.proofs.Common.{◌≡◌, fold, map, Some, None}
use Rattle.link_words.specs.Values.{opt_item}
use Rattle.link_words.proofs.OptLemmas.{more_opts}
use Rattle.link_words.proofs.values.opts.Given as goal

abbrev pub invariant-loop-part : goal.invariant-loop-part
invariant-loop-part l = fold more_opts (Some (None, None)) (map opt_item (map (λ part. part.now) l.yielded)) ≡ Some (l.refs, l.icf)
