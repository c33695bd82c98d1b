use Rattle.std.proofs.Common.{◌≡◌, length, subst, arith}
use Rattle.indexmap.specs.IndexMap.{keys}
use Rattle.section_group.specs.Chains.{led_by}
use Rattle.section_group.specs.Steps.{AreNumbered}
use Rattle.section_group.proofs.PartLemmas.{numbered}
use Rattle.section_group.proofs.cut.cut_all.Goals as goal

pub returns : goal.returns
returns c =
    let lead = led_by (keys c.args.renames.now.targets) c.args.renames.now.ends.items in
    let all : c.loop-index.index ≡ length c.args.pieces.now = omega arith in
    subst (λ n. AreNumbered lead c.args.pieces.now n c.loop-index.cuts.items c.loop-index.numbers.items) all
    (numbered lead c.args.pieces.now c.loop-index.index c.loop-index.names.keys c.loop-index.cuts.items c.loop-index.numbers.items c.loop-index.invariant.named c.loop-index.invariant.cut)
