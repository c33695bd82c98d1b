use Rattle.std.proofs.Common.{Bool, ◌||◌, not, refl, sym, ap, ◌∙◌, arith}
use Rattle.std.proofs.Math.Bool.{or-true}
use Rattle.link_base.specs.Bytes.{all_below}
use Rattle.link_base.proofs.CallerLemmas.{all_below-more, all_below-fails}
use Rattle.lib_reader.specs.SecondDirectory.{has_member, second_count, second_counts_leave, second_table_leaves}
use Rattle.lib_reader.proofs.second_directory.second_table_leaves.Goals as goal

pub loop-index-init : goal.loop-index-init
unfolding all_below
loop-index-init c = refl

pub returns-then-not-has_member : goal.returns-then-not-has_member
unfolding second_table_leaves
returns-then-not-has_member c =
    let some = all_below-fails (second_count c.args.directory.now) c.loop-index.index (has_member c.args.directory.now) (omega (arith, c.second_count-index-end.ensures)) (sym c.has_member.ensures ∙ c.if-not-has_member.true) in
    sym (ap (λ (b : Bool). second_counts_leave c.args.directory.now || not b) some ∙ or-true (second_counts_leave c.args.directory.now))

pub loop-index-preserved : goal.loop-index-preserved
loop-index-preserved c =
    all_below-more c.loop-index.index (has_member c.args.directory.now) c.loop-index.invariant (sym c.has_member.ensures ∙ c.if-not-has_member.false)
