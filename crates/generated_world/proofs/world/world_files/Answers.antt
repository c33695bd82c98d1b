use Rattle.std.proofs.Common.{sym, ◌∙◌, arith}
use Rattle.generated_world.proofs.WorldLemmas.{no_file_yet, file_added, all_files}
use Rattle.generated_world.proofs.world.world_files.Goals as goal

pub loop-index-init : goal.loop-index-init
loop-index-init c = c.new-files.ensures ∙ sym (no_file_yet c.args.count)

pub loop-index-preserved : goal.loop-index-preserved
loop-index-preserved c =
    file_added c.args.count c.loop-index.index c.loop-index.files c.add.new.self c.as_str.result.now c.deref.result.now
    c.loop-index.invariant c.in_ok-add.ensures.ok (c.as_str.ensures.value ∙ c.in_ok-name.ensures) (c.deref.ensures.value ∙ c.in_ok-object.ensures)

pub returns : goal.returns
returns c =
    all_files c.args.count c.loop-index.index c.loop-index.files (omega (arith, c.loop-index-test.false, c.loop-index.auto.index-end)) c.loop-index.invariant
