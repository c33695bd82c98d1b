use Rattle.std.proofs.Common.{arith}
use Rattle.resource_files.proofs.FileLemmas.{file_fits}
use Rattle.resource_files.proofs.files.entry_count.Goals as goal

pub overflow_add-count : goal.overflow_add-count
overflow_add-count c = omega (arith, c.loop-item.invariant.counts.counted, (file_fits c.args.bytes.now).few, c.requires)

pub returns-clause-few : goal.returns-clause-few
returns-clause-few c = omega (arith, c.loop-item.invariant.counts.counted, (file_fits c.args.bytes.now).few, c.requires)
