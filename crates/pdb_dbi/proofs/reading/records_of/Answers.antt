use Rattle.pdb_dbi.proofs.ReadingLemmas.{one_read, all_read}
use Rattle.pdb_dbi.proofs.reading.records_of.Goals as goal

pub loop-index-preserved : goal.loop-index-preserved
loop-index-preserved c =
    one_read c.args.form c.args.part.now c.loop-index.index c.record_at.result c.loop-index.list.items c.push.new.self.items c.record_at.ensures c.loop-index.invariant c.in_ok-push.ensures.items

pub returns : goal.returns
returns c =
    all_read c.args.form c.args.part.now c.loop-index.index c.record_size.result c.loop-index.list.items c.record_size.ensures.size c.loop-index.auto.index-end c.loop-index-test.false c.loop-index.invariant
