use Rattle.std.proofs.Common.{List, sym, ap, ◌∙◌}
use Rattle.std.proofs.lemmas.List.{take_all}
use Rattle.pdb_publics.specs.declared.rows.PublicRow.{PublicRow}
use Rattle.pdb_publics.specs.PublicOrder.{extent}
use Rattle.pdb_publics.proofs.CallerLemmas.{length_records_stream}
use Rattle.pdb_file.proofs.sizes.records_len.Goals as goal

pub returns-clause-len : goal.returns-clause-len
returns-clause-len c =
    c.loop-row.invariant.sum
    ∙ ap (λ (rows : List PublicRow). extent rows) (take_all c.loop-row.row-index c.args.rows.now c.loop-row-test.false)
    ∙ sym (length_records_stream c.args.rows.now)
