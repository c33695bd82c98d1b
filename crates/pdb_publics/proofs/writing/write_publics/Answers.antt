use Rattle.std.proofs.Common.{◌∙◌}
use Rattle.pdb_publics.proofs.StreamLemmas.{extent_fits, keys_fit, keys_are_few, names_fit}
use Rattle.pdb_publics.proofs.writing.write_publics.Goals as goal

pub by_hash-requires-clause-small : goal.by_hash-requires-clause-small
by_hash-requires-clause-small c = extent_fits c.args.rows.now c.deref-2.result.now (c.deref-2.ensures.value ∙ c.in_ok-rows.ensures) c.requires.records

pub by_place-requires : goal.by_place-requires
by_place-requires c = extent_fits c.args.rows.now c.deref-4.result.now (c.deref-4.ensures.value ∙ c.in_ok-rows.ensures) c.requires.records

pub publics-requires-clause-keys : goal.publics-requires-clause-keys
publics-requires-clause-keys c =
    keys_fit c.deref-2.result.now c.deref-5.result.now (c.deref-5.ensures.value ∙ c.in_ok-hashed.ensures)
    (extent_fits c.args.rows.now c.deref-2.result.now (c.deref-2.ensures.value ∙ c.in_ok-rows.ensures) c.requires.records)

pub publics-requires-clause-few : goal.publics-requires-clause-few
publics-requires-clause-few c =
    keys_are_few c.deref-2.result.now c.deref-5.result.now (c.deref-5.ensures.value ∙ c.in_ok-hashed.ensures)
    (extent_fits c.args.rows.now c.deref-2.result.now (c.deref-2.ensures.value ∙ c.in_ok-rows.ensures) c.requires.records)

pub records-requires : goal.records-requires
records-requires c = names_fit c.args.rows.now c.deref-7.result.now (c.deref-7.ensures.value ∙ c.in_ok-rows.ensures) c.requires.names
