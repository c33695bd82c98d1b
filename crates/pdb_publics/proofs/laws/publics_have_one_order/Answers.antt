use Rattle.pdb_publics.proofs.KeyLemmas.{rows_one_order, hash_keys_one_order, place_keys_one_order}
use Rattle.pdb_publics.proofs.laws.publics_have_one_order.Goals as goal

pub returns-clause-records : goal.returns-clause-records
returns-clause-records c = rows_one_order

pub returns-clause-hash_part : goal.returns-clause-hash_part
returns-clause-hash_part c = hash_keys_one_order

pub returns-clause-address_map : goal.returns-clause-address_map
returns-clause-address_map c = place_keys_one_order
