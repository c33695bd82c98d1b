use Rattle.pdb_publics.proofs.KeyLemmas.{HashKeyMade}
use Rattle.pdb_publics.proofs.keys.hash_keys.Given as goal

abbrev pub invariant-loop-row : goal.invariant-loop-row
invariant-loop-row l = HashKeyMade l.rows l.row-index l.record l.rest l.keys.items
