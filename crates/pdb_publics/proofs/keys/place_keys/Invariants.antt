use Rattle.pdb_publics.proofs.KeyLemmas.{PlaceKeyMade}
use Rattle.pdb_publics.proofs.keys.place_keys.Given as goal

abbrev pub invariant-loop-row : goal.invariant-loop-row
invariant-loop-row l = PlaceKeyMade l.rows l.row-index l.record l.keys.items
