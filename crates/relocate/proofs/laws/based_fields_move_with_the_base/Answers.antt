use Rattle.relocate.proofs.MovedLemmas.{field_moved, byte_stays}
use Rattle.relocate.proofs.laws.based_fields_move_with_the_base.Goals as goal

pub returns-clause-moved : goal.returns-clause-moved
returns-clause-moved c = field_moved

pub returns-clause-elsewhere : goal.returns-clause-elsewhere
returns-clause-elsewhere c = byte_stays
