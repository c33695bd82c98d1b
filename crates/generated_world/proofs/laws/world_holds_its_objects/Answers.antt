use Rattle.generated_world.proofs.WorldLemmas.{objects_held, others_lacked}
use Rattle.generated_world.proofs.laws.world_holds_its_objects.Goals as goal

pub returns-clause-objects : goal.returns-clause-objects
returns-clause-objects c = objects_held

pub returns-clause-alone : goal.returns-clause-alone
returns-clause-alone c = others_lacked
