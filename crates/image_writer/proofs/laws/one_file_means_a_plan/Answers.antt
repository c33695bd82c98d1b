use Rattle.image_writer.proofs.OnePlan.{one_file}
use Rattle.image_writer.proofs.laws.one_file_means_a_plan.Goals as goal

pub returns : goal.returns
returns c = one_file
