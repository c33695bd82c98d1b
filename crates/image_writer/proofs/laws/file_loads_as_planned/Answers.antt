use Rattle.image_writer.proofs.ImageTheorems.{file_means_plan}
use Rattle.image_writer.proofs.laws.file_loads_as_planned.Goals as goal

pub returns : goal.returns
returns c = file_means_plan
