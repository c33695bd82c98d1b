use Rattle.pe_loader.proofs.OneImage.{one_image}
use Rattle.pe_loader.proofs.laws.one_file_loads_a_memory.Goals as goal

pub returns : goal.returns
returns c = one_image
