use Rattle.address_layout.proofs.Theorems.{one_image_size}
use Rattle.address_layout.proofs.laws.one_image_size.Goals as goal

pub returns : goal.returns
returns c = one_image_size
