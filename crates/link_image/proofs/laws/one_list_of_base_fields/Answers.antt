use Rattle.link_image.proofs.OnePlacement.{one_base_fields}
use Rattle.link_image.proofs.laws.one_list_of_base_fields.Goals as goal

pub returns : goal.returns
returns c = one_base_fields
