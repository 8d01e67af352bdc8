use Rattle.vg_hex.proofs.Again.{one_image}
use Rattle.vg_hex.proofs.laws.one_image.Goals as goal

pub returns : goal.returns
returns c = one_image
