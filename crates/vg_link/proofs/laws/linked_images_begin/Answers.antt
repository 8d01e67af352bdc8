use Rattle.vg_link.proofs.Beginning.{image_begins}
use Rattle.vg_link.proofs.laws.linked_images_begin.Goals as goal

pub returns : goal.returns
returns c = image_begins
