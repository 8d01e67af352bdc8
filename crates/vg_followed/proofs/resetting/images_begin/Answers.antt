use Rattle.vg_followed.proofs.FromReset.{begins}
use Rattle.vg_followed.proofs.resetting.images_begin.Goals as goal

pub returns : goal.returns
returns c = begins
