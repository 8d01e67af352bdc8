use Rattle.vg_meaning_laws.proofs.Told.{depth_follows as followed}
use Rattle.vg_meaning_laws.proofs.history.depth_follows.Goals as goal

pub returns : goal.returns
returns c = followed
