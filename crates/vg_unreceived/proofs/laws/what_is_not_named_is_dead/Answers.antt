use Rattle.vg_unreceived.proofs.Unread.{dead}
use Rattle.vg_unreceived.proofs.laws.what_is_not_named_is_dead.Goals as goal

pub returns : goal.returns
returns c = dead
