use Rattle.vg_expand.proofs.Sessions.{followed}
use Rattle.vg_expand.proofs.runs.sessions_are_followed.Goals as goal

pub returns : goal.returns
returns c = followed
