use Rattle.vg_types.proofs.Alike.{sessions}
use Rattle.vg_types.proofs.laws.sessions_alike.Goals as goal

pub returns : goal.returns
returns c = sessions
