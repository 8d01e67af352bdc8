use Rattle.vg_front.proofs.Starts.{answered}
use Rattle.vg_front.proofs.starting.started.Goals as goal

pub returns-in-Ok : goal.returns-in-Ok
returns-in-Ok c = answered _ _ _ _ _ c.in-Ok.ensures.answer.0 c.in-Ok.ensures.answer.1 c.checked.ensures
