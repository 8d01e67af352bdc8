use Rattle.vg_packed.proofs.Asked.{is_asked}
use Rattle.vg_packed.proofs.case_laws.live_steps_are_asked.Goals as goal

pub returns : goal.returns
returns c = λ p live m i s a l e q. is_asked p live m i s a l e q
