use Rattle.vg_meaning_laws.proofs.Safe.{same_shown}
use Rattle.vg_meaning_laws.proofs.safety.right_runs_agree.Goals as goal

pub returns : goal.returns
returns g c = λ a b h k. same_shown _ _ _ a b h k
