use Rattle.vg_packed.proofs.StepsStanding.{all_packed}
use Rattle.vg_packed.proofs.step_laws.procedures_are_packed.Goals as goal

pub returns : goal.returns
returns c = λ p κ n x k live plain few is m q g b eq eg eb. all_packed p κ n x k plain few live is m q g b eq eg eb
