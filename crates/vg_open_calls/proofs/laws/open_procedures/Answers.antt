use Rattle.vg_open_calls.proofs.Along.{runs_open}
use Rattle.vg_open_calls.proofs.laws.open_procedures.Goals as goal

pub returns : goal.returns
returns c = λ p ready n reads interrupts. runs_open p ready n reads interrupts
