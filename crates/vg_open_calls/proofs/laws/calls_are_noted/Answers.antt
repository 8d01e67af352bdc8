use Rattle.vg_open_calls.proofs.Along.{runs_noted, runs_begun}
use Rattle.vg_open_calls.proofs.laws.calls_are_noted.Goals as goal

pub returns-clause-all : goal.returns-clause-all
returns-clause-all c = λ p ready unnamed j n reads interrupts le. runs_noted p ready unnamed j n reads interrupts le

pub returns-clause-first : goal.returns-clause-first
returns-clause-first c = λ p a ready first j n reads interrupts le. runs_begun p ready a first j n reads interrupts le
