use Rattle.avr_view.proofs.Steps.{goes_does, goes_plain}
use Rattle.avr_view.proofs.plain.plain_instructions.Goals as goal

pub returns-clause-one : goal.returns-clause-one
returns-clause-one c = λ e. goes_does e ⊥

pub returns-clause-block : goal.returns-clause-block
returns-clause-block c = λ e. goes_plain e ⊥
