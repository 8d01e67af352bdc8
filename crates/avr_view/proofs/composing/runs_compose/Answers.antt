use Rattle.avr_view.proofs.Going.{goes_then, goes_fewer}
use Rattle.avr_view.proofs.composing.runs_compose.Goals as goal

pub returns-clause-then : goal.returns-clause-then
returns-clause-then g c = λ e n m s. goes_then e _ n m s _ _

pub returns-clause-fewer : goal.returns-clause-fewer
returns-clause-fewer g c = λ e n m s. goes_fewer e _ n m s _
