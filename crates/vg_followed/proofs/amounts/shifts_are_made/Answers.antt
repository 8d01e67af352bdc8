use Rattle.vg_followed.proofs.Shifting.{takes_shifts_left, takes_shifts_right}
use Rattle.vg_followed.proofs.CountingDown.{goes_shifts_left, goes_shifts_right}
use Rattle.vg_followed.proofs.amounts.shifts_are_made.Goals as goal

pub returns-clause-left : goal.returns-clause-left
returns-clause-left c = λ e i ok m frames. takes_shifts_left i ok m frames e ⊥

pub returns-clause-right : goal.returns-clause-right
returns-clause-right c = λ e i ok m frames. takes_shifts_right i ok m frames e ⊥

pub returns-clause-left_by : goal.returns-clause-left_by
returns-clause-left_by c = λ e i ok m frames. goes_shifts_left i ok m frames e ⊥

pub returns-clause-right_by : goal.returns-clause-right_by
returns-clause-right_by c = λ e i ok m frames. goes_shifts_right i ok m frames e ⊥
