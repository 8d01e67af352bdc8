use Rattle.vg_open_costs.proofs.Costing.{opening_takes, costs, takes_within}
use Rattle.vg_open_costs.proofs.laws.open_procedures_cost.Goals as goal

pub returns-clause-first : goal.returns-clause-first
returns-clause-first c = λ p extra cs ready fit before. opening_takes p ready before extra cs fit

pub returns-clause-steps : goal.returns-clause-steps
returns-clause-steps c = λ p extra cs ready fit before divided j n reads interrupts less unpushed legal.
    costs p ready before divided extra cs fit reads interrupts j n less unpushed legal

pub returns-clause-frames : goal.returns-clause-frames
returns-clause-frames c = λ p frames below above ready within before divided j n reads interrupts less unpushed legal.
    takes_within p ready before divided reads interrupts frames below above within n unpushed legal j less
