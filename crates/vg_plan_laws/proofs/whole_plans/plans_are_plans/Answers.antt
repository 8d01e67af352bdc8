use Rattle.vg_plan_laws.proofs.Whole.{is_plan, dispatches_planned}
use Rattle.vg_plan_laws.proofs.whole_plans.plans_are_plans.Goals as goal

pub returns-clause-plan : goal.returns-clause-plan
returns-clause-plan c = is_plan

pub returns-clause-dispatches : goal.returns-clause-dispatches
returns-clause-dispatches c = dispatches_planned
