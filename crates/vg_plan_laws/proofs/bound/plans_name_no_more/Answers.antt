use Rattle.vg_plan_laws.proofs.Bounded.{has_delegates, has_calls}
use Rattle.vg_plan_laws.proofs.bound.plans_name_no_more.Goals as goal

pub returns-clause-delegates : goal.returns-clause-delegates
returns-clause-delegates c = has_delegates

pub returns-clause-calls : goal.returns-clause-calls
returns-clause-calls c = has_calls
