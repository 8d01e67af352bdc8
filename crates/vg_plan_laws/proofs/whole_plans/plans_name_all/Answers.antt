use Rattle.vg_plan_laws.proofs.Whole.{names_delegates, names_calls}
use Rattle.vg_plan_laws.proofs.whole_plans.plans_name_all.Goals as goal

pub returns-clause-delegates : goal.returns-clause-delegates
returns-clause-delegates c = names_delegates

pub returns-clause-calls : goal.returns-clause-calls
returns-clause-calls c = names_calls
