use Rattle.vg_templates.proofs.Returning.{goes_returns, goes_on}
use Rattle.vg_templates.proofs.results.results_come_back.Goals as goal

pub returns-clause-leave : goal.returns-clause-leave
returns-clause-leave c = λ e i ok. goes_returns i ok e ⊥

pub returns-clause-arrive : goal.returns-clause-arrive
returns-clause-arrive c = λ e i ok. goes_on i ok e ⊥
