use Rattle.vg_templates.proofs.Testing.{goes_branch_near, goes_branch_far}
use Rattle.vg_templates.proofs.branching.branches_lead.Goals as goal

pub returns-clause-near : goal.returns-clause-near
returns-clause-near c = λ e i ok m frames. goes_branch_near i ok m frames e ⊥

pub returns-clause-far : goal.returns-clause-far
returns-clause-far c = λ e i ok m frames. goes_branch_far i ok m frames e ⊥
