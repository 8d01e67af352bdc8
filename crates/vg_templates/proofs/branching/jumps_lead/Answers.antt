use Rattle.vg_templates.proofs.Testing.{goes_jump_far, goes_jump_near}
use Rattle.vg_templates.proofs.branching.jumps_lead.Goals as goal

pub returns-clause-far : goal.returns-clause-far
returns-clause-far c = λ e i ok m frames. goes_jump_far i ok m frames e ⊥

pub returns-clause-near : goal.returns-clause-near
returns-clause-near c = λ e i ok m frames. goes_jump_near i ok m frames e ⊥
