use Rattle.vg_templates.proofs.Calling.{goes_resume}
use Rattle.vg_templates.proofs.linkage.calls_return.Goals as goal

pub returns : goal.returns
returns c = λ e. goes_resume e ⊥
