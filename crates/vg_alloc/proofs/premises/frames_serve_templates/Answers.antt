use Rattle.vg_templates.proofs.Framing.{framed-layout, framed-parameters, framed-outlives}
use Rattle.vg_alloc.proofs.Spotting.{can_be_framed}
use Rattle.vg_alloc.proofs.premises.frames_serve_templates.Goals as goal

pub returns-clause-layout : goal.returns-clause-layout
returns-clause-layout c = λ p s. framed-layout p (can_be_framed p s)

pub returns-clause-parameters : goal.returns-clause-parameters
returns-clause-parameters c = λ p s. framed-parameters p (can_be_framed p s)

pub returns-clause-outlives : goal.returns-clause-outlives
returns-clause-outlives c = λ p s. framed-outlives p (can_be_framed p s)
