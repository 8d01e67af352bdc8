use Rattle.vg_templates.proofs.Framing.{framed-layout, framed-parameters, framed-outlives}
use Rattle.vg_templates.proofs.layouts.layouts_hold_all_locals.Goals as goal

pub returns-clause-layout : goal.returns-clause-layout
returns-clause-layout c = framed-layout

pub returns-clause-parameters : goal.returns-clause-parameters
returns-clause-parameters c = framed-parameters

pub returns-clause-outlives : goal.returns-clause-outlives
returns-clause-outlives c = framed-outlives
