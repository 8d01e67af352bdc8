use Rattle.vg_templates.proofs.Openings.{callers_begin, callers_resume}
use Rattle.vg_templates.proofs.calls.callers_wait.Goals as goal

pub returns-clause-begin : goal.returns-clause-begin
returns-clause-begin c = callers_begin

pub returns-clause-resume : goal.returns-clause-resume
returns-clause-resume c = callers_resume
