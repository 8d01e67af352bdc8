use Rattle.vg_templates.proofs.Arguments.{waits-pushed, arguments_fit}
use Rattle.vg_templates.proofs.calls.arguments_lie.Goals as goal

pub returns-clause-order : goal.returns-clause-order
returns-clause-order c = waits-pushed

pub returns-clause-fit : goal.returns-clause-fit
returns-clause-fit c = arguments_fit
