use Rattle.vg_types_declared.proofs.Dispatching.{dispatches}
use Rattle.vg_types_declared.proofs.laws.dispatch_agrees.Goals as goal

pub returns : goal.returns
returns c = dispatches
