use Rattle.vg_toy.proofs.OpenCalls.{opens_methods}
use Rattle.vg_toy.proofs.openings.calls_are_of_methods.Goals as goal

pub returns : goal.returns
returns c = opens_methods
