use Rattle.vg_source_weights.proofs.Bodies.{bodies}
use Rattle.vg_source_weights.proofs.laws.extras_within_nodes.Goals as goal

pub returns : goal.returns
returns c = bodies
