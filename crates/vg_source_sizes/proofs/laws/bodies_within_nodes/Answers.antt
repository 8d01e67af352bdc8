use Rattle.vg_source_sizes.proofs.Bodies.{bodies}
use Rattle.vg_source_sizes.proofs.laws.bodies_within_nodes.Goals as goal

pub returns : goal.returns
returns c = bodies
