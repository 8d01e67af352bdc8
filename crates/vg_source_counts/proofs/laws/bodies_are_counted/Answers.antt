use Rattle.vg_source_counts.proofs.Bodies.{bodies}
use Rattle.vg_source_counts.proofs.laws.bodies_are_counted.Goals as goal

pub returns : goal.returns
returns c = bodies
