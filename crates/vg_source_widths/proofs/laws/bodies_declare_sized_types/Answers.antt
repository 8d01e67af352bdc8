use Rattle.vg_source_widths.proofs.Bodies.{sized_body}
use Rattle.vg_source_widths.proofs.laws.bodies_declare_sized_types.Goals as goal

pub returns : goal.returns
returns c = λ ds k a ls e s w. sized_body ds k a ls e s w
