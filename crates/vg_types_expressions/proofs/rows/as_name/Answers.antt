use Rattle.vg_types_expressions.proofs.Sorts.{no_name}
use Rattle.vg_types_expressions.proofs.rows.as_name.Goals as goal

pub returns-in_default : goal.returns-in_default
returns-in_default c = record { some = tt; none = no_name c.args.node.now c.in_default.not-Name }
