use Rattle.std.proofs.Common.{sym}
use Rattle.vg_shape.proofs.Lists.{apart}
use Rattle.vg_shape.proofs.types_of_values.are_of.Goals as goal

pub returns-then-types-values : goal.returns-then-types-values
returns-then-types-values c = sym (apart c.args.tables.now c.args.cells.now c.args.types.now c.args.values.now c.if-types-values.true)
