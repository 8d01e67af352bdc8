use Rattle.std.proofs.Common.{ap}
use Rattle.vg_tree.specs.Held.{row_at}
use Rattle.vg_types_homes.specs.Homes.{with_declarations}
use Rattle.vg_types_homes.proofs.pass.declared_homes.Goals as goal

pub declarations-init : goal.declarations-init
declarations-init c = (
  ap (with_declarations (row_at c.args.names.now c.args.declarations.now)) (c.no_homes-homes.ensures.view c.args.names.now c.args.types.now),
  c.no_homes-homes.ensures.sound c.args.names.now c.args.types.now,
)
