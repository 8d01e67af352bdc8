use Rattle.std.proofs.Common.{drop}
use Rattle.vg_types_routines.proofs.Walking.{Going}
use Rattle.vg_types_routines.proofs.members.walk_row.Given as goal

abbrev pub invariant-each : goal.invariant-each
invariant-each l =
    Going l.fn.names l.fn.root l.fn.declared l.fn.owner l.fn.above l.fn.methods.items l.members l.fn.first l.next (drop l.member-index l.members) l.walked
