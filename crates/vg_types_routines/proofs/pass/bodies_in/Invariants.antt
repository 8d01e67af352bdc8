use Rattle.std.proofs.Common.{drop}
use Rattle.vg_types_routines.proofs.Gathering.{Gathering}
use Rattle.vg_types_routines.proofs.pass.bodies_in.Given as goal

abbrev pub invariant-each : goal.invariant-each
invariant-each l = Gathering l.fn.names l.fn.root l.fn.declared l.nodes l.next (drop l.node-index l.nodes) l.bodies
