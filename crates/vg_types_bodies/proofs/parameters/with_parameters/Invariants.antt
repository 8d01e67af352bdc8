use Rattle.std.proofs.Common.{drop}
use Rattle.vg_types_bodies.specs.Parameters.{params_at}
use Rattle.vg_types_bodies.proofs.InScope.{Passing}
use Rattle.vg_types_bodies.proofs.parameters.with_parameters.Given as goal

abbrev pub invariant-each : goal.invariant-each
invariant-each l =
    Passing l.fn.names l.fn.declared (params_at l.fn.names l.params) l.locals (params_at l.fn.names (drop l.param-index l.params))
