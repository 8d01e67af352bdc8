use Rattle.std.proofs.Common.{drop}
use Rattle.vg_types_names.proofs.Passing.{Passing}
use Rattle.vg_types_names.proofs.pass.named_in.Given as goal

abbrev pub invariant-each : goal.invariant-each
invariant-each l = Passing l.fn.names l.nodes l.map l.counts l.next (drop l.node-index l.nodes)
