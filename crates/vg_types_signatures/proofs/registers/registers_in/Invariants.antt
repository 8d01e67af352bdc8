use Rattle.std.proofs.Common.{drop}
use Rattle.vg_types_signatures.proofs.Registering.{Registering}
use Rattle.vg_types_signatures.proofs.registers.registers_in.Given as goal

abbrev pub invariant-each : goal.invariant-each
invariant-each l = Registering l.fn.names l.nodes l.fn.first l.seen l.next (drop l.node-index l.nodes)
