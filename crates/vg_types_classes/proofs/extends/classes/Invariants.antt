use Rattle.std.proofs.Common.{drop}
use Rattle.vg_types_classes.proofs.Asking.{Asking}
use Rattle.vg_types_classes.proofs.extends.classes.Given as goal

abbrev pub invariant-each : goal.invariant-each
invariant-each l = Asking l.fn.names l.nodes l.next (drop l.node-index l.nodes)
