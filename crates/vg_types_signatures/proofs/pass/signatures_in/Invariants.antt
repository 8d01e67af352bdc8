use Rattle.std.proofs.Common.{drop}
use Rattle.vg_types_classes.specs.Classes.{declarations_in}
use Rattle.vg_types_signatures.proofs.Declaring.{Declaring}
use Rattle.vg_types_signatures.proofs.pass.signatures_in.Given as goal

abbrev pub invariant-each : goal.invariant-each
invariant-each l = Declaring (declarations_in l.fn.names l.fn.nodes) l.fn.names l.nodes l.next (drop l.node-index l.nodes)
