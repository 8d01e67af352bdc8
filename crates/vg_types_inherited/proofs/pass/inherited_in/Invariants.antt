use Rattle.std.proofs.Common.{drop}
use Rattle.vg_types_tables.specs.Views.{declarations_at}
use Rattle.vg_types_inherited.proofs.Inheriting.{Inheriting}
use Rattle.vg_types_inherited.proofs.pass.inherited_in.Given as goal

abbrev pub invariant-each : goal.invariant-each
invariant-each l = Inheriting (declarations_at l.fn.names l.fn.root) l.fn.names l.nodes l.next (drop l.node-index l.nodes)
