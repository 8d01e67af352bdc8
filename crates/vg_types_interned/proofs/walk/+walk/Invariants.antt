use Rattle.std.proofs.Common.{◌≡◌}
use Rattle.vg_types_interned.proofs.walk.+walk.Given as goal

abbrev pub invariant-intern_nodes-nodes : goal.invariant-intern_nodes-nodes
invariant-intern_nodes-nodes l = l.types.classes ≡ l.fn.types.classes
