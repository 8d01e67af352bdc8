-- The nodes of statements that have no statement in them, of this number and place.
use Rattle.std.specs.Prelude.{ℕ, List}
use Rattle.vg_syntax.specs.Tree.{Spot, TypeTree, Node, Local, Return, Assign, Eval}
use Rattle.vg_syntax.specs.Numbering.{with_id}

abbrev pub local_node : ℕ → Spot → List ℕ → TypeTree → Node → Node
local_node id at x t value = Local (with_id id at) x t value

abbrev pub return_node : ℕ → Spot → Node → Node
return_node id at value = Return (with_id id at) value

abbrev pub assign_node : ℕ → Spot → Node → Node → Node
assign_node id at target value = Assign (with_id id at) target value

abbrev pub eval_node : ℕ → Spot → Node → Node
eval_node id at value = Eval (with_id id at) value
