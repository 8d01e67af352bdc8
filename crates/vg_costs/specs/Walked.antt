-- Mirrors: the costs as the code sums them up, of nodes that have no numbers yet. No clause of a public function cites them.
use Rattle.std.specs.Prelude.{ℕ, ◌+◌, ◌*◌, List, [], ◌∷◌, ◌++◌, length, Bool, true, false}
use Rattle.vg_syntax.specs.Tree.{Node, Then, ClassDecl, ComponentDecl, MethodDecl}
use Rattle.vg_syntax.specs.Numbering.{count_nodes}
use Rattle.vg_tree.specs.declared.node.Node as held
use Rattle.vg_types_counts.specs.Extents.{locals_in}

-- the cost of a method with so many parameters and this body
abbrev pub cost_with : ℕ → Node → ℕ
cost_with params body = 32 + 4 * (params + locals_in body + count_nodes body)

-- the cost of a member that is a method
abbrev pub declared_cost : Node → List ℕ
declared_cost (MethodDecl at n ps t body) = cost_with (length ps) body ∷ []
declared_cost _ = []

-- the costs of the methods among members
abbrev pub costs_of : Node → List ℕ
costs_of (Then m rest) = declared_cost m ++ costs_of rest
costs_of _ = []

-- those of a declaration
abbrev pub member_costs : Node → List ℕ
member_costs (ClassDecl at c above members) = costs_of members
member_costs (ComponentDecl at c members) = costs_of members
member_costs _ = []

-- those of declarations
abbrev pub costs_in : Node → List ℕ
costs_in (Then d rest) = member_costs d ++ costs_in rest
costs_in _ = []

-- whether a node is a method
abbrev pub is_method : held.Node → Bool
is_method (held.MethodDecl' place name params result p body) = true
is_method _ = false
