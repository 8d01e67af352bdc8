-- Nodes with parts, by these and their numbers.
use Rattle.std.specs.Prelude.{ℕ, Bool, true, false, List}
use Rattle.vg_syntax.specs.declared.kind.Kind.{Kind}
use Rattle.vg_syntax.specs.Tree.{Spot, TypeTree, Node, Then, Name, NewObject, NewArray, Unary, Chain, Part, TypePart, Postfix, Member, Index, Call}
use Rattle.vg_syntax.specs.Numbering.{with_id}

abbrev pub postfix_node : ℕ → Spot → Node → Node → Node
postfix_node id at primary suffixes = Postfix (with_id id at) primary suffixes

abbrev pub chain_node : ℕ → Spot → Node → Node → Node
chain_node id at first parts = Chain (with_id id at) first parts

abbrev pub index_node : ℕ → Spot → Node → Node
index_node id at index = Index (with_id id at) index

abbrev pub call_node : ℕ → Spot → Node → Node
call_node id at args = Call (with_id id at) args

abbrev pub part_node : ℕ → Spot → Kind → Node → Node
part_node id at k operand = Part (with_id id at) k operand

abbrev pub type_part_node : ℕ → Spot → Kind → TypeTree → Node
type_part_node id at k t = TypePart (with_id id at) k t

abbrev pub unary_node : ℕ → Spot → List Kind → Node → Node
unary_node id at ks operand = Unary (with_id id at) ks operand

abbrev pub new_object_node : ℕ → Spot → List ℕ → Node → Node
new_object_node id at c args = NewObject (with_id id at) c args

abbrev pub new_array_node : ℕ → Spot → TypeTree → Node → Node
new_array_node id at t size = NewArray (with_id id at) t size

-- A row begins with a Member suffix.
abbrev pub begins_with_member : Node → Bool
begins_with_member (Then (Member at x) rest) = true
begins_with_member _ = false

-- A node is a name.
abbrev pub is_name : Node → Bool
is_name (Name at x) = true
is_name _ = false
