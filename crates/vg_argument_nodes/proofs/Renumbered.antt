-- Numbers of nodes are nothing to arguments.
use Rattle.std.proofs.Common.{ℕ, ◌+◌}
use Rattle.vg_syntax.specs.Tree.{Node, Nothing, Then, Arm, Text, ClassDecl, ComponentDecl, DeviceDecl, ProgramDecl, FieldDecl, MethodDecl}
use Rattle.vg_syntax.specs.Tree.{ConstructorDecl, Block, Local, If, While, For, Return, Assign, Eval, NewObject, NewArray, Unary, Chain, Part, Postfix}
use Rattle.vg_syntax.specs.Tree.{Index, Call}
use Rattle.vg_syntax.specs.Numbering.{count_nodes, numbered}
use Rattle.vg_argument_nodes.specs.Arguments.{IsNode, AreNodes, ArgumentsAreNodes}

node_so : (i : ℕ) (a : Node) → IsNode a → IsNode (numbered i a)
node_so i Nothing h = absurd h
node_so i (Then a b) h = absurd h
node_so i (Arm a b c) h = absurd h
node_so i _ h = tt

nodes_so : (i : ℕ) (a : Node) → AreNodes a → AreNodes (numbered i a)
nodes_so i (Then a b) (g, h) = (node_so i a g, nodes_so (i + count_nodes a) b h)
nodes_so i _ h = tt

pub same_arguments : (i : ℕ) (a : Node) → ArgumentsAreNodes a → ArgumentsAreNodes (numbered i a)
same_arguments i (Then a b) (g, h) = (same_arguments i a g, same_arguments (i + count_nodes a) b h)
same_arguments i (Arm a b c) (f, g, h) = (same_arguments i a f, same_arguments (i + count_nodes a) b g, same_arguments (i + count_nodes a + count_nodes b) c h)
same_arguments i (Text at a) h = same_arguments (i + 1) a h
same_arguments i (ClassDecl at n k a) h = same_arguments (i + 1) a h
same_arguments i (ComponentDecl at n a) h = same_arguments (i + 1) a h
same_arguments i (DeviceDecl at n a) h = same_arguments (i + 1) a h
same_arguments i (ProgramDecl at n a) h = same_arguments (i + 1) a h
same_arguments i (FieldDecl at n t a) h = same_arguments (i + 1) a h
same_arguments i (MethodDecl at n ps t a) h = same_arguments (i + 1) a h
same_arguments i (Block at a) h = same_arguments (i + 1) a h
same_arguments i (Local at n t a) h = same_arguments (i + 1) a h
same_arguments i (Return at a) h = same_arguments (i + 1) a h
same_arguments i (Eval at a) h = same_arguments (i + 1) a h
same_arguments i (NewObject at n a) h = same_arguments (i + 1) a h
same_arguments i (NewArray at t a) h = same_arguments (i + 1) a h
same_arguments i (Unary at ks a) h = same_arguments (i + 1) a h
same_arguments i (Part at k a) h = same_arguments (i + 1) a h
same_arguments i (Index at a) h = same_arguments (i + 1) a h
same_arguments i (Call at a) (g, h) = (nodes_so (i + 1) a g, same_arguments (i + 1) a h)
same_arguments i (ConstructorDecl at ps s a b) (g, h) = (same_arguments (i + 1) a g, same_arguments (i + 1 + count_nodes a) b h)
same_arguments i (If at a b) (g, h) = (same_arguments (i + 1) a g, same_arguments (i + 1 + count_nodes a) b h)
same_arguments i (While at a b) (g, h) = (same_arguments (i + 1) a g, same_arguments (i + 1 + count_nodes a) b h)
same_arguments i (Assign at a b) (g, h) = (same_arguments (i + 1) a g, same_arguments (i + 1 + count_nodes a) b h)
same_arguments i (Chain at a b) (g, h) = (same_arguments (i + 1) a g, same_arguments (i + 1 + count_nodes a) b h)
same_arguments i (Postfix at a b) (g, h) = (same_arguments (i + 1) a g, same_arguments (i + 1 + count_nodes a) b h)
same_arguments i (For at a b c d) (e, f, g, h) = (
  same_arguments (i + 1) a e,
  same_arguments (i + 1 + count_nodes a) b f,
  same_arguments (i + 1 + count_nodes a + count_nodes b) c g,
  same_arguments (i + 1 + count_nodes a + count_nodes b + count_nodes c) d h,
)
same_arguments i _ h = tt
