-- Numbers of nodes are nothing to arms.
use Rattle.std.proofs.Common.{ℕ, ◌+◌}
use Rattle.vg_syntax.specs.Tree.{Node, Then, Arm, Text, ClassDecl, ComponentDecl, DeviceDecl, ProgramDecl, FieldDecl, MethodDecl}
use Rattle.vg_syntax.specs.Tree.{ConstructorDecl, Block, Local, If, While, For, Return, Assign, Eval, NewObject, NewArray, Unary, Chain, Part, Postfix}
use Rattle.vg_syntax.specs.Tree.{Index, Call}
use Rattle.vg_syntax.specs.Numbering.{count_nodes, numbered}
use Rattle.vg_source_sizes.specs.Arms.{IsBlock, ArmsHaveBlocks}

block_so : (i : ℕ) (a : Node) → IsBlock a → IsBlock (numbered i a)
block_so i (Block at a) h = tt
block_so i _ h = absurd h

pub same_arms : (i : ℕ) (a : Node) → ArmsHaveBlocks a → ArmsHaveBlocks (numbered i a)
same_arms i (Then a b) (g, h) = (same_arms i a g, same_arms (i + count_nodes a) b h)
same_arms i (Arm a b c) (f, (e, g), h) =
    (same_arms i a f, (block_so (i + count_nodes a) b e, same_arms (i + count_nodes a) b g), same_arms (i + count_nodes a + count_nodes b) c h)
same_arms i (Text at a) h = same_arms (i + 1) a h
same_arms i (ClassDecl at n k a) h = same_arms (i + 1) a h
same_arms i (ComponentDecl at n a) h = same_arms (i + 1) a h
same_arms i (DeviceDecl at n a) h = same_arms (i + 1) a h
same_arms i (ProgramDecl at n a) h = same_arms (i + 1) a h
same_arms i (FieldDecl at n t a) h = same_arms (i + 1) a h
same_arms i (MethodDecl at n ps t a) h = same_arms (i + 1) a h
same_arms i (Block at a) h = same_arms (i + 1) a h
same_arms i (Local at n t a) h = same_arms (i + 1) a h
same_arms i (Return at a) h = same_arms (i + 1) a h
same_arms i (Eval at a) h = same_arms (i + 1) a h
same_arms i (NewObject at n a) h = same_arms (i + 1) a h
same_arms i (NewArray at t a) h = same_arms (i + 1) a h
same_arms i (Unary at ks a) h = same_arms (i + 1) a h
same_arms i (Part at k a) h = same_arms (i + 1) a h
same_arms i (Index at a) h = same_arms (i + 1) a h
same_arms i (Call at a) h = same_arms (i + 1) a h
same_arms i (ConstructorDecl at ps s a b) (g, h) = (same_arms (i + 1) a g, same_arms (i + 1 + count_nodes a) b h)
same_arms i (If at a b) (g, h) = (same_arms (i + 1) a g, same_arms (i + 1 + count_nodes a) b h)
same_arms i (While at a b) (g, h) = (same_arms (i + 1) a g, same_arms (i + 1 + count_nodes a) b h)
same_arms i (Assign at a b) (g, h) = (same_arms (i + 1) a g, same_arms (i + 1 + count_nodes a) b h)
same_arms i (Chain at a b) (g, h) = (same_arms (i + 1) a g, same_arms (i + 1 + count_nodes a) b h)
same_arms i (Postfix at a b) (g, h) = (same_arms (i + 1) a g, same_arms (i + 1 + count_nodes a) b h)
same_arms i (For at a b c d) (e, f, g, h) = (
  same_arms (i + 1) a e,
  same_arms (i + 1 + count_nodes a) b f,
  same_arms (i + 1 + count_nodes a + count_nodes b) c g,
  same_arms (i + 1 + count_nodes a + count_nodes b + count_nodes c) d h,
)
same_arms i _ h = tt
