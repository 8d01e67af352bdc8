-- Mirrors: what the code measures of a part of a tree. No clause of a public function cites them.
use Rattle.std.specs.Prelude.{ℕ, suc, ◌+◌, ◌≤◌, max}
use Rattle.vg_syntax.specs.Tree.{Node, Then, Arm, Text, ClassDecl, ComponentDecl, DeviceDecl, ProgramDecl, FieldDecl, MethodDecl, ConstructorDecl}
use Rattle.vg_syntax.specs.Tree.{Block, Local, If, While, For, Return, Assign, Eval, NewObject, NewArray, Unary, Chain, Part, Postfix, Index, Call}
use Rattle.vg_syntax.specs.Numbering.{count_nodes}
use Rattle.vg_rules.specs.Counts.{height}
use Rattle.vg_tree.specs.declared.node.Node as held
use Rattle.vg_types_counts.specs.declared.extent.Extent.{Extent}

-- the locals that are declared at and below a node, or in a row
abbrev pub locals_in : Node → ℕ
locals_in (Then a b) = locals_in a + locals_in b
locals_in (Arm a b c) = locals_in a + (locals_in b + locals_in c)
locals_in (Text at a) = locals_in a + 0
locals_in (ClassDecl at n k a) = locals_in a + 0
locals_in (ComponentDecl at n a) = locals_in a + 0
locals_in (DeviceDecl at n a) = locals_in a + 0
locals_in (ProgramDecl at n a) = locals_in a + 0
locals_in (FieldDecl at n t a) = locals_in a + 0
locals_in (MethodDecl at n ps t a) = locals_in a + 0
locals_in (ConstructorDecl at ps s a b) = locals_in a + (locals_in b + 0)
locals_in (Block at a) = locals_in a + 0
locals_in (Local at n t a) = suc (locals_in a + 0)
locals_in (If at a b) = locals_in a + (locals_in b + 0)
locals_in (While at a b) = locals_in a + (locals_in b + 0)
locals_in (For at a b c d) = locals_in a + (locals_in b + (locals_in c + (locals_in d + 0)))
locals_in (Return at a) = locals_in a + 0
locals_in (Assign at a b) = locals_in a + (locals_in b + 0)
locals_in (Eval at a) = locals_in a + 0
locals_in (NewObject at n a) = locals_in a + 0
locals_in (NewArray at t a) = locals_in a + 0
locals_in (Unary at ks a) = locals_in a + 0
locals_in (Chain at a b) = locals_in a + (locals_in b + 0)
locals_in (Part at k a) = locals_in a + 0
locals_in (Postfix at a b) = locals_in a + (locals_in b + 0)
locals_in (Index at a) = locals_in a + 0
locals_in (Call at a) = locals_in a + 0
locals_in _ = 0

-- 1 for a local
abbrev pub own_local : held.Node → ℕ
own_local (held.Local' place name type p e) = 1
own_local _ = 0

-- what is measured of a node or a row
abbrev pub measured : Node → Extent
measured a = record { nodes = count_nodes a; locals = locals_in a; height = height a }

-- of nothing
abbrev pub empty : Extent
empty = record { nodes = 0; locals = 0; height = 0 }

-- of two that stand beside one another
abbrev pub beside : Extent → Extent → Extent
beside a b = record { nodes = a.nodes + b.nodes; locals = a.locals + b.locals; height = max a.height b.height }

-- of a node around its children, which is so many locals itself
abbrev pub around : ℕ → Extent → Extent
around own a = record { nodes = 1 + a.nodes; locals = own + a.locals; height = suc a.height }

-- each local and each level has a node
pub record IsExtent (a : Extent) : Type 0 where
  pub locals : a.locals ≤ a.nodes
  pub height : a.height ≤ a.nodes
