-- The arms of an `if`, as the grammar spells them.
use Rattle.vg_syntax.specs.Tree.{Node, Then, Arm, Text, ClassDecl, ComponentDecl, DeviceDecl, ProgramDecl, FieldDecl, MethodDecl, ConstructorDecl}
use Rattle.vg_syntax.specs.Tree.{Block, Local, If, While, For, Return, Assign, Eval, NewObject, NewArray, Unary, Chain, Part, Postfix, Index, Call}

abbrev pub IsBlock : Node → Type 0
IsBlock (Block at body) = Unit {0}
IsBlock _ = ⊥

-- At and below a node or in a row, what is done where a condition of an `if` holds is a block.
abbrev pub ArmsHaveBlocks : Node → Type 0
ArmsHaveBlocks (Then a b) = ArmsHaveBlocks a × ArmsHaveBlocks b
ArmsHaveBlocks (Arm c block rest) = ArmsHaveBlocks c × (IsBlock block × ArmsHaveBlocks block) × ArmsHaveBlocks rest
ArmsHaveBlocks (Text at a) = ArmsHaveBlocks a
ArmsHaveBlocks (ClassDecl at n k a) = ArmsHaveBlocks a
ArmsHaveBlocks (ComponentDecl at n a) = ArmsHaveBlocks a
ArmsHaveBlocks (DeviceDecl at n a) = ArmsHaveBlocks a
ArmsHaveBlocks (ProgramDecl at n a) = ArmsHaveBlocks a
ArmsHaveBlocks (FieldDecl at n t a) = ArmsHaveBlocks a
ArmsHaveBlocks (MethodDecl at n ps t a) = ArmsHaveBlocks a
ArmsHaveBlocks (ConstructorDecl at ps s a b) = ArmsHaveBlocks a × ArmsHaveBlocks b
ArmsHaveBlocks (Block at a) = ArmsHaveBlocks a
ArmsHaveBlocks (Local at n t a) = ArmsHaveBlocks a
ArmsHaveBlocks (If at a b) = ArmsHaveBlocks a × ArmsHaveBlocks b
ArmsHaveBlocks (While at a b) = ArmsHaveBlocks a × ArmsHaveBlocks b
ArmsHaveBlocks (For at a b c d) = ArmsHaveBlocks a × ArmsHaveBlocks b × ArmsHaveBlocks c × ArmsHaveBlocks d
ArmsHaveBlocks (Return at a) = ArmsHaveBlocks a
ArmsHaveBlocks (Assign at a b) = ArmsHaveBlocks a × ArmsHaveBlocks b
ArmsHaveBlocks (Eval at a) = ArmsHaveBlocks a
ArmsHaveBlocks (NewObject at n a) = ArmsHaveBlocks a
ArmsHaveBlocks (NewArray at t a) = ArmsHaveBlocks a
ArmsHaveBlocks (Unary at ks a) = ArmsHaveBlocks a
ArmsHaveBlocks (Chain at a b) = ArmsHaveBlocks a × ArmsHaveBlocks b
ArmsHaveBlocks (Part at k a) = ArmsHaveBlocks a
ArmsHaveBlocks (Postfix at a b) = ArmsHaveBlocks a × ArmsHaveBlocks b
ArmsHaveBlocks (Index at a) = ArmsHaveBlocks a
ArmsHaveBlocks (Call at a) = ArmsHaveBlocks a
ArmsHaveBlocks _ = Unit {0}
