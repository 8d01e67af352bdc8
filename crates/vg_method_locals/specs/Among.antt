-- Where locals stand.
use Rattle.std.specs.Prelude.{◌≡◌}
use Rattle.vg_syntax.specs.Tree.{Node, Nothing, Then, Arm, Text, ClassDecl, ComponentDecl, MethodDecl}
use Rattle.vg_syntax.specs.Tree.{Block, Local, If, While, For}
use Rattle.vg_source.specs.Nodes.{count_locals}

-- No local stands at or below a node.
abbrev pub HasNone : Node → Type 0
HasNone a = count_locals a ≡ 0

-- A row of pairs, each of a condition and a block.
abbrev pub IsArms : Node → Type 0
IsArms Nothing = Unit {0}
IsArms (Arm c block rest) = IsArms rest
IsArms _ = ⊥

-- In a body locals stand among statements alone: none is below an expression or in the head of a `for`. What an `if` asks are pairs of
-- a condition and a block. The grammar spells no other bodies.
abbrev pub LocalsAmongStatements : Node → Type 0
LocalsAmongStatements Nothing = Unit {0}
LocalsAmongStatements (Then a rest) = LocalsAmongStatements a × LocalsAmongStatements rest
LocalsAmongStatements (Arm c block rest) = HasNone c × LocalsAmongStatements block × LocalsAmongStatements rest
LocalsAmongStatements (Block at body) = LocalsAmongStatements body
LocalsAmongStatements (Local at x t e) = HasNone e
LocalsAmongStatements (If at arms otherwise) = IsArms arms × LocalsAmongStatements arms × LocalsAmongStatements otherwise
LocalsAmongStatements (While at c body) = HasNone c × LocalsAmongStatements body
LocalsAmongStatements (For at first c next body) = HasNone first × HasNone c × HasNone next × LocalsAmongStatements body
LocalsAmongStatements a = HasNone a

-- So it is in the body of each method of a text.
abbrev pub InMethods : Node → Type 0
InMethods (Then d rest) = InMethods d × InMethods rest
InMethods (Text at ds) = InMethods ds
InMethods (ClassDecl at c above members) = InMethods members
InMethods (ComponentDecl at c members) = InMethods members
InMethods (MethodDecl at x ps t body) = LocalsAmongStatements body
InMethods _ = Unit {0}
