-- The arguments of calls, as the grammar spells them.
use Rattle.vg_syntax.specs.Tree.{Node, Nothing, Then, Arm, Text, ClassDecl, ComponentDecl, DeviceDecl, ProgramDecl, FieldDecl, MethodDecl, ConstructorDecl}
use Rattle.vg_syntax.specs.Tree.{Block, Local, If, While, For, Return, Assign, Eval, NewObject, NewArray, Unary, Chain, Part, Postfix, Index, Call}

-- It is a node, and no row.
abbrev pub IsNode : Node → Type 0
IsNode Nothing = ⊥
IsNode (Then a b) = ⊥
IsNode (Arm c block rest) = ⊥
IsNode _ = Unit {0}

abbrev pub AreNodes : Node → Type 0
AreNodes (Then a rest) = IsNode a × AreNodes rest
AreNodes _ = Unit {0}

-- At and below a node or in a row, each argument of a call is a node.
abbrev pub ArgumentsAreNodes : Node → Type 0
ArgumentsAreNodes (Then a b) = ArgumentsAreNodes a × ArgumentsAreNodes b
ArgumentsAreNodes (Arm c block rest) = ArgumentsAreNodes c × ArgumentsAreNodes block × ArgumentsAreNodes rest
ArgumentsAreNodes (Text at a) = ArgumentsAreNodes a
ArgumentsAreNodes (ClassDecl at n k a) = ArgumentsAreNodes a
ArgumentsAreNodes (ComponentDecl at n a) = ArgumentsAreNodes a
ArgumentsAreNodes (DeviceDecl at n a) = ArgumentsAreNodes a
ArgumentsAreNodes (ProgramDecl at n a) = ArgumentsAreNodes a
ArgumentsAreNodes (FieldDecl at n t a) = ArgumentsAreNodes a
ArgumentsAreNodes (MethodDecl at n ps t a) = ArgumentsAreNodes a
ArgumentsAreNodes (ConstructorDecl at ps s a b) = ArgumentsAreNodes a × ArgumentsAreNodes b
ArgumentsAreNodes (Block at a) = ArgumentsAreNodes a
ArgumentsAreNodes (Local at n t a) = ArgumentsAreNodes a
ArgumentsAreNodes (If at a b) = ArgumentsAreNodes a × ArgumentsAreNodes b
ArgumentsAreNodes (While at a b) = ArgumentsAreNodes a × ArgumentsAreNodes b
ArgumentsAreNodes (For at a b c d) = ArgumentsAreNodes a × ArgumentsAreNodes b × ArgumentsAreNodes c × ArgumentsAreNodes d
ArgumentsAreNodes (Return at a) = ArgumentsAreNodes a
ArgumentsAreNodes (Assign at a b) = ArgumentsAreNodes a × ArgumentsAreNodes b
ArgumentsAreNodes (Eval at a) = ArgumentsAreNodes a
ArgumentsAreNodes (NewObject at n a) = ArgumentsAreNodes a
ArgumentsAreNodes (NewArray at t a) = ArgumentsAreNodes a
ArgumentsAreNodes (Unary at ks a) = ArgumentsAreNodes a
ArgumentsAreNodes (Chain at a b) = ArgumentsAreNodes a × ArgumentsAreNodes b
ArgumentsAreNodes (Part at k a) = ArgumentsAreNodes a
ArgumentsAreNodes (Postfix at a b) = ArgumentsAreNodes a × ArgumentsAreNodes b
ArgumentsAreNodes (Index at a) = ArgumentsAreNodes a
ArgumentsAreNodes (Call at a) = AreNodes a × ArgumentsAreNodes a
ArgumentsAreNodes _ = Unit {0}
