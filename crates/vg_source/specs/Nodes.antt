-- The nodes of a tree, in preorder.
use Rattle.std.specs.Prelude.{ℕ, ◌+◌, ◌==◌, List, [], ◌∷◌, ◌++◌, length, flat_map, if◌then◌else◌}
use Rattle.vg_syntax.specs.Tree.{Node, Nothing, Then, Arm, Text, ClassDecl, ComponentDecl, DeviceDecl, ProgramDecl, FieldDecl, MethodDecl, ConstructorDecl}
use Rattle.vg_syntax.specs.Tree.{Block, Local, If, While, For, Return, Assign, Eval, StringLit, NewObject, NewArray, Unary, Chain, Part, Postfix, Index}
use Rattle.vg_syntax.specs.Tree.{Call}
use Rattle.vg_source.specs.Literals.{bytes_of}

-- The children of a node, or the nodes of a row, and all nodes below them.
abbrev pub nodes : Node → List Node
nodes Nothing = []
nodes (Then a b) = nodes a ++ nodes b
nodes (Arm a b c) = nodes a ++ nodes b ++ nodes c
nodes (Text at a) = Text at a ∷ nodes a
nodes (ClassDecl at n k a) = ClassDecl at n k a ∷ nodes a
nodes (ComponentDecl at n a) = ComponentDecl at n a ∷ nodes a
nodes (DeviceDecl at n a) = DeviceDecl at n a ∷ nodes a
nodes (ProgramDecl at n a) = ProgramDecl at n a ∷ nodes a
nodes (FieldDecl at n t a) = FieldDecl at n t a ∷ nodes a
nodes (MethodDecl at n ps t a) = MethodDecl at n ps t a ∷ nodes a
nodes (ConstructorDecl at ps s a b) = ConstructorDecl at ps s a b ∷ (nodes a ++ nodes b)
nodes (Block at a) = Block at a ∷ nodes a
nodes (Local at n t a) = Local at n t a ∷ nodes a
nodes (If at a b) = If at a b ∷ (nodes a ++ nodes b)
nodes (While at a b) = While at a b ∷ (nodes a ++ nodes b)
nodes (For at a b c d) = For at a b c d ∷ (nodes a ++ nodes b ++ nodes c ++ nodes d)
nodes (Return at a) = Return at a ∷ nodes a
nodes (Assign at a b) = Assign at a b ∷ (nodes a ++ nodes b)
nodes (Eval at a) = Eval at a ∷ nodes a
nodes (NewObject at n a) = NewObject at n a ∷ nodes a
nodes (NewArray at t a) = NewArray at t a ∷ nodes a
nodes (Unary at ks a) = Unary at ks a ∷ nodes a
nodes (Chain at a b) = Chain at a b ∷ (nodes a ++ nodes b)
nodes (Part at k a) = Part at k a ∷ nodes a
nodes (Postfix at a b) = Postfix at a b ∷ (nodes a ++ nodes b)
nodes (Index at a) = Index at a ∷ nodes a
nodes (Call at a) = Call at a ∷ nodes a
nodes leaf = leaf ∷ []

-- The number of a string literal's node.
abbrev pub literal_node : Node → List ℕ
literal_node (StringLit at spelled) = at.id ∷ []
literal_node _ = []

-- The string literals of a text by their nodes, in order of the text.
abbrev pub literal_nodes : Node → List ℕ
literal_nodes a = flat_map literal_node (nodes a)

-- The bytes of a string literal.
abbrev pub literal_bytes : Node → List (List ℕ)
literal_bytes (StringLit at spelled) = bytes_of spelled ∷ []
literal_bytes _ = []

-- The bytes of all string literals, in order of the text.
abbrev pub literals : Node → List (List ℕ)
literals a = flat_map literal_bytes (nodes a)

-- The place of a number in a list.
abbrev pub place_in : List ℕ → ℕ → ℕ
place_in [] n = 0
place_in (m ∷ ms) n = if m == n then 0 else 1 + place_in ms n

-- One for a local.
abbrev pub local_node : Node → List ℕ
local_node (Local at n t a) = at.id ∷ []
local_node _ = []

-- The locals that a node declares at or below it.
abbrev pub count_locals : Node → ℕ
count_locals a = length (flat_map local_node (nodes a))
