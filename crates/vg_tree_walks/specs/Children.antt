-- The children of a node that the compiler holds.
use Rattle.std.specs.Prelude.{ℕ, Bool, true, false, List, [], ◌∷◌, Option, Some, None}
use Rattle.vg_tree.specs.declared.node.Node as held
use Rattle.vg_syntax.specs.Tree.{Node, Nothing, Then}
use Rattle.vg_tree.specs.Held.{node_at}

-- four places, so many of them with a child
abbrev none : List (Option held.Node)
none = None ∷ None ∷ None ∷ None ∷ []

abbrev one : held.Node → List (Option held.Node)
one a = Some a ∷ None ∷ None ∷ None ∷ []

abbrev two : (a b : held.Node) → List (Option held.Node)
two a b = Some a ∷ Some b ∷ None ∷ None ∷ []

-- the children of a node, in order of the text
abbrev pub children_of : held.Node → List (Option held.Node)
children_of (held.Text' place p a) = one a
children_of (held.ClassDecl' place name above p a) = one a
children_of (held.ComponentDecl' place name p a) = one a
children_of (held.DeviceDecl' place name p a) = one a
children_of (held.ProgramDecl' place name p a) = one a
children_of (held.FieldDecl' place name type p a) = one a
children_of (held.MethodDecl' place name params result p a) = one a
children_of (held.ConstructorDecl' place params calls_super p a q b) = two a b
children_of (held.Block' place p a) = one a
children_of (held.Local' place name type p a) = one a
children_of (held.If' place p a q b) = two a b
children_of (held.While' place p a q b) = two a b
children_of (held.For' place p a q b r c s d) = Some a ∷ Some b ∷ Some c ∷ Some d ∷ []
children_of (held.Return' place p a) = one a
children_of (held.Assign' place p a q b) = two a b
children_of (held.Eval' place p a) = one a
children_of (held.NewObject' place s p a) = one a
children_of (held.NewArray' place type p a) = one a
children_of (held.Unary' place ops p a) = one a
children_of (held.Chain' place p a q b) = two a b
children_of (held.Part' place op p a) = one a
children_of (held.Postfix' place p a q b) = two a b
children_of (held.Index' place p a) = one a
children_of (held.Call' place p a) = one a
children_of _ = none

-- a child, where there is one
abbrev pub kid_at : List (List ℕ) → Option held.Node → Node
kid_at texts None = Nothing
kid_at texts (Some n) = node_at texts n

-- children as a row
abbrev pub kids_at : List (List ℕ) → List (Option held.Node) → Node
kids_at texts [] = Nothing
kids_at texts (None ∷ kids) = kids_at texts kids
kids_at texts (Some n ∷ kids) = Then (node_at texts n) (kids_at texts kids)

-- whether a node has a number: rows and pairs have none
abbrev pub has_number : held.Node → Bool
has_number held.Nothing = false
has_number (held.Row' shape all) = false
has_number (held.Arms' shape all) = false
has_number (held.Pair' p c q b) = false
has_number _ = true

-- 1 for a statement or an expression
abbrev pub weight_of : held.Node → ℕ
weight_of (held.Text' place p ds) = 0
weight_of (held.ClassDecl' place name above p ms) = 0
weight_of (held.ComponentDecl' place name p ms) = 0
weight_of (held.DeviceDecl' place name p rs) = 0
weight_of (held.RegisterDecl place name number) = 0
weight_of (held.ProgramDecl' place name p es) = 0
weight_of (held.EntryDecl place key component method) = 0
weight_of (held.FieldDecl' place name type p e) = 0
weight_of (held.MethodDecl' place name params result p body) = 0
weight_of (held.ConstructorDecl' place params calls_super p arguments q body) = 0
weight_of _ = 1
