-- What is counted of a text, declaration by declaration.
use Rattle.std.specs.Prelude.{ℕ, suc, ◌+◌, max, List, [], ◌∷◌, length, flat_map}
use Rattle.vg_syntax.specs.Tree.{Spot, Node, Then, ClassDecl, ComponentDecl, FieldDecl, MethodDecl, ConstructorDecl}
use Rattle.vg_syntax.specs.Outline.{Outline, Empty, Beside, Inner, outline}
use Rattle.vg_source.specs.Nodes.{count_locals}
use Rattle.vg_source.specs.Program.{declarations_of}
use Rattle.vg_rules.specs.declared.what.What.{What}
use Rattle.vg_rules.specs.declared.what.What.TheVariants.{Classes, Methods, Locals, Height}

-- A number that is counted at a declaration, which is given by its node.
pub record Counted : Type 0 where
  pub node : ℕ
  pub number : ℕ

-- ---- heights

-- How many levels of nodes stand above one another.
abbrev pub levels : Outline → ℕ
levels Empty = 0
levels (Beside first rest) = max (levels first) (levels rest)
levels (Inner id weight children) = suc (levels children)

-- The height of a node: 1 without children, else one more than that of its highest child. What is not written has the height 0.
abbrev pub height : Node → ℕ
height a = levels (outline a)

-- ---- the declarations of a text

-- The nodes of a row.
abbrev pub in_row : Node → List Node
in_row (Then a rest) = a ∷ in_row rest
in_row _ = []

-- The members of a class or component.
abbrev pub members_at : Node → List Node
members_at (ClassDecl at c above members) = in_row members
members_at (ComponentDecl at c members) = in_row members
members_at _ = []

-- The declarations of a text.
abbrev pub declared : Node → List Node
declared text = in_row (declarations_of text)

-- The members of all of them, in order of the text.
abbrev pub all_members : Node → List Node
all_members text = flat_map members_at (declared text)

-- ---- the counts

-- A class or component.
abbrev pub class_spots : Node → List Spot
class_spots (ClassDecl at c above members) = at ∷ []
class_spots (ComponentDecl at c members) = at ∷ []
class_spots _ = []

-- A method or constructor.
abbrev pub method_at : Node → List Spot
method_at (MethodDecl at x ps t body) = at ∷ []
method_at (ConstructorDecl at ps calls args body) = at ∷ []
method_at _ = []

-- The parameters and locals of a method or constructor.
abbrev pub locals_at : Node → List Counted
locals_at (MethodDecl at x ps t body) = record { node = at.id; number = length ps + count_locals body } ∷ []
locals_at (ConstructorDecl at ps calls args body) = record { node = at.id; number = length ps + count_locals body } ∷ []
locals_at _ = []

-- The height of a method or constructor, and that of the initialiser of a field.
abbrev pub height_at : Node → List Counted
height_at (FieldDecl at x t e) = record { node = at.id; number = height e } ∷ []
height_at (MethodDecl at x ps t body) = record { node = at.id; number = height (MethodDecl at x ps t body) } ∷ []
height_at (ConstructorDecl at ps calls args body) = record { node = at.id; number = height (ConstructorDecl at ps calls args body) } ∷ []
height_at _ = []

-- Declarations with their numbers in order, behind so many.
abbrev pub in_order : (before : ℕ) → List Spot → List Counted
in_order n [] = []
in_order n (at ∷ rest) = record { node = at.id; number = suc n } ∷ in_order (suc n) rest

-- What is counted of a text: its classes and components, and its methods and constructors, one by one; the parameters and locals of each
-- method and constructor; and the height of each member.
abbrev pub counts : What → Node → List Counted
counts Classes text = in_order 0 (flat_map class_spots (declared text))
counts Methods text = in_order 0 (flat_map method_at (all_members text))
counts Locals text = flat_map locals_at (all_members text)
counts Height text = flat_map height_at (all_members text)
