-- The places of the nodes of a tree.
use Rattle.std.specs.Prelude.{ℕ, ◌==◌, List, [], ◌∷◌, ◌++◌, Option, Some, None, if◌then◌else◌}
use Rattle.vg_base.specs.declared.place.Place.{Place}
use Rattle.vg_syntax.specs.Tree.{Spot, Node, Nothing, Then, Arm}
use Rattle.vg_syntax.specs.Tree.{Text, ClassDecl, ComponentDecl, DeviceDecl, RegisterDecl, ProgramDecl, EntryDecl, FieldDecl, MethodDecl, ConstructorDecl, Block, Local, If, While}
use Rattle.vg_syntax.specs.Tree.{For, Return, Break, Continue, Assign, Eval, Number, CharLit, StringLit, True, False, Null, This, Name}
use Rattle.vg_syntax.specs.Tree.{NewObject, NewArray, Unary, Chain, Part, TypePart, Postfix, Member, Index, Call}

-- Lists one behind another.
abbrev pub all : List (List Spot) → List Spot
all [] = []
all (xs ∷ xss) = xs ++ all xss

-- The spots of a node and of all below it: each node comes before its children, and those stand in order of the text.
abbrev pub spots : Node → List Spot
spots Nothing = []
spots (Then first rest) = spots first ++ spots rest
spots (Arm condition block rest) = spots condition ++ (spots block ++ spots rest)
spots (Text at a) = at ∷ all (spots a ∷ [])
spots (ClassDecl at name above a) = at ∷ all (spots a ∷ [])
spots (ComponentDecl at name a) = at ∷ all (spots a ∷ [])
spots (DeviceDecl at name a) = at ∷ all (spots a ∷ [])
spots (RegisterDecl at name number) = at ∷ []
spots (ProgramDecl at name a) = at ∷ all (spots a ∷ [])
spots (EntryDecl at key component method) = at ∷ []
spots (FieldDecl at name type a) = at ∷ all (spots a ∷ [])
spots (MethodDecl at name params result a) = at ∷ all (spots a ∷ [])
spots (ConstructorDecl at params calls_super a b) = at ∷ all (spots a ∷ spots b ∷ [])
spots (Block at a) = at ∷ all (spots a ∷ [])
spots (Local at name type a) = at ∷ all (spots a ∷ [])
spots (If at a b) = at ∷ all (spots a ∷ spots b ∷ [])
spots (While at a b) = at ∷ all (spots a ∷ spots b ∷ [])
spots (For at a b c d) = at ∷ all (spots a ∷ spots b ∷ spots c ∷ spots d ∷ [])
spots (Return at a) = at ∷ all (spots a ∷ [])
spots (Break at) = at ∷ []
spots (Continue at) = at ∷ []
spots (Assign at a b) = at ∷ all (spots a ∷ spots b ∷ [])
spots (Eval at a) = at ∷ all (spots a ∷ [])
spots (Number at digits) = at ∷ []
spots (CharLit at spelled) = at ∷ []
spots (StringLit at spelled) = at ∷ []
spots (True at) = at ∷ []
spots (False at) = at ∷ []
spots (Null at) = at ∷ []
spots (This at) = at ∷ []
spots (Name at name) = at ∷ []
spots (NewObject at name a) = at ∷ all (spots a ∷ [])
spots (NewArray at type a) = at ∷ all (spots a ∷ [])
spots (Unary at operators a) = at ∷ all (spots a ∷ [])
spots (Chain at a b) = at ∷ all (spots a ∷ spots b ∷ [])
spots (Part at op a) = at ∷ all (spots a ∷ [])
spots (TypePart at op type) = at ∷ []
spots (Postfix at a b) = at ∷ all (spots a ∷ spots b ∷ [])
spots (Member at name) = at ∷ []
spots (Index at a) = at ∷ all (spots a ∷ [])
spots (Call at a) = at ∷ all (spots a ∷ [])

-- The place of the node of this number, where the tree has one.
abbrev pub place_among : (id : ℕ) → List Spot → Option Place
place_among id [] = None
place_among id (at ∷ rest) = if at.id == id then Some at.place else place_among id rest

abbrev pub place_at : (id : ℕ) → (tree : Node) → Option Place
place_at id tree = place_among id (spots tree)
