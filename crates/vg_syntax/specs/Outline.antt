-- The outline of a tree: where its nodes stand in one another, and nothing of what they say.
use Rattle.std.specs.Prelude.{ℕ, ◌+◌, List, [], ◌∷◌}
use Rattle.vg_syntax.specs.Tree.{Spot, Node, Nothing, Then, Arm, Text, ClassDecl, ComponentDecl, DeviceDecl, RegisterDecl, ProgramDecl, EntryDecl, FieldDecl}
use Rattle.vg_syntax.specs.Tree.{MethodDecl, ConstructorDecl, Block, Local, If, While, For, Return, Break, Continue, Assign, Eval, Number, CharLit, StringLit}
use Rattle.vg_syntax.specs.Tree.{True, False, Null, This, Name, NewObject, NewArray, Unary, Chain, Part, TypePart, Postfix, Member, Index, Call}

pub data Outline : Type 0 where
  Empty : Outline
  Beside : (first rest : Outline) → Outline  -- a row, pairs, or the children of a node, in order of the text
  Inner : (id weight : ℕ) (children : Outline) → Outline  -- a node: its weight is 1 where it is a statement or an expression, else 0

abbrev pub row : List Outline → Outline
row [] = Empty
row (o ∷ os) = Beside o (row os)

abbrev pub declaration : Spot → List Outline → Outline
declaration at children = Inner at.id 0 (row children)

abbrev pub code : Spot → List Outline → Outline
code at children = Inner at.id 1 (row children)

-- the outline of a node or a row
abbrev pub outline : Node → Outline
outline Nothing = Empty
outline (Then first rest) = Beside (outline first) (outline rest)
outline (Arm condition block rest) = Beside (outline condition) (Beside (outline block) (outline rest))
outline (Text at declarations) = declaration at (outline declarations ∷ [])
outline (ClassDecl at name above members) = declaration at (outline members ∷ [])
outline (ComponentDecl at name members) = declaration at (outline members ∷ [])
outline (DeviceDecl at name registers) = declaration at (outline registers ∷ [])
outline (RegisterDecl at name number) = declaration at []
outline (ProgramDecl at name entries) = declaration at (outline entries ∷ [])
outline (EntryDecl at key component method) = declaration at []
outline (FieldDecl at name type value) = declaration at (outline value ∷ [])
outline (MethodDecl at name params result body) = declaration at (outline body ∷ [])
outline (ConstructorDecl at params calls_super arguments body) = declaration at (outline arguments ∷ outline body ∷ [])
outline (Block at statements) = code at (outline statements ∷ [])
outline (Local at name type value) = code at (outline value ∷ [])
outline (If at arms otherwise) = code at (outline arms ∷ outline otherwise ∷ [])
outline (While at condition body) = code at (outline condition ∷ outline body ∷ [])
outline (For at first condition next body) = code at (outline first ∷ outline condition ∷ outline next ∷ outline body ∷ [])
outline (Return at value) = code at (outline value ∷ [])
outline (Break at) = code at []
outline (Continue at) = code at []
outline (Assign at target value) = code at (outline target ∷ outline value ∷ [])
outline (Eval at expression) = code at (outline expression ∷ [])
outline (Number at digits) = code at []
outline (CharLit at spelled) = code at []
outline (StringLit at spelled) = code at []
outline (True at) = code at []
outline (False at) = code at []
outline (Null at) = code at []
outline (This at) = code at []
outline (Name at name) = code at []
outline (NewObject at name arguments) = code at (outline arguments ∷ [])
outline (NewArray at element size) = code at (outline size ∷ [])
outline (Unary at operators operand) = code at (outline operand ∷ [])
outline (Chain at first parts) = code at (outline first ∷ outline parts ∷ [])
outline (Part at op operand) = code at (outline operand ∷ [])
outline (TypePart at op type) = code at []
outline (Postfix at primary suffixes) = code at (outline primary ∷ outline suffixes ∷ [])
outline (Member at name) = code at []
outline (Index at index) = code at (outline index ∷ [])
outline (Call at arguments) = code at (outline arguments ∷ [])

-- how many nodes there are
abbrev pub size : Outline → ℕ
size Empty = 0
size (Beside first rest) = size first + size rest
size (Inner id weight children) = 1 + size children

-- how many of them are statements and expressions
abbrev pub total : Outline → ℕ
total Empty = 0
total (Beside first rest) = total first + total rest
total (Inner id weight children) = weight + total children
