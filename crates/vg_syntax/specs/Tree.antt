-- The tree of a text.
use Rattle.std.specs.Prelude.{ℕ, Bool, List, Option}
use Rattle.vg_base.specs.declared.place.Place.{Place}
use Rattle.vg_syntax.specs.declared.kind.Kind.{Kind}

-- where a node stands: its number in preorder, from 0, and the place of its first token (of a Part, of its operator)
pub record Spot : Type 0 where
  pub id : ℕ
  pub place : Place

-- A type as it is written. Names and digits are lists of bytes. Parentheses leave no trace.
pub data TypeTree : Type 0 where
  IntType : TypeTree
  BoolType : TypeTree
  CharType : TypeTree
  RawType : (width : List ℕ) → TypeTree
  ClassType : (name : List ℕ) → TypeTree
  ArrayType : (element : TypeTree) → TypeTree
  FunctionType : (params result : TypeTree) → TypeTree  -- a row of types, and NoType where no result is written
  NoType : TypeTree  -- no type, and the end of a row of types
  MoreTypes : (first rest : TypeTree) → TypeTree

-- a parameter: its name and its type
pub record Param : Type 0 where
  pub name : List ℕ
  pub type : TypeTree

-- A node of the tree, or a row of nodes. Names, numbers, chars and strings are the bytes of their token, as they are written.
pub data Node : Type 0 where
  -- rows: Nothing is also what stands where an optional child is not written
  Nothing : Node
  Then : (first rest : Node) → Node
  Arm : (condition block rest : Node) → Node  -- a pair of an `if` or an `else if`, and the pairs behind it
  -- declarations
  Text : (at : Spot) (declarations : Node) → Node
  ClassDecl : (at : Spot) (name : List ℕ) (above : Option (List ℕ)) (members : Node) → Node
  ComponentDecl : (at : Spot) (name : List ℕ) (members : Node) → Node
  DeviceDecl : (at : Spot) (name : List ℕ) (registers : Node) → Node
  RegisterDecl : (at : Spot) (name number : List ℕ) → Node
  ProgramDecl : (at : Spot) (name : List ℕ) (entries : Node) → Node
  EntryDecl : (at : Spot) (key component method : List ℕ) → Node  -- the key is a name or a number
  FieldDecl : (at : Spot) (name : List ℕ) (type : TypeTree) (value : Node) → Node
  MethodDecl : (at : Spot) (name : List ℕ) (params : List Param) (result : TypeTree) (body : Node) → Node
  ConstructorDecl : (at : Spot) (params : List Param) (calls_super : Bool) (arguments body : Node) → Node
  -- statements
  Block : (at : Spot) (statements : Node) → Node
  Local : (at : Spot) (name : List ℕ) (type : TypeTree) (value : Node) → Node
  If : (at : Spot) (arms otherwise : Node) → Node
  While : (at : Spot) (condition body : Node) → Node
  For : (at : Spot) (first condition next body : Node) → Node
  Return : (at : Spot) (value : Node) → Node
  Break : (at : Spot) → Node
  Continue : (at : Spot) → Node
  Assign : (at : Spot) (target value : Node) → Node
  Eval : (at : Spot) (expression : Node) → Node
  -- expressions
  Number : (at : Spot) (digits : List ℕ) → Node
  CharLit : (at : Spot) (spelled : List ℕ) → Node
  StringLit : (at : Spot) (spelled : List ℕ) → Node
  True : (at : Spot) → Node
  False : (at : Spot) → Node
  Null : (at : Spot) → Node
  This : (at : Spot) → Node
  Name : (at : Spot) (name : List ℕ) → Node
  NewObject : (at : Spot) (name : List ℕ) (arguments : Node) → Node
  NewArray : (at : Spot) (element : TypeTree) (size : Node) → Node  -- the type of an element, with the levels behind the size
  Unary : (at : Spot) (operators : List Kind) (operand : Node) → Node
  Chain : (at : Spot) (first parts : Node) → Node
  Part : (at : Spot) (operator : Kind) (operand : Node) → Node
  TypePart : (at : Spot) (operator : Kind) (type : TypeTree) → Node  -- a cast or a type test
  Postfix : (at : Spot) (primary suffixes : Node) → Node
  Member : (at : Spot) (name : List ℕ) → Node
  Index : (at : Spot) (index : Node) → Node
  Call : (at : Spot) (arguments : Node) → Node
