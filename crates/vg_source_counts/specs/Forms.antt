-- Where statements, expressions and the parts of expressions stand, as the grammar has them.
use Rattle.vg_syntax.specs.Tree.{Node, Nothing, Then, Arm, Text, ClassDecl, ComponentDecl, FieldDecl, MethodDecl, ConstructorDecl, Block, Local, If, While}
use Rattle.vg_syntax.specs.Tree.{For, Return, Break, Continue, Assign, Eval, Number, CharLit, StringLit, True, False, Null, This, Name, NewObject, NewArray}
use Rattle.vg_syntax.specs.Tree.{Unary, Chain, Part, TypePart, Postfix, Member, Index, Call}

pub data Form : Type 0 where
  Statements : Form  -- a statement, or a row of statements
  Arms : Form  -- pairs of a condition and a block
  Expression : Form
  Arguments : Form  -- a row of expressions
  Suffixes : Form  -- what stands behind a primary: a suffix, or a row of some
  Parts : Form  -- what stands behind a first operand: a part, or a row of some

-- This is asked of a node that is written.
abbrev pub WhereWritten : Node → Type 0 → Type 0
WhereWritten Nothing asked = Unit {0}
WhereWritten _ asked = asked

-- A node or a row has this form, and so have all nodes below it.
abbrev pub HasForm : Form → Node → Type 0
HasForm Statements Nothing = Unit {0}
HasForm Statements (Then a rest) = HasForm Statements a × HasForm Statements rest
HasForm Statements (Block at body) = HasForm Statements body
HasForm Statements (Local at x t e) = WhereWritten e (HasForm Expression e)
HasForm Statements (If at arms otherwise) = HasForm Arms arms × HasForm Statements otherwise
HasForm Statements (While at c body) = HasForm Expression c × HasForm Statements body
HasForm Statements (For at first c next body) =
    HasForm Statements first × WhereWritten c (HasForm Expression c) × HasForm Statements next × HasForm Statements body
HasForm Statements (Return at e) = WhereWritten e (HasForm Expression e)
HasForm Statements (Break at) = Unit {0}
HasForm Statements (Continue at) = Unit {0}
HasForm Statements (Assign at target e) = HasForm Expression target × HasForm Expression e
HasForm Statements (Eval at e) = HasForm Expression e
HasForm Arms Nothing = Unit {0}
HasForm Arms (Arm c block rest) = HasForm Expression c × HasForm Statements block × HasForm Arms rest
HasForm Expression (Number at digits) = Unit {0}
HasForm Expression (CharLit at spelled) = Unit {0}
HasForm Expression (StringLit at spelled) = Unit {0}
HasForm Expression (True at) = Unit {0}
HasForm Expression (False at) = Unit {0}
HasForm Expression (Null at) = Unit {0}
HasForm Expression (This at) = Unit {0}
HasForm Expression (Name at x) = Unit {0}
HasForm Expression (NewObject at c args) = HasForm Arguments args
HasForm Expression (NewArray at t e) = HasForm Expression e
HasForm Expression (Unary at operators e) = HasForm Expression e
HasForm Expression (Chain at first parts) = HasForm Expression first × HasForm Parts parts
HasForm Expression (Postfix at primary suffixes) = HasForm Expression primary × HasForm Suffixes suffixes
HasForm Arguments Nothing = Unit {0}
HasForm Arguments (Then a rest) = HasForm Expression a × HasForm Arguments rest
HasForm Suffixes (Then a rest) = HasForm Suffixes a × WhereWritten rest (HasForm Suffixes rest)
HasForm Suffixes (Member at x) = Unit {0}
HasForm Suffixes (Index at e) = HasForm Expression e
HasForm Suffixes (Call at args) = HasForm Arguments args
HasForm Parts (Then a rest) = HasForm Parts a × WhereWritten rest (HasForm Parts rest)
HasForm Parts (Part at op e) = HasForm Expression e
HasForm Parts (TypePart at op t) = Unit {0}
HasForm _ _ = ⊥

-- A row of fields, methods and constructors, in which the body of each method is of statements.
abbrev pub HaveBodies : Node → Type 0
HaveBodies (Then (FieldDecl at x t e) rest) = HaveBodies rest
HaveBodies (Then (MethodDecl at x ps t body) rest) = HasForm Statements body × HaveBodies rest
HaveBodies (Then (ConstructorDecl at ps calls args body) rest) = HaveBodies rest
HaveBodies (Then m rest) = ⊥
HaveBodies _ = Unit {0}

-- So it is in the classes and components of a text.
abbrev pub IsFormed : Node → Type 0
IsFormed (Text at ds) = IsFormed ds
IsFormed (Then d rest) = IsFormed d × IsFormed rest
IsFormed (ClassDecl at c above members) = HaveBodies members
IsFormed (ComponentDecl at c members) = HaveBodies members
IsFormed _ = Unit {0}
