-- The numbers of nodes: each node comes before its children, and those stand in order of the text.
use Rattle.std.specs.Prelude.{ℕ, ◌+◌}
use Rattle.vg_syntax.specs.Outline.{outline, size, total}
use Rattle.vg_syntax.specs.Tree.{Spot, Node, Nothing, Then, Arm, Text, ClassDecl, ComponentDecl, DeviceDecl, RegisterDecl, ProgramDecl, EntryDecl, FieldDecl}
use Rattle.vg_syntax.specs.Tree.{MethodDecl, ConstructorDecl, Block, Local, If, While, For, Return, Break, Continue, Assign, Eval, Number, CharLit, StringLit}
use Rattle.vg_syntax.specs.Tree.{True, False, Null, This, Name, NewObject, NewArray, Unary, Chain, Part, TypePart, Postfix, Member, Index, Call}

-- how many nodes there are at and below a node, or in a row
abbrev pub count_nodes : Node → ℕ
count_nodes n = size (outline n)

-- How many of them are statements and expressions. A block, the parts of a chain and the suffixes of an operand count; declarations, rows and pairs do not.
abbrev pub count_code : Node → ℕ
count_code n = total (outline n)

abbrev pub with_id : ℕ → Spot → Spot
with_id i at = record { id = i; place = at.place }

-- the same nodes, numbered from i on
abbrev pub numbered : ℕ → Node → Node
numbered i Nothing = Nothing
numbered i (Then first rest) = Then (numbered i first) (numbered (i + count_nodes first) rest)
numbered i (Arm condition block rest) =
    Arm (numbered i condition) (numbered (i + count_nodes condition) block) (numbered (i + count_nodes condition + count_nodes block) rest)
numbered i (Text at declarations) = Text (with_id i at) (numbered (i + 1) declarations)
numbered i (ClassDecl at name above members) = ClassDecl (with_id i at) name above (numbered (i + 1) members)
numbered i (ComponentDecl at name members) = ComponentDecl (with_id i at) name (numbered (i + 1) members)
numbered i (DeviceDecl at name registers) = DeviceDecl (with_id i at) name (numbered (i + 1) registers)
numbered i (RegisterDecl at name number) = RegisterDecl (with_id i at) name number
numbered i (ProgramDecl at name entries) = ProgramDecl (with_id i at) name (numbered (i + 1) entries)
numbered i (EntryDecl at key component method) = EntryDecl (with_id i at) key component method
numbered i (FieldDecl at name type value) = FieldDecl (with_id i at) name type (numbered (i + 1) value)
numbered i (MethodDecl at name params result body) = MethodDecl (with_id i at) name params result (numbered (i + 1) body)
numbered i (ConstructorDecl at params calls_super arguments body) =
    ConstructorDecl (with_id i at) params calls_super (numbered (i + 1) arguments) (numbered (i + 1 + count_nodes arguments) body)
numbered i (Block at statements) = Block (with_id i at) (numbered (i + 1) statements)
numbered i (Local at name type value) = Local (with_id i at) name type (numbered (i + 1) value)
numbered i (If at arms otherwise) = If (with_id i at) (numbered (i + 1) arms) (numbered (i + 1 + count_nodes arms) otherwise)
numbered i (While at condition body) = While (with_id i at) (numbered (i + 1) condition) (numbered (i + 1 + count_nodes condition) body)
numbered i (For at first condition next body) =
    For (with_id i at) (numbered (i + 1) first) (numbered (i + 1 + count_nodes first) condition)
    (numbered (i + 1 + count_nodes first + count_nodes condition) next) (numbered (i + 1 + count_nodes first + count_nodes condition + count_nodes next) body)
numbered i (Return at value) = Return (with_id i at) (numbered (i + 1) value)
numbered i (Break at) = Break (with_id i at)
numbered i (Continue at) = Continue (with_id i at)
numbered i (Assign at target value) = Assign (with_id i at) (numbered (i + 1) target) (numbered (i + 1 + count_nodes target) value)
numbered i (Eval at expression) = Eval (with_id i at) (numbered (i + 1) expression)
numbered i (Number at digits) = Number (with_id i at) digits
numbered i (CharLit at spelled) = CharLit (with_id i at) spelled
numbered i (StringLit at spelled) = StringLit (with_id i at) spelled
numbered i (True at) = True (with_id i at)
numbered i (False at) = False (with_id i at)
numbered i (Null at) = Null (with_id i at)
numbered i (This at) = This (with_id i at)
numbered i (Name at name) = Name (with_id i at) name
numbered i (NewObject at name arguments) = NewObject (with_id i at) name (numbered (i + 1) arguments)
numbered i (NewArray at element size) = NewArray (with_id i at) element (numbered (i + 1) size)
numbered i (Unary at operators operand) = Unary (with_id i at) operators (numbered (i + 1) operand)
numbered i (Chain at first parts) = Chain (with_id i at) (numbered (i + 1) first) (numbered (i + 1 + count_nodes first) parts)
numbered i (Part at op operand) = Part (with_id i at) op (numbered (i + 1) operand)
numbered i (TypePart at op type) = TypePart (with_id i at) op type
numbered i (Postfix at primary suffixes) = Postfix (with_id i at) (numbered (i + 1) primary) (numbered (i + 1 + count_nodes primary) suffixes)
numbered i (Member at name) = Member (with_id i at) name
numbered i (Index at index) = Index (with_id i at) (numbered (i + 1) index)
numbered i (Call at arguments) = Call (with_id i at) (numbered (i + 1) arguments)
