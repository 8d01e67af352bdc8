-- How the texts are written as trees, and what is said of them.
use Rattle.std.specs.Prelude.{◌≡◌, ℕ, true, false, List, [], ◌∷◌, codes, Some, None}
use Prim.Native.String.{String}
use Rattle.vg_syntax.specs.declared.kind.Kind.{Kind}
use Rattle.vg_syntax.specs.declared.kind.Kind.TheVariants as kind
use Rattle.vg_syntax.specs.Tree.{Spot, TypeTree, IntType, RawType, ClassType, ArrayType, FunctionType, NoType, MoreTypes, Param, Node, Nothing, Then}
use Rattle.vg_syntax.specs.Tree as tree
use Rattle.vg_syntax.specs.Numbering.{numbered}
use Rattle.vg_rules.specs.Refusal.{Broken, refusal_of}

-- ---- what is said of a text

-- Nothing is too many, and no rule is broken.
abbrev pub IsLegal : Node → Type 0
IsLegal text = refusal_of (numbered 0 text) ≡ None

-- The first breach is one of this rule at the node of this number, in preorder from 0.
abbrev pub IsBroken : (rule node : ℕ) → Node → Type 0
IsBroken rule node text = refusal_of (numbered 0 text) ≡ Some (Broken rule node)

-- ---- nodes and rows

-- Where a node stands before nodes are numbered. No rule speaks of places.
abbrev pub here : Spot
here = record { id = 0; place = record { line = 1; col = 1 } }

abbrev pub row : List Node → Node
row [] = Nothing
row (a ∷ rest) = Then a (row rest)

-- ---- types

abbrev pub raw : (width : String) → TypeTree
raw width = RawType (codes width)

abbrev pub of_class : (name : String) → TypeTree
of_class c = ClassType (codes c)

abbrev pub types : List TypeTree → TypeTree
types [] = NoType
types (t ∷ ts) = MoreTypes t (types ts)

abbrev pub function : (params : List TypeTree) → (result : TypeTree) → TypeTree
function ps r = FunctionType (types ps) r

-- ---- declarations

abbrev pub class : (name : String) → (members : List Node) → Node
class c members = tree.ClassDecl here (codes c) None (row members)

abbrev pub subclass : (name above : String) → (members : List Node) → Node
subclass c above members = tree.ClassDecl here (codes c) (Some (codes above)) (row members)

abbrev pub component : (name : String) → (members : List Node) → Node
component c members = tree.ComponentDecl here (codes c) (row members)

abbrev pub device : (name : String) → (registers : List Node) → Node
device d registers = tree.DeviceDecl here (codes d) (row registers)

abbrev pub register : (name number : String) → Node
register r number = tree.RegisterDecl here (codes r) (codes number)

abbrev pub program : (name : String) → (entries : List Node) → Node
program p entries = tree.ProgramDecl here (codes p) (row entries)

abbrev pub entry : (key component method : String) → Node
entry key c m = tree.EntryDecl here (codes key) (codes c) (codes m)

abbrev pub param : (name : String) → TypeTree → Param
param x t = record { name = codes x; type = t }

abbrev pub block : List Node → Node
block statements = tree.Block here (row statements)

abbrev pub field : (name : String) → TypeTree → (value : Node) → Node
field x t value = tree.FieldDecl here (codes x) t value

abbrev pub method : (name : String) → List Param → (result : TypeTree) → (body : List Node) → Node
method m ps r body = tree.MethodDecl here (codes m) ps r (block body)

abbrev pub constructor : List Param → (body : List Node) → Node
constructor ps body = tree.ConstructorDecl here ps false Nothing (block body)

abbrev pub constructor_with_super : List Param → (arguments body : List Node) → Node
constructor_with_super ps arguments body = tree.ConstructorDecl here ps true (row arguments) (block body)

-- ---- statements

abbrev pub local : (name : String) → TypeTree → (value : Node) → Node
local x t value = tree.Local here (codes x) t value

-- the arms of an `if`
abbrev pub arm : (condition : Node) → (body : List Node) → (rest : Node) → Node
arm c body rest = tree.Arm c (block body) rest

-- an `if`
abbrev pub choice : (arms otherwise : Node) → Node
choice arms otherwise = tree.If here arms otherwise

-- a `while`
abbrev pub loop : (condition : Node) → (body : List Node) → Node
loop c body = tree.While here c (block body)

-- a `for`
abbrev pub counting : (first condition next : Node) → (body : List Node) → Node
counting first c next body = tree.For here first c next (block body)

-- a `return`
abbrev pub gives : (value : Node) → Node
gives value = tree.Return here value

-- a `break`
abbrev pub leaves : Node
leaves = tree.Break here

-- a `continue`
abbrev pub goes_on : Node
goes_on = tree.Continue here

abbrev pub assign : (target value : Node) → Node
assign target value = tree.Assign here target value

abbrev pub eval : Node → Node
eval e = tree.Eval here e

-- ---- expressions

abbrev pub number : (digits : String) → Node
number digits = tree.Number here (codes digits)

abbrev pub character : (spelled : String) → Node
character spelled = tree.CharLit here (codes spelled)

abbrev pub string : (spelled : String) → Node
string spelled = tree.StringLit here (codes spelled)

abbrev pub yes : Node
yes = tree.True here

abbrev pub no : Node
no = tree.False here

abbrev pub null : Node
null = tree.Null here

abbrev pub this : Node
this = tree.This here

abbrev pub name : String → Node
name x = tree.Name here (codes x)

abbrev pub new : (class : String) → (arguments : List Node) → Node
new c arguments = tree.NewObject here (codes c) (row arguments)

abbrev pub new_array : (element : TypeTree) → (size : Node) → Node
new_array t size = tree.NewArray here t size

abbrev pub prefixed : List Kind → (operand : Node) → Node
prefixed operators e = tree.Unary here operators e

abbrev pub chain : (first : Node) → (parts : List Node) → Node
chain first parts = tree.Chain here first (row parts)

abbrev pub part : Kind → (operand : Node) → Node
part operator e = tree.Part here operator e

abbrev pub cast : TypeTree → Node
cast t = tree.TypePart here kind.Cast t

abbrev pub test : TypeTree → Node
test t = tree.TypePart here kind.Below t

abbrev pub suffixed : (primary : Node) → (suffixes : List Node) → Node
suffixed e suffixes = tree.Postfix here e (row suffixes)

abbrev pub dot : (name : String) → Node
dot x = tree.Member here (codes x)

abbrev pub index : Node → Node
index e = tree.Index here e

abbrev pub call : (arguments : List Node) → Node
call arguments = tree.Call here (row arguments)

-- ---- texts

abbrev pub text : (declarations : List Node) → Node
text declarations = tree.Text here (row declarations)

-- The text in which most rows stand, with gaps for what they say:
--   class A { field f: int; field t: int[]; method m(x: int): int { return x; } }
--   class B extends A { }
--   component Main { method main() { BODY } MEMBERS }
--   device M { register R = 0x38; }
--   program P { entry main = Main.main; ENTRIES }
--   DECLARATIONS
abbrev pub frame : (body members entries declarations : List Node) → Node
frame body members entries declarations = text (
    class "A" (
    field "f" IntType Nothing
    ∷ field "t" (ArrayType IntType) Nothing
    ∷ method "m" (param "x" IntType ∷ []) IntType (gives (name "x") ∷ [])
    ∷ [])
    ∷ subclass "B" "A" []
    ∷ component "Main" (method "main" [] NoType body ∷ members)
    ∷ device "M" (register "R" "0x38" ∷ [])
    ∷ program "P" (entry "main" "Main" "main" ∷ entries)
    ∷ declarations)

-- Statements of main, whose first node has the number 12.
abbrev pub in_main : (body : List Node) → Node
in_main body = frame body [] [] []

-- Members of the component, from node 12 on.
abbrev pub with_members : (members : List Node) → Node
with_members members = frame [] members [] []

-- Entries, from node 16 on.
abbrev pub with_entries : (entries : List Node) → Node
with_entries entries = frame [] [] entries []

-- Declarations, from node 16 on.
abbrev pub with_declarations : (declarations : List Node) → Node
with_declarations declarations = frame [] [] [] declarations

-- Members, entries and declarations.
abbrev pub with_more : (members entries declarations : List Node) → Node
with_more members entries declarations = frame [] members entries declarations
