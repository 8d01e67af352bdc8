-- The tree that the compiler holds, without its places in memory. The texts are those of its names, in order of their numbers.
use Rattle.std.specs.Prelude.{ℕ, List, [], ◌∷◌, map, Option, Some, None, slice_get, option_map}
use Rattle.vg_tree.specs.declared.type_tree.Param.{Param as HeldParam}
use Rattle.vg_tree.specs.declared.type_tree.TypeTree as held_type
use Rattle.vg_tree.specs.declared.node.Node as held
use Rattle.vg_syntax.specs.Tree.{TypeTree, IntType, BoolType, CharType, RawType, ClassType, FunctionType, NoType, MoreTypes, Param, Node, Nothing, Then, Arm}
use Rattle.vg_syntax.specs.Tree.{Text, ClassDecl, ComponentDecl, DeviceDecl, RegisterDecl, ProgramDecl, EntryDecl, FieldDecl, MethodDecl, ConstructorDecl}
use Rattle.vg_syntax.specs.Tree.{Block, Local, If, While, For, Return, Break, Continue, Assign, Eval, Number, CharLit, StringLit, True, False, Null, This}
use Rattle.vg_syntax.specs.Tree.{Name, NewObject, NewArray, Unary, Chain, Part, TypePart, Postfix, Member, Index, Call}
use Rattle.vg_syntax.specs.Made.{arrays}
use Rattle.vg_syntax.specs.Reads.{spot}

-- the text of a name, where it has one
abbrev pub text_or_none : Option (List ℕ) → List ℕ
text_or_none None = []
text_or_none (Some text) = text

abbrev pub text_at : List (List ℕ) → ℕ → List ℕ
text_at texts name = text_or_none (slice_get texts name)

abbrev mutual
  -- a type
  pub type_at : List (List ℕ) → held_type.TypeTree → TypeTree
  type_at texts held_type.Int = IntType
  type_at texts held_type.Bool = BoolType
  type_at texts held_type.Char = CharType
  type_at texts (held_type.Raw s) = RawType (text_at texts s)
  type_at texts (held_type.Class s) = ClassType (text_at texts s)
  type_at texts (held_type.Array' n p t) = arrays n (type_at texts t)
  type_at texts (held_type.Function' p a q r) = FunctionType (type_at texts a) (type_at texts r)
  type_at texts held_type.Nothing = NoType
  type_at texts (held_type.Row' shape all) = types_at texts all

  -- a row of types
  pub types_at : List (List ℕ) → {m : _} → held_type.Row_of-TypeTree m → TypeTree
  types_at texts held_type.end_of-TypeTree = NoType
  types_at texts (held_type.more_of-TypeTree t rest) = MoreTypes (type_at texts t) (types_at texts rest)

abbrev pub param_at : List (List ℕ) → HeldParam → Param
param_at texts p = record { name = text_at texts p.name; type = type_at texts p.type_ }

abbrev pub type_row : List (List ℕ) → List held_type.TypeTree → TypeTree
type_row texts [] = NoType
type_row texts (t ∷ ts) = MoreTypes (type_at texts t) (type_row texts ts)

abbrev mutual
  -- a node
  pub node_at : List (List ℕ) → held.Node → Node
  node_at texts held.Nothing = Nothing
  node_at texts (held.Row' shape all) = nodes_at texts all
  node_at texts (held.Arms' shape all) = arms_at texts all
  node_at texts (held.Pair' p c q b) = Nothing
  node_at texts (held.Text' place p ds) = Text (spot place) (node_at texts ds)
  node_at texts (held.ClassDecl' place name above p ms) = ClassDecl (spot place) (text_at texts name) (option_map (text_at texts) above) (node_at texts ms)
  node_at texts (held.ComponentDecl' place name p ms) = ComponentDecl (spot place) (text_at texts name) (node_at texts ms)
  node_at texts (held.DeviceDecl' place name p rs) = DeviceDecl (spot place) (text_at texts name) (node_at texts rs)
  node_at texts (held.RegisterDecl place name number) = RegisterDecl (spot place) (text_at texts name) (text_at texts number)
  node_at texts (held.ProgramDecl' place name p es) = ProgramDecl (spot place) (text_at texts name) (node_at texts es)
  node_at texts (held.EntryDecl place key component method) = EntryDecl (spot place) (text_at texts key) (text_at texts component) (text_at texts method)
  node_at texts (held.FieldDecl' place name type p e) = FieldDecl (spot place) (text_at texts name) (type_at texts type) (node_at texts e)
  node_at texts (held.MethodDecl' place name params result p body) =
      MethodDecl (spot place) (text_at texts name) (map (param_at texts) params.items) (type_at texts result) (node_at texts body)
  node_at texts (held.ConstructorDecl' place params calls_super p arguments q body) =
      ConstructorDecl (spot place) (map (param_at texts) params.items) calls_super (node_at texts arguments) (node_at texts body)
  node_at texts (held.Block' place p ss) = Block (spot place) (node_at texts ss)
  node_at texts (held.Local' place name type p e) = Local (spot place) (text_at texts name) (type_at texts type) (node_at texts e)
  node_at texts (held.If' place p arms q otherwise) = If (spot place) (node_at texts arms) (node_at texts otherwise)
  node_at texts (held.While' place p c q b) = While (spot place) (node_at texts c) (node_at texts b)
  node_at texts (held.For' place p first q condition r next s body) =
      For (spot place) (node_at texts first) (node_at texts condition) (node_at texts next) (node_at texts body)
  node_at texts (held.Return' place p e) = Return (spot place) (node_at texts e)
  node_at texts (held.Break place) = Break (spot place)
  node_at texts (held.Continue place) = Continue (spot place)
  node_at texts (held.Assign' place p t q e) = Assign (spot place) (node_at texts t) (node_at texts e)
  node_at texts (held.Eval' place p e) = Eval (spot place) (node_at texts e)
  node_at texts (held.Number place s) = Number (spot place) (text_at texts s)
  node_at texts (held.CharLiteral place s) = CharLit (spot place) (text_at texts s)
  node_at texts (held.StringLiteral place s) = StringLit (spot place) (text_at texts s)
  node_at texts (held.True place) = True (spot place)
  node_at texts (held.False place) = False (spot place)
  node_at texts (held.Null place) = Null (spot place)
  node_at texts (held.This place) = This (spot place)
  node_at texts (held.Name place s) = Name (spot place) (text_at texts s)
  node_at texts (held.NewObject' place s p arguments) = NewObject (spot place) (text_at texts s) (node_at texts arguments)
  node_at texts (held.NewArray' place type p size) = NewArray (spot place) (type_at texts type) (node_at texts size)
  node_at texts (held.Unary' place ops p e) = Unary (spot place) ops.items (node_at texts e)
  node_at texts (held.Chain' place p first q parts) = Chain (spot place) (node_at texts first) (node_at texts parts)
  node_at texts (held.Part' place op p e) = Part (spot place) op (node_at texts e)
  node_at texts (held.TypePart place op type) = TypePart (spot place) op (type_at texts type)
  node_at texts (held.Postfix' place p e q suffixes) = Postfix (spot place) (node_at texts e) (node_at texts suffixes)
  node_at texts (held.Member place s) = Member (spot place) (text_at texts s)
  node_at texts (held.Index' place p e) = Index (spot place) (node_at texts e)
  node_at texts (held.Call' place p arguments) = Call (spot place) (node_at texts arguments)

  -- a row of nodes
  pub nodes_at : List (List ℕ) → {m : _} → held.Row_of-Node m → Node
  nodes_at texts held.end_of-Node = Nothing
  nodes_at texts (held.more_of-Node n rest) = Then (node_at texts n) (nodes_at texts rest)

  -- a row of pairs
  pub arms_at : List (List ℕ) → {m : _} → held.Row_of-Node m → Node
  arms_at texts held.end_of-Node = Nothing
  arms_at texts (held.more_of-Node n rest) = arm_at texts n (arms_at texts rest)

  -- a pair before a row of pairs
  pub arm_at : List (List ℕ) → held.Node → Node → Node
  arm_at texts (held.Pair' p c q b) rest = Arm (node_at texts c) (node_at texts b) rest
  arm_at texts _ rest = rest

abbrev pub row_at : List (List ℕ) → List held.Node → Node
row_at texts [] = Nothing
row_at texts (n ∷ ns) = Then (node_at texts n) (row_at texts ns)

abbrev pub arm_row : List (List ℕ) → List held.Node → Node
arm_row texts [] = Nothing
arm_row texts (n ∷ ns) = arm_at texts n (arm_row texts ns)
