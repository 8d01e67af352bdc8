-- The tree of a text: what each part of the grammar makes of its kids.
use Rattle.std.specs.Prelude.{ℕ, suc, ◌≡◌, List, [], ◌∷◌}
use Rattle.vg_base.specs.declared.place.Place.{Place}
use Rattle.vg_syntax.specs.declared.kind.Kind.{Kind}
use Rattle.vg_syntax.specs.declared.kind.Kind.TheVariants as kind
use Rattle.vg_syntax.specs.declared.token.Token.{Token}
use Rattle.vg_syntax.specs.declared.grammar.Part.{Part}
use Rattle.vg_syntax.specs.declared.grammar.Part.TheVariants as part
use Rattle.vg_syntax.specs.Tokens.{IsTokens, text_of}
use Rattle.vg_syntax.specs.Parses.{Parse, Nil, Tok, Sub, IsParse}
use Rattle.vg_syntax.specs.Tree.{Spot, TypeTree, IntType, BoolType, CharType, RawType, ClassType, FunctionType, NoType, MoreTypes, Node, Nothing, Then, Arm}
use Rattle.vg_syntax.specs.Tree.{Text, ClassDecl, ComponentDecl, DeviceDecl, RegisterDecl, ProgramDecl, EntryDecl, FieldDecl, MethodDecl, ConstructorDecl}
use Rattle.vg_syntax.specs.Tree.{Block, Local, If, While, For, Return, Break, Continue, Assign, Eval, Number, CharLit, StringLit, True, False, Null, This}
use Rattle.vg_syntax.specs.Tree.{Name, NewObject, NewArray, Unary, Chain, Part as PartNode, TypePart, Postfix, Member, Index, Call}
use Rattle.vg_syntax.specs.Made.{Made, Absent, Word, Tree, Row, Type', Types, Typed, Params, Operators, Pair, Arms, Header, Levels, Indexed, Sized, Object}
use Rattle.vg_syntax.specs.Made.{Array, Value, text_in, kind_in, node_in, row_in, type_in, types_in, param_in, params_in, operators_in, component_in}
use Rattle.vg_syntax.specs.Made.{method_in, arms_in, otherwise_in, count_in, suffixes_in, first_in, condition_in, next_in, above_in, is_row, arrays}
use Rattle.vg_syntax.specs.Numbering.{numbered}

-- the kids of a part
pub data Kids : Type 0 where
  Zero : Kids
  One : (a : Value) → Kids
  Two : (a b : Value) → Kids
  Three : (a b c : Value) → Kids
  Four : (a b c d : Value) → Kids
  Five : (a b c d e : Value) → Kids
  Many : Kids

abbrev pub kids_of : List Value → Kids
kids_of [] = Zero
kids_of (a ∷ []) = One a
kids_of (a ∷ b ∷ []) = Two a b
kids_of (a ∷ b ∷ c ∷ []) = Three a b c
kids_of (a ∷ b ∷ c ∷ d ∷ []) = Four a b c d
kids_of (a ∷ b ∷ c ∷ d ∷ e ∷ []) = Five a b c d e
kids_of _ = Many

-- a node's spot before nodes are numbered
abbrev pub spot : Place → Spot
spot place = record { id = 0; place = place }

abbrev pub value : Place → Made → Value
value place m = record { place = place; made = m }

-- the value of a part that is not written; its place is never looked at
abbrev pub unwritten : Made → Value
unwritten m = value (record { line = 1; col = 1 }) m

-- ROWS

-- a first node, and a row behind it
abbrev pub rowed : Kids → Value
rowed (Two a rest) = value a.place (Row (Then (node_in a.made) (row_in rest.made)))
rowed _ = unwritten (Row Nothing)

-- the same behind a comma
abbrev pub more_rowed : Kids → Value
more_rowed (Three comma a rest) = value comma.place (Row (Then (node_in a.made) (row_in rest.made)))
more_rowed _ = unwritten (Row Nothing)

-- what stands in brackets, with the place of the first bracket
abbrev pub enclosed : Kids → Value
enclosed (Three left a close) = value left.place a.made
enclosed _ = unwritten Absent

-- the only kid, or no node
abbrev pub optional : Kids → Value
optional (One a) = a
optional _ = unwritten (Tree Nothing)

-- a node behind its sign, or no node
abbrev pub behind_sign : Kids → Value
behind_sign (Two sign a) = value sign.place (Tree (node_in a.made))
behind_sign _ = unwritten (Tree Nothing)

-- DECLARATIONS

abbrev pub whole : Kids → Value
whole (Two a rest) = value a.place (Tree (Text (spot a.place) (Then (node_in a.made) (row_in rest.made))))
whole _ = unwritten Absent

abbrev pub declared : Kind → Place → List ℕ → Node → Node
declared kind.Component place name body = ComponentDecl (spot place) name body
declared kind.Device place name body = DeviceDecl (spot place) name body
declared _ place name body = ProgramDecl (spot place) name body

abbrev pub declaration : Kids → Value
declaration (Four word name above body) = value word.place (Tree (ClassDecl (spot word.place) (text_in name.made) (above_in above.made) (row_in body.made)))
declaration (Three word name body) = value word.place (Tree (declared (kind_in word.made) word.place (text_in name.made) (row_in body.made)))
declaration _ = unwritten Absent

abbrev pub extended : Kids → Value
extended (Two word name) = value word.place name.made
extended _ = unwritten Absent

abbrev pub register : Kids → Value
register (Five word name equal number end) = value word.place (Tree (RegisterDecl (spot word.place) (text_in name.made) (text_in number.made)))
register _ = unwritten Absent

abbrev pub entry : Kids → Value
entry (Five word key equal handler end) =
    value word.place (Tree (EntryDecl (spot word.place) (text_in key.made) (component_in handler.made) (method_in handler.made)))
entry _ = unwritten Absent

abbrev pub handler : Kids → Value
handler (Three component dot method) = value component.place (Pair (text_in component.made) (text_in method.made))
handler _ = unwritten Absent

abbrev pub field_or_constructor : Kind → Place → (b c d : Made) → Node
field_or_constructor kind.Field place typed initial end = FieldDecl (spot place) (param_in typed).name (param_in typed).type (node_in initial)
field_or_constructor _ place params above block = ConstructorDecl (spot place) (params_in params) (is_row above) (row_in above) (node_in block)

abbrev pub member : Kids → Value
member (Four word b c d) = value word.place (Tree (field_or_constructor (kind_in word.made) word.place b.made c.made d.made))
member (Five word name params result block) =
    value word.place (Tree (MethodDecl (spot word.place) (text_in name.made) (params_in params.made) (type_in result.made) (node_in block.made)))
member _ = unwritten Absent

abbrev pub super_call : Kids → Value
super_call (Three colon word arguments) = value colon.place arguments.made
super_call _ = unwritten Absent

abbrev pub parameters : Kids → Value
parameters (Two a rest) = value a.place (Params (param_in a.made ∷ params_in rest.made))
parameters _ = unwritten (Params [])

abbrev pub more_parameters : Kids → Value
more_parameters (Three comma a rest) = value comma.place (Params (param_in a.made ∷ params_in rest.made))
more_parameters _ = unwritten (Params [])

abbrev pub typed : Kids → Value
typed (Three name colon type) = value name.place (Typed (record { name = text_in name.made; type = type_in type.made }))
typed _ = unwritten Absent

-- TYPES

abbrev pub result_type : Kids → Value
result_type (Two colon type) = value colon.place (Type' (type_in type.made))
result_type _ = unwritten (Type' NoType)

abbrev pub type_of : Kids → Value
type_of (One a) = a
type_of (Three word params result) = value word.place (Type' (FunctionType (types_in params.made) (type_in result.made)))
type_of _ = unwritten Absent

abbrev pub types : Kids → Value
types (Two a rest) = value a.place (Types (MoreTypes (type_in a.made) (types_in rest.made)))
types _ = unwritten (Types NoType)

abbrev pub more_types : Kids → Value
more_types (Three comma a rest) = value comma.place (Types (MoreTypes (type_in a.made) (types_in rest.made)))
more_types _ = unwritten (Types NoType)

abbrev pub plain : Kids → Value
plain (Two atom levels) = value atom.place (Type' (arrays (count_in levels.made) (type_in atom.made)))
plain _ = unwritten Absent

abbrev pub dimensions : Kids → Value
dimensions (Three left close rest) = value left.place (Levels (suc (count_in rest.made)) Nothing)
dimensions _ = unwritten (Levels 0 Nothing)

-- a name stands for a class
abbrev pub atom_of : Made → Made
atom_of (Word k t) = Type' (ClassType t)
atom_of m = m

abbrev pub atom : Kids → Value
atom (One a) = value a.place (atom_of a.made)
atom _ = unwritten Absent

abbrev pub simple_type : Kind → TypeTree
simple_type kind.Int = IntType
simple_type kind.Bool = BoolType
simple_type _ = CharType

abbrev pub raw_or_inner : Kind → (b c : Made) → TypeTree
raw_or_inner kind.Raw dot width = RawType (text_in width)
raw_or_inner _ inner close = type_in inner

abbrev pub other_atom : Kids → Value
other_atom (One word) = value word.place (Type' (simple_type (kind_in word.made)))
other_atom (Three a b c) = value a.place (Type' (raw_or_inner (kind_in a.made) b.made c.made))
other_atom _ = unwritten Absent

-- STATEMENTS

abbrev pub block : Kids → Value
block (Three left statements close) = value left.place (Tree (Block (spot left.place) (row_in statements.made)))
block _ = unwritten Absent

abbrev pub jump : Kind → Place → Node
jump kind.Break place = Break (spot place)
jump _ place = Continue (spot place)

-- a `break` or a `continue`, or a simple statement
abbrev pub statement_of_two : Place → Made → Made
statement_of_two place (Word k t) = Tree (jump k place)
statement_of_two place m = m

abbrev pub statement_of_three : Kind → Place → (b c : Made) → Node
statement_of_three kind.While place condition body = While (spot place) (node_in condition) (node_in body)
statement_of_three kind.Return place e end = Return (spot place) (node_in e)
statement_of_three _ place header body = For (spot place) (first_in header) (condition_in header) (next_in header) (node_in body)

abbrev pub statement_of_four : Kind → Place → (b c d : Made) → Node
statement_of_four kind.If place condition body rest = If (spot place) (Arm (node_in condition) (node_in body) (arms_in rest)) (otherwise_in rest)
statement_of_four _ place typed initial end = Local (spot place) (param_in typed).name (param_in typed).type (node_in initial)

abbrev pub statement : Kids → Value
statement (One a) = a
statement (Two a end) = value a.place (statement_of_two a.place a.made)
statement (Three a b c) = value a.place (Tree (statement_of_three (kind_in a.made) a.place b.made c.made))
statement (Four a b c d) = value a.place (Tree (statement_of_four (kind_in a.made) a.place b.made c.made d.made))
statement _ = unwritten Absent

abbrev pub else_part : Kids → Value
else_part (Two word arm) = value word.place arm.made
else_part _ = unwritten (Arms Nothing Nothing)

abbrev pub else_arm : Kids → Value
else_arm (One body) = value body.place (Arms Nothing (node_in body.made))
else_arm (Four word condition body rest) =
    value word.place (Arms (Arm (node_in condition.made) (node_in body.made) (arms_in rest.made)) (otherwise_in rest.made))
else_arm _ = unwritten Absent

abbrev pub header : Kids → Value
header (Five left first condition next close) = value left.place (Header (node_in first.made) (node_in condition.made) (node_in next.made))
header _ = unwritten Absent

-- an expression alone is evaluated; with a right side it is assigned to
abbrev pub assigned : Place → Node → Node → Node
assigned place e Nothing = Eval (spot place) e
assigned place target right = Assign (spot place) target right

abbrev pub simple : Kids → Value
simple (Two a right) = value a.place (Tree (assigned a.place (node_in a.made) (node_in right.made)))
simple _ = unwritten Absent

-- EXPRESSIONS

-- a chain of one operand is that operand
abbrev pub chained : Value → Node → Value
chained a Nothing = a
chained a parts = value a.place (Tree (Chain (spot a.place) (node_in a.made) parts))

abbrev pub level : Kids → Value
level (Two a rest) = chained a (row_in rest.made)
level _ = unwritten Absent

abbrev pub part_of : Place → Kind → Made → Node
part_of place op (Type' t) = TypePart (spot place) op t
part_of place op operand = PartNode (spot place) op (node_in operand)

abbrev pub rest_of_level : Kids → Value
rest_of_level (Three op a rest) = value op.place (Row (Then (part_of op.place (kind_in op.made) a.made) (row_in rest.made)))
rest_of_level _ = unwritten (Row Nothing)

abbrev pub unary : Kids → Value
unary (One a) = a
unary (Three op ops operand) = value op.place (Tree (Unary (spot op.place) (kind_in op.made ∷ operators_in ops.made) (node_in operand.made)))
unary _ = unwritten Absent

abbrev pub operators : Kids → Value
operators (Two op ops) = value op.place (Operators (kind_in op.made ∷ operators_in ops.made))
operators _ = unwritten (Operators [])

-- an operand without suffixes is that operand
abbrev pub suffixed : Value → Node → Value
suffixed a Nothing = a
suffixed a suffixes = value a.place (Tree (Postfix (spot a.place) (node_in a.made) suffixes))

-- a new object or a new array stands at its `new`
abbrev pub fresh : Place → Made → Value
fresh place (Object name arguments suffixes) = suffixed (value place (Tree (NewObject (spot place) name arguments))) suffixes
fresh place (Array element size suffixes) = suffixed (value place (Tree (NewArray (spot place) element size))) suffixes
fresh place m = value place Absent

abbrev pub postfix_of : Kind → (a b : Value) → Value
postfix_of kind.New a b = fresh a.place b.made
postfix_of _ a b = suffixed a (row_in b.made)

abbrev pub postfix : Kids → Value
postfix (Two a b) = postfix_of (kind_in a.made) a b
postfix _ = unwritten Absent

-- arguments are a call, and an expression in brackets an index
abbrev pub suffix_of : Place → Made → Node
suffix_of place (Row arguments) = Call (spot place) arguments
suffix_of place m = Index (spot place) (node_in m)

abbrev pub suffixes : Kids → Value
suffixes (Three dot name rest) = value dot.place (Row (Then (Member (spot dot.place) (text_in name.made)) (row_in rest.made)))
suffixes (Two a rest) = value a.place (Row (Then (suffix_of a.place a.made) (row_in rest.made)))
suffixes _ = unwritten (Row Nothing)

-- behind `new` and a name stand arguments and suffixes, or a size, levels and suffixes
abbrev pub behind_name : (a b : Made) → Made
behind_name (Row arguments) b = Object [] arguments (row_in b)
behind_name size b = Sized (count_in b) (node_in size) (suffixes_in b)

abbrev pub new_of_name : Kids → Value
new_of_name (Two a b) = value a.place (behind_name a.made b.made)
new_of_name _ = unwritten Absent

abbrev pub named : List ℕ → Made → Made
named name (Object _ arguments suffixes) = Object name arguments suffixes
named name (Sized n size suffixes) = Array (arrays n (ClassType name)) size suffixes
named name m = m

abbrev pub new_part : Kids → Value
new_part (Two name behind) = value name.place (named (text_in name.made) behind.made)
new_part (Three atom size levels) = value atom.place (Array (arrays (count_in levels.made) (type_in atom.made)) (node_in size.made) (suffixes_in levels.made))
new_part _ = unwritten Absent

-- behind a `[` stands an index, or a level closes
abbrev pub bracketed : Place → Made → Made
bracketed place (Indexed e suffixes) = Levels 0 (Then (Index (spot place) e) suffixes)
bracketed place m = m

abbrev pub level_or_suffix : Place → (a b : Made) → Made
level_or_suffix place (Row arguments) rest = Levels 0 (Then (Call (spot place) arguments) (row_in rest))
level_or_suffix place bracket b = bracketed place b

abbrev pub new_levels : Kids → Value
new_levels (Three dot name rest) = value dot.place (Levels 0 (Then (Member (spot dot.place) (text_in name.made)) (row_in rest.made)))
new_levels (Two a b) = value a.place (level_or_suffix a.place a.made b.made)
new_levels _ = unwritten (Levels 0 Nothing)

abbrev pub new_level : Kids → Value
new_level (Two close levels) = value close.place (Levels (suc (count_in levels.made)) (suffixes_in levels.made))
new_level (Three e close rest) = value e.place (Indexed (node_in e.made) (row_in rest.made))
new_level _ = unwritten Absent

abbrev pub literal : Kind → Place → List ℕ → Node
literal kind.Number place text = Number (spot place) text
literal kind.CharLiteral place text = CharLit (spot place) text
literal kind.StringLiteral place text = StringLit (spot place) text
literal kind.True place text = True (spot place)
literal kind.False place text = False (spot place)
literal kind.Null place text = Null (spot place)
literal kind.This place text = This (spot place)
literal _ place text = Name (spot place) text

-- parentheses leave no node, but a larger node that begins with them has the place of the first one
abbrev pub primary : Kids → Value
primary (One word) = value word.place (Tree (literal (kind_in word.made) word.place (text_in word.made)))
primary (Three left e close) = value left.place e.made
primary _ = unwritten Absent

-- what each part makes of its kids
abbrev pub made : Part → Kids → Value
made part.Text k = whole k
made part.Declarations k = rowed k
made part.Declaration k = declaration k
made part.Extends k = extended k
made part.ClassBody k = enclosed k
made part.Members k = rowed k
made part.DeviceBody k = enclosed k
made part.Registers k = rowed k
made part.Register k = register k
made part.ProgramBody k = enclosed k
made part.Entries k = rowed k
made part.Entry k = entry k
made part.Key k = optional k
made part.Handler k = handler k
made part.Member k = member k
made part.Initial k = behind_sign k
made part.Result k = result_type k
made part.SuperCall k = super_call k
made part.Parameters k = enclosed k
made part.ParameterList k = parameters k
made part.MoreParameters k = more_parameters k
made part.Typed k = typed k
made part.Type k = type_of k
made part.TypeArguments k = enclosed k
made part.TypeList k = types k
made part.MoreTypes k = more_types k
made part.PlainResult k = result_type k
made part.Plain k = plain k
made part.Dimensions k = dimensions k
made part.Atom k = atom k
made part.OtherAtom k = other_atom k
made part.Block k = block k
made part.Statements k = rowed k
made part.Statement k = statement k
made part.Condition k = enclosed k
made part.Else k = else_part k
made part.ElseArm k = else_arm k
made part.ForHeader k = header k
made part.ForTest k = enclosed k
made part.MaybeSimple k = optional k
made part.MaybeExpression k = optional k
made part.Simple k = simple k
made part.Assigned k = behind_sign k
made part.Expression k = level k
made part.OrRest k = rest_of_level k
made part.AndLevel k = level k
made part.AndRest k = rest_of_level k
made part.EqualityLevel k = level k
made part.EqualityRest k = rest_of_level k
made part.ComparisonLevel k = level k
made part.ComparisonRest k = rest_of_level k
made part.BitOrLevel k = level k
made part.BitOrRest k = rest_of_level k
made part.BitXorLevel k = level k
made part.BitXorRest k = rest_of_level k
made part.BitAndLevel k = level k
made part.BitAndRest k = rest_of_level k
made part.ShiftLevel k = level k
made part.ShiftRest k = rest_of_level k
made part.ConcatLevel k = level k
made part.ConcatRest k = rest_of_level k
made part.SumLevel k = level k
made part.SumRest k = rest_of_level k
made part.ProductLevel k = level k
made part.ProductRest k = rest_of_level k
made part.CastLevel k = level k
made part.CastRest k = rest_of_level k
made part.Unary k = unary k
made part.Operators k = operators k
made part.Postfix k = postfix k
made part.Suffixes k = suffixes k
made part.Index k = enclosed k
made part.Arguments k = enclosed k
made part.ArgumentList k = rowed k
made part.MoreArguments k = more_rowed k
made part.New k = new_part k
made part.NewOfName k = new_of_name k
made part.NewLevels k = new_levels k
made part.NewLevel k = new_level k
made part.Primary k = primary k

-- THE TREE

abbrev pub leaf : List ℕ → Token → Value
leaf bytes t = value t.place (Word t.kind (text_of bytes t))

-- what a row of parses of these bytes makes
abbrev pub values : List ℕ → Parse → List Value
values bytes Nil = []
values bytes (Tok t p) = leaf bytes t ∷ values bytes p
values bytes (Sub n a kids p) = made n (kids_of (values bytes kids)) ∷ values bytes p

-- the tree of the one value of a whole text
abbrev pub tree_in : List Value → Node
tree_in (v ∷ []) = numbered 0 (node_in v.made)
tree_in _ = Nothing

-- The tree is that of the bytes, however deep their brackets are.
abbrev pub Reads : List ℕ → Node → Type 0
Reads bytes tree = (ts : List Token) × (p : Parse) × IsTokens bytes ts × IsParse ts p × (tree_in (values bytes p) ≡ tree)
