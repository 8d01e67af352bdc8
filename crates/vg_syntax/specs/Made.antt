-- What the tokens and the parts of a parse stand for while its tree is made.
use Rattle.std.specs.Prelude.{ℕ, zero, suc, Bool, true, false, List, [], Option, Some, None}
use Rattle.vg_base.specs.declared.place.Place.{Place}
use Rattle.vg_syntax.specs.declared.kind.Kind.{Kind}
use Rattle.vg_syntax.specs.declared.kind.Kind.TheVariants as kind
use Rattle.vg_syntax.specs.Tree.{TypeTree, ArrayType, NoType, Param, Node, Nothing}

pub data Made : Type 0 where
  Absent : Made  -- nothing is written
  Word : (kind : Kind) (text : List ℕ) → Made  -- a token
  Tree : (node : Node) → Made  -- a node, or Nothing where an optional one is not written
  Row : (nodes : Node) → Made  -- a row of nodes
  Type' : (type : TypeTree) → Made
  Types : (types : TypeTree) → Made  -- a row of types
  Typed : (param : Param) → Made  -- a name with its type
  Params : (params : List Param) → Made
  Operators : (operators : List Kind) → Made
  Pair : (component method : List ℕ) → Made  -- what an entry names
  Arms : (arms otherwise : Node) → Made  -- what stands behind the first block of an `if`
  Header : (first condition next : Node) → Made  -- the three fields of a `for`
  Levels : (count : ℕ) (suffixes : Node) → Made  -- array levels, and the suffixes behind them
  Indexed : (index suffixes : Node) → Made  -- an index, and the suffixes behind it
  Sized : (count : ℕ) (size suffixes : Node) → Made  -- the size of a new array, its further levels, and the suffixes behind them
  Object : (name : List ℕ) (arguments suffixes : Node) → Made  -- a new object, and the suffixes behind it
  Array : (element : TypeTree) (size suffixes : Node) → Made  -- a new array, and the suffixes behind it

-- what is made, with the place of its first token
pub record Value : Type 0 where
  pub place : Place
  pub made : Made

-- what one of a part's kids holds; of another kind it holds nothing
abbrev pub text_in : Made → List ℕ
text_in (Word k t) = t
text_in _ = []

abbrev pub kind_in : Made → Kind
kind_in (Word k t) = k
kind_in _ = kind.Unknown

abbrev pub node_in : Made → Node
node_in (Tree n) = n
node_in _ = Nothing

abbrev pub row_in : Made → Node
row_in (Row ns) = ns
row_in _ = Nothing

abbrev pub type_in : Made → TypeTree
type_in (Type' t) = t
type_in _ = NoType

abbrev pub types_in : Made → TypeTree
types_in (Types ts) = ts
types_in _ = NoType

abbrev pub param_in : Made → Param
param_in (Typed p) = p
param_in _ = record { name = []; type = NoType }

abbrev pub params_in : Made → List Param
params_in (Params ps) = ps
params_in _ = []

abbrev pub operators_in : Made → List Kind
operators_in (Operators ks) = ks
operators_in _ = []

abbrev pub component_in : Made → List ℕ
component_in (Pair c m) = c
component_in _ = []

abbrev pub method_in : Made → List ℕ
method_in (Pair c m) = m
method_in _ = []

abbrev pub arms_in : Made → Node
arms_in (Arms a o) = a
arms_in _ = Nothing

abbrev pub otherwise_in : Made → Node
otherwise_in (Arms a o) = o
otherwise_in _ = Nothing

abbrev pub count_in : Made → ℕ
count_in (Levels n s) = n
count_in _ = 0

abbrev pub suffixes_in : Made → Node
suffixes_in (Levels n s) = s
suffixes_in _ = Nothing

abbrev pub first_in : Made → Node
first_in (Header f c n) = f
first_in _ = Nothing

abbrev pub condition_in : Made → Node
condition_in (Header f c n) = c
condition_in _ = Nothing

abbrev pub next_in : Made → Node
next_in (Header f c n) = n
next_in _ = Nothing

-- the name of a class above, where one is written
abbrev pub above_in : Made → Option (List ℕ)
above_in (Word k t) = Some t
above_in _ = None

-- whether a row is written at all
abbrev pub is_row : Made → Bool
is_row (Row ns) = true
is_row _ = false

-- so many array levels over a type
abbrev pub arrays : ℕ → TypeTree → TypeTree
arrays zero t = t
arrays (suc n) t = ArrayType (arrays n t)
