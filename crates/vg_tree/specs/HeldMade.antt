-- What the compiler holds while it makes a tree, without its places in memory.
use Rattle.std.specs.Prelude.{ℕ, List, map, reverse, length}
use Rattle.vg_tree.specs.declared.node.Node.{Node as HeldNode}
use Rattle.vg_tree.specs.declared.type_tree.TypeTree.{TypeTree as HeldType}
use Rattle.vg_syntax.specs.Tree.{Node, TypeTree}
use Rattle.vg_syntax.specs.Made.{Made, Absent, Word, Tree, Row, Type', Types, Typed, Params, Operators, Pair, Arms, Header, Levels, Indexed, Sized, Object}
use Rattle.vg_syntax.specs.Made.{Array, Value}
use Rattle.vg_tree.specs.Held.{text_at, type_at, type_row, param_at, node_at, row_at, arm_row}
use Rattle.vg_tree.specs.declared.made.Made.{Made as HeldMade}
use Rattle.vg_tree.specs.declared.made.Made.TheVariants as held
use Rattle.vg_tree.specs.declared.made.Value.{Value as HeldValue}

-- a row that is being made stands in the compiler from its end to its front
abbrev pub row_back : List (List ℕ) → List HeldNode → Node
row_back texts ns = row_at texts (reverse ns)

abbrev pub arms_back : List (List ℕ) → List HeldNode → Node
arms_back texts ns = arm_row texts (reverse ns)

abbrev pub types_back : List (List ℕ) → List HeldType → TypeTree
types_back texts ts = type_row texts (reverse ts)

abbrev pub made_at : List (List ℕ) → HeldMade → Made
made_at texts held.Absent = Absent
made_at texts (held.Word k s) = Word k (text_at texts s)
made_at texts (held.Tree n) = Tree (node_at texts n)
made_at texts (held.Row ns) = Row (row_back texts ns.items)
made_at texts (held.Type t) = Type' (type_at texts t)
made_at texts (held.Types ts) = Types (types_back texts ts.items)
made_at texts (held.Typed p) = Typed (param_at texts p)
made_at texts (held.Params ps) = Params (map (param_at texts) (reverse ps.items))
made_at texts (held.Operators ks) = Operators (reverse ks.items)
made_at texts (held.Pair c m) = Pair (text_at texts c) (text_at texts m)
made_at texts (held.Arms arms otherwise) = Arms (arms_back texts arms.items) (node_at texts otherwise)
made_at texts (held.Header f c n) = Header (node_at texts f) (node_at texts c) (node_at texts n)
made_at texts (held.Levels ls ss) = Levels (length ls.items) (row_back texts ss.items)
made_at texts (held.Indexed e ss) = Indexed (node_at texts e) (row_back texts ss.items)
made_at texts (held.Sized ls e ss) = Sized (length ls.items) (node_at texts e) (row_back texts ss.items)
made_at texts (held.Object s args ss) = Object (text_at texts s) (row_back texts args.items) (row_back texts ss.items)
made_at texts (held.Array t e ss) = Array (type_at texts t) (node_at texts e) (row_back texts ss.items)

abbrev pub value_at : List (List ℕ) → HeldValue → Value
value_at texts v = record { place = v.place; made = made_at texts v.made }
