-- Nodes that stand for nothing.
use Rattle.std.specs.Prelude.{Bool, true, false}
use Rattle.vg_tree.specs.declared.node.Node as held
use Rattle.vg_syntax.specs.Tree.{Node, Nothing}

abbrev pub is_nothing : Node → Bool
is_nothing Nothing = true
is_nothing _ = false

-- a condition and its block
abbrev pub is_pair : held.Node → Bool
is_pair (held.Pair' p c q b) = true
is_pair _ = false
