-- The whole tree of a text. The texts are those of its names, in order of their numbers.
use Rattle.std.specs.Prelude.{ℕ, List, []}
use Rattle.vg_syntax.specs.Tree.{Node}
use Rattle.vg_syntax.specs.Numbering.{numbered, count_nodes}
use Rattle.vg_tree.specs.Held.{node_at}
use Rattle.vg_tree_walks.specs.declared.tree.Tree.{Tree}

-- the tree that the compiler holds, its nodes numbered
abbrev pub tree_at : List (List ℕ) → Tree → Node
tree_at texts tree = numbered 0 (node_at texts tree.root)

-- how many nodes a tree has; the texts of its names do not count
abbrev pub node_count : Tree → ℕ
node_count tree = count_nodes (node_at [] tree.root)
