-- Mirrors: how the code goes through a text. No clause of a public function cites them.
use Rattle.std.specs.Prelude.{ℕ, ◌+◌, Bool, true, false, List, [], ◌∷◌, ◌++◌}
use Rattle.vg_syntax.specs.Tree.{Node}
use Rattle.vg_syntax.specs.Numbering.{count_nodes, numbered}
use Rattle.vg_tree.specs.declared.node.Node as held
use Rattle.vg_source.specs.Nodes.{literal_nodes, literals}
use Rattle.vg_types_literals.specs.declared.search.Search.{Search}

-- the number of the next node, and the nodes and the bytes of the literals before it
pub record Seen : Type 0 where
  pub next : ℕ
  pub nodes : List ℕ
  pub texts : List (List ℕ)

abbrev pub seen : Search → Seen
seen s = record { next = s.next; nodes = s.nodes.keys; texts = s.texts }

-- before the first declaration
abbrev pub first_seen : Seen
first_seen = record { next = 1; nodes = []; texts = [] }

-- past a node that is no literal
abbrev pub passed : Seen → Seen
passed s = record { next = s.next + 1; nodes = s.nodes; texts = s.texts }

-- behind a literal of these bytes
abbrev pub with_literal : List ℕ → Seen → Seen
with_literal bytes s = record { next = s.next + 1; nodes = s.nodes ++ s.next ∷ []; texts = s.texts ++ bytes ∷ [] }

-- behind a node and all below it, or behind a row
abbrev pub behind : Node → Seen → Seen
behind a s = record {
  next = s.next + count_nodes a;
  nodes = s.nodes ++ literal_nodes (numbered s.next a);
  texts = s.texts ++ literals (numbered s.next a);
}

-- a node that the compiler holds is a string literal
abbrev pub is_literal : held.Node → Bool
is_literal (held.StringLiteral place spelled) = true
is_literal _ = false
