-- Mirrors: how the code walks a tree. No clause of a method of the tree cites them.
use Rattle.std.specs.Prelude.{ℕ, ◌+◌, ◌==◌, ◌≤◌, if◌then◌else◌}
use Rattle.vg_syntax.specs.Outline.{Outline, Empty, Beside, Inner, size, total}
use Rattle.vg_tree_walks.specs.declared.walk.Walk.{Walk}
use Rattle.vg_tree_walks.specs.declared.walk.Counted.{Counted}
use Rattle.vg_tree_walks.specs.declared.walk.Counted.TheVariants.{Declaration, Code}

-- a walk has found no more than it passed
pub record IsWalk (w : Walk) : Type 0 where
  pub found : w.found ≤ w.code
  pub code : w.code ≤ w.next

-- the statements and expressions at and below the node of number i, where the first node has the number `start`
abbrev pub found : (start i : ℕ) → Outline → ℕ
found start i Empty = 0
found start i (Beside first rest) = found start i first + found (start + size first) i rest
found start i (Inner id weight children) = if start == i then weight + total children else found (start + 1) i children

-- how much there is to walk: less in each part
abbrev pub bulk : Outline → ℕ
bulk Empty = 0
bulk (Beside first rest) = 1 + bulk first + bulk rest
bulk (Inner id weight children) = 1 + bulk children

-- what a node adds to the number of statements and expressions
abbrev pub weight : Counted → ℕ
weight Declaration = 0
weight Code = 1
