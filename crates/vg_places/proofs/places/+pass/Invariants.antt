use Rattle.std.proofs.Common.{◌≡◌, ℕ, List, [], drop, ◌+◌, ◌*◌, ◌≤◌}
use Rattle.std.specs.Option.{option_map}
use Rattle.vg_syntax.specs.Tree.{Nothing}
use Rattle.vg_syntax.specs.Outline.{outline}
use Rattle.vg_tree.specs.Held.{node_at, row_at, arm_at, arm_row}
use Rattle.vg_tree_walks.specs.Walks.{bulk}
use Rattle.vg_places.specs.Search.{kid_bulk}
use Rattle.vg_places.proofs.Passing.{Passing}
use Rattle.vg_places.proofs.places.+pass.Given as goal

abbrev pub invariant-pass-row : goal.invariant-pass-row
invariant-pass-row l = Passing l.fn.so_far l.passed (λ texts. node_at texts l.fn.node) (λ texts. row_at texts (drop l.node-index l.node-items))

abbrev pub invariant-pass-arms : goal.invariant-pass-arms
invariant-pass-arms l = Passing l.fn.so_far l.passed (λ texts. node_at texts l.fn.node) (λ texts. arm_row texts (drop l.node-index l.node-items))

abbrev pub decreases-pass : goal.decreases-pass
decreases-pass l = 3 * bulk (outline (node_at [] l.node.now)) + 2

abbrev pub decreases-pass_inner : goal.decreases-pass_inner
decreases-pass_inner l = 3 * bulk (outline (node_at [] l.node.now)) + 1

abbrev pub decreases-pass_child : goal.decreases-pass_child
decreases-pass_child l = 3 * kid_bulk (option_map (λ kid. kid.now) l.child) + 3

abbrev pub decreases-pass_arm : goal.decreases-pass_arm
decreases-pass_arm l = 3 * bulk (outline (arm_at [] l.node.now Nothing))
