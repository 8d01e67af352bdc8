use Rattle.std.proofs.Common.{[], map, drop, ◌+◌, ◌*◌}
use Rattle.std.specs.Option.{option_map}
use Rattle.vg_syntax.specs.Tree.{Nothing}
use Rattle.vg_syntax.specs.Outline.{outline}
use Rattle.vg_tree.specs.Held.{node_at, row_at, arm_at, arm_row}
use Rattle.vg_tree_walks.specs.Walks.{bulk}
use Rattle.vg_tree_walks.specs.Children.{kid_at, kids_at}
use Rattle.vg_types_literals.specs.Found.{seen, passed}
use Rattle.vg_types_literals.proofs.Passing.{Going}
use Rattle.vg_types_literals.proofs.walk.+pass.Given as goal

abbrev pub invariant-pass_row-row : goal.invariant-pass_row-row
invariant-pass_row-row l =
    Going l.names (seen l.fn.search) (seen l.search) (λ texts. row_at texts l.nodes) (λ texts. row_at texts (drop l.node-index l.nodes))

abbrev pub invariant-pass_arms-arms : goal.invariant-pass_arms-arms
invariant-pass_arms-arms l =
    Going l.names (seen l.fn.search) (seen l.search) (λ texts. arm_row texts l.nodes) (λ texts. arm_row texts (drop l.node-index l.nodes))

abbrev pub invariant-pass_inner-children : goal.invariant-pass_inner-children
invariant-pass_inner-children l =
    Going l.names (passed (seen l.fn.search)) (seen l.search) (λ texts. kids_at texts (map (option_map (λ kid. kid.now)) l.child-items))
    (λ texts. kids_at texts (map (option_map (λ kid. kid.now)) (drop l.child-index l.child-items)))

abbrev pub decreases-pass : goal.decreases-pass
decreases-pass l = 4 * bulk (outline (node_at [] l.node.now)) + 3

abbrev pub decreases-pass_row : goal.decreases-pass_row
decreases-pass_row l = 4 * bulk (outline (row_at [] l.nodes.now)) + 1

abbrev pub decreases-pass_arms : goal.decreases-pass_arms
decreases-pass_arms l = 4 * bulk (outline (arm_row [] l.nodes.now)) + 1

abbrev pub decreases-pass_arm : goal.decreases-pass_arm
decreases-pass_arm l = 4 * bulk (outline (arm_at [] l.node.now Nothing))

abbrev pub decreases-pass_inner : goal.decreases-pass_inner
decreases-pass_inner l = 4 * bulk (outline (node_at [] l.node.now)) + 2

abbrev pub decreases-pass_child : goal.decreases-pass_child
decreases-pass_child l = 4 * bulk (outline (kid_at [] (option_map (λ kid. kid.now) l.child))) + 4
