use Rattle.std.proofs.Common.{[], map, drop, ◌+◌, ◌*◌}
use Rattle.std.specs.Option.{option_map}
use Rattle.vg_syntax.specs.Tree.{Nothing}
use Rattle.vg_syntax.specs.Outline.{outline}
use Rattle.vg_tree.specs.Held.{node_at, row_at, arm_at, arm_row}
use Rattle.vg_tree_walks.specs.Children.{kid_at, kids_at}
use Rattle.vg_tree_walks.specs.Walks.{bulk}
use Rattle.vg_tree_walks.proofs.Passing.{Passing}
use Rattle.vg_tree_walks.proofs.walk.+pass.Given as goal

abbrev pub invariant-pass-row : goal.invariant-pass-row
invariant-pass-row l = Passing l.target l.fn.so_far l.passed (outline (node_at [] l.fn.node)) (outline (row_at [] (drop l.node-index l.node-items)))

abbrev pub invariant-pass-arms : goal.invariant-pass-arms
invariant-pass-arms l = Passing l.target l.fn.so_far l.passed (outline (node_at [] l.fn.node)) (outline (arm_row [] (drop l.node-index l.node-items)))

abbrev pub invariant-pass_inner-children : goal.invariant-pass_inner-children
invariant-pass_inner-children l =
    Passing l.target l.initial.passed l.passed (outline (kids_at [] (map (option_map (λ kid. kid.now)) l.child-items)))
    (outline (kids_at [] (map (option_map (λ kid. kid.now)) (drop l.child-index l.child-items))))

abbrev pub decreases-pass : goal.decreases-pass
decreases-pass l = 3 * bulk (outline (node_at [] l.node.now)) + 2

abbrev pub decreases-pass_inner : goal.decreases-pass_inner
decreases-pass_inner l = 3 * bulk (outline (node_at [] l.node.now)) + 1

abbrev pub decreases-pass_child : goal.decreases-pass_child
decreases-pass_child l = 3 * bulk (outline (kid_at [] (option_map (λ kid. kid.now) l.child))) + 3

abbrev pub decreases-pass_arm : goal.decreases-pass_arm
decreases-pass_arm l = 3 * bulk (outline (arm_at [] l.node.now Nothing))
