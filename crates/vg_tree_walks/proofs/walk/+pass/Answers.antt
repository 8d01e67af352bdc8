use Rattle.std.proofs.Common.{[], ◌+◌, ◌<◌, map, drop, get_or, sym, subst}
use Rattle.std.specs.Option.{option_map}
use Rattle.vg_syntax.specs.Outline.{outline}
use Rattle.vg_tree.specs.Held.{node_at, arm_row}
use Rattle.vg_tree_walks.specs.Children.{kids_at}
use Rattle.vg_tree.proofs.RowLists.{row_same}
use Rattle.vg_tree.proofs.ArmLists.{arms_same}
use Rattle.vg_tree_walks.proofs.Passing.{Passing, passing_starts, passing_on, arm_joins, kid_joins, left_at, left_of}
use Rattle.vg_tree_walks.proofs.walk.+pass.Goals as goal

pub pass-row-init : goal.pass-row-init
pass-row-init t c =
    subst (λ r. Passing c.args.target c.args.so_far c.args.so_far (outline (node_at [] c.args.node.now)) (outline r))
    (row_same c.args.node.now c.in-Row.nodes c.as_slice-node-items.result.now c.in-Row.is c.as_slice-node-items.ensures.value [])
    (passing_starts c.args.target c.args.so_far (outline (node_at [] c.args.node.now)) c.requires.sound)

pub pass-arms-init : goal.pass-arms-init
pass-arms-init t c =
    subst (λ r. Passing c.args.target c.args.so_far c.args.so_far (outline (node_at [] c.args.node.now)) (outline r))
    (arms_same c.args.node.now c.in-Arms.nodes c.as_slice-node-items-in-Arms.result.now c.in-Arms.is c.as_slice-node-items-in-Arms.ensures.value [])
    (passing_starts c.args.target c.args.so_far (outline (node_at [] c.args.node.now)) c.requires.sound)

pub pass-arms-preserved : goal.pass-arms-preserved
pass-arms-preserved t c =
    passing_on _ _ _ _ _ _ _ _
    (subst (λ r. Passing c.args.target c.args.so_far c.arms.passed (outline (node_at [] c.args.node.now)) (outline (arm_row [] r)))
    (left_of c.as_slice-node-items-in-Arms.result.now c.arms.node-index c.node-item-in-arms.result c.arms-test.true (sym c.node-item-in-arms.is))
    c.arms.invariant)
    (arm_joins c.node-item-in-arms.result (arm_row [] (drop (c.arms.node-index + 1) c.as_slice-node-items-in-Arms.result.now)))
    c.pass_arm-passed.ensures.next c.pass_arm-passed.ensures.code c.pass_arm-passed.ensures.found c.pass_arm-passed.ensures.sound

pub pass_inner-children-preserved : goal.pass_inner-children-preserved
pass_inner-children-preserved t c =
    passing_on _ _ _ _ _ _ _ _
    (subst (λ r. Passing c.args.target c.begun-passed.result c.children.passed
    (outline (kids_at [] (map (option_map (λ kid. kid.now)) c.children-child-items.result))) (outline (kids_at [] (map (option_map (λ kid. kid.now)) r))))
    (left_at c.children-child-items.result c.children.child-index c.child-item.result
    (subst (λ n. c.children.child-index < n) (sym c.children-child-items.ensures.four) c.children-test.true)) c.children.invariant)
    (kid_joins (option_map (λ kid. kid.now) (get_or c.children-child-items.result c.children.child-index c.child-item.result))
    (map (option_map (λ kid. kid.now)) (drop (c.children.child-index + 1) c.children-child-items.result)))
    c.pass_child-passed.ensures.next c.pass_child-passed.ensures.code c.pass_child-passed.ensures.found c.pass_child-passed.ensures.sound
