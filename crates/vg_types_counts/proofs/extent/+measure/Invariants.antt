use Rattle.std.proofs.Common.{[], map, drop, ◌+◌, ◌*◌}
use Rattle.std.specs.Option.{option_map}
use Rattle.vg_syntax.specs.Tree.{Nothing}
use Rattle.vg_syntax.specs.Outline.{outline}
use Rattle.vg_tree.specs.Held.{node_at, row_at, arm_at, arm_row}
use Rattle.vg_tree_walks.specs.Walks.{bulk}
use Rattle.vg_tree_walks.specs.Children.{kid_at, kids_at}
use Rattle.vg_types_counts.proofs.Measuring.{Measuring}
use Rattle.vg_types_counts.proofs.extent.+measure.Given as goal

abbrev pub invariant-measure-row : goal.invariant-measure-row
invariant-measure-row l = Measuring (λ texts. node_at texts l.fn.node) (λ texts. row_at texts (drop l.node-index l.node-items)) l.all

abbrev pub invariant-measure-arms : goal.invariant-measure-arms
invariant-measure-arms l = Measuring (λ texts. node_at texts l.fn.node) (λ texts. arm_row texts (drop l.node-index l.node-items)) l.all

abbrev pub invariant-inner_extent-children : goal.invariant-inner_extent-children
invariant-inner_extent-children l =
    Measuring (λ texts. kids_at texts (map (option_map (λ kid. kid.now)) l.child-items))
    (λ texts. kids_at texts (map (option_map (λ kid. kid.now)) (drop l.child-index l.child-items))) l.all

abbrev pub decreases-measure : goal.decreases-measure
decreases-measure l = 3 * bulk (outline (node_at [] l.node.now)) + 2

abbrev pub decreases-inner_extent : goal.decreases-inner_extent
decreases-inner_extent l = 3 * bulk (outline (node_at [] l.node.now)) + 1

abbrev pub decreases-kid_extent : goal.decreases-kid_extent
decreases-kid_extent l = 3 * bulk (outline (kid_at [] (option_map (λ kid. kid.now) l.child))) + 3

abbrev pub decreases-arm_extent : goal.decreases-arm_extent
decreases-arm_extent l = 3 * bulk (outline (arm_at [] l.node.now Nothing))
