use Rattle.std.proofs.Common.{[], map, drop, ◌+◌, ◌*◌}
use Rattle.std.specs.Option.{option_map}
use Rattle.vg_syntax.specs.Tree.{Nothing}
use Rattle.vg_syntax.specs.Outline.{outline}
use Rattle.vg_tree.specs.Held.{node_at, row_at, arm_at, arm_row}
use Rattle.vg_tree_walks.specs.Walks.{bulk}
use Rattle.vg_tree_walks.specs.Children.{kid_at, kids_at}
use Rattle.vg_types_counts.specs.Extents.{own_local}
use Rattle.vg_costs.proofs.Counting.{Counting}
use Rattle.vg_costs.proofs.locals.+count_locals.Given as goal

abbrev pub invariant-count_locals-row : goal.invariant-count_locals-row
invariant-count_locals-row l = Counting 0 (λ texts. node_at texts l.fn.node) (λ texts. row_at texts (drop l.node-index l.node-items)) l.all

abbrev pub invariant-count_locals-arms : goal.invariant-count_locals-arms
invariant-count_locals-arms l = Counting 0 (λ texts. node_at texts l.fn.node) (λ texts. arm_row texts (drop l.node-index l.node-items)) l.all

abbrev pub invariant-inner_locals-children : goal.invariant-inner_locals-children
invariant-inner_locals-children l =
    Counting (own_local l.fn.node) (λ texts. kids_at texts (map (option_map (λ kid. kid.now)) l.child-items))
    (λ texts. kids_at texts (map (option_map (λ kid. kid.now)) (drop l.child-index l.child-items))) l.all

abbrev pub decreases-count_locals : goal.decreases-count_locals
decreases-count_locals l = 3 * bulk (outline (node_at [] l.node.now)) + 2

abbrev pub decreases-inner_locals : goal.decreases-inner_locals
decreases-inner_locals l = 3 * bulk (outline (node_at [] l.node.now)) + 1

abbrev pub decreases-kid_locals : goal.decreases-kid_locals
decreases-kid_locals l = 3 * bulk (outline (kid_at [] (option_map (λ kid. kid.now) l.child))) + 3

abbrev pub decreases-arm_locals : goal.decreases-arm_locals
decreases-arm_locals l = 3 * bulk (outline (arm_at [] l.node.now Nothing))
