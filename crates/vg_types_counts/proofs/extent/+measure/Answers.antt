use Rattle.std.proofs.Common.{[], ◌+◌, ◌<◌, ◌≤◌, drop, map, get_or, sym, subst, ap, ◌∙◌, arith}
use Rattle.std.specs.Option.{option_map}
use Rattle.vg_syntax.specs.Outline.{size}
use Rattle.vg_tree.specs.Held.{node_at, arm_row}
use Rattle.vg_tree_walks.specs.Walks.{bulk}
use Rattle.vg_tree_walks.proofs.Passing.{left_of}
use Rattle.vg_tree.proofs.RowLists.{row_same}
use Rattle.vg_tree.proofs.ArmLists.{arms_same}
use Rattle.vg_tree_walks.specs.Children.{kids_at}
use Rattle.vg_types_counts.specs.Extents.{own_local, locals_in, around}
use Rattle.vg_types_counts.proofs.Measuring.{Measuring, measuring_starts, measuring_on, front_nodes, arm_joins, kid_joins, kids_left, kid_fits}
use Rattle.vg_types_counts.proofs.Measuring.{kids_done, node_measured, locals_of}
use Rattle.vg_types_counts.proofs.extent.+measure.Goals as goal

pub inner_extent-kid_extent-requires : goal.inner_extent-kid_extent-requires
inner_extent-kid_extent-requires t c =
    let o = c.children-child-items.ensures.outline c.requires.numbered [] in
    let b = ap bulk o in
    let s = ap size o in
    let k = kid_fits (λ kid. kid.now) c.children-child-items.result c.children.child-index c.child-item.result c.children.all
    (subst (λ n. c.children.child-index < n) (sym c.children-child-items.ensures.four) c.children-test.true) c.children.invariant in
    let fits = k.0 in
    let less = k.1 in
    let room = c.requires.room in
    (omega (arith, b, less), omega (arith, s, fits, room))

pub inner_extent-beside-all-requires-clause-room : goal.inner_extent-beside-all-requires-clause-room
inner_extent-beside-all-requires-clause-room t c =
    let s = ap size (c.children-child-items.ensures.outline c.requires.numbered []) in
    let k = kid_fits (λ kid. kid.now) c.children-child-items.result c.children.child-index c.child-item.result c.children.all
    (subst (λ n. c.children.child-index < n) (sym c.children-child-items.ensures.four) c.children-test.true) c.children.invariant in
    let fits = k.0 in
    let room = c.requires.room in
    let n = ap (λ z. z.nodes) (c.kid_extent.ensures.measured []) in
    omega (arith, s, fits, room, n)

pub inner_extent-children-preserved : goal.inner_extent-children-preserved
inner_extent-children-preserved t c =
    measuring_on _ _ _ _ _ _ _
    (kids_left (λ kid. kid.now) c.children-child-items.result c.children.child-index c.child-item.result c.children.all
    (subst (λ n. c.children.child-index < n) (sym c.children-child-items.ensures.four) c.children-test.true) c.children.invariant)
    (kid_joins (option_map (λ kid. kid.now) (get_or c.children-child-items.result c.children.child-index c.child-item.result))
    (map (option_map (λ kid. kid.now)) (drop (c.children.child-index + 1) c.children-child-items.result)))
    c.kid_extent.ensures.measured c.beside-all.ensures.measured c.beside-all.ensures.sound

pub inner_extent-around-requires-clause-room : goal.inner_extent-around-requires-clause-room
inner_extent-around-requires-clause-room t c =
    let s = ap size (c.children-child-items.ensures.outline c.requires.numbered []) in
    let n = ap (λ z. z.nodes) (c.children.invariant.whole []) in
    let room = c.requires.room in
    omega (arith, s, n, room)

pub inner_extent-returns-clause-measured : goal.inner_extent-returns-clause-measured
inner_extent-returns-clause-measured t c texts =
    c.around.ensures.measured ∙ ap (λ own. around own c.children.all) c.own_local.ensures
    ∙ ap (around _) (kids_done (λ kid. kid.now) c.children-child-items.result c.children.child-index c.children.all
    (subst (λ n. n ≤ c.children.child-index) (sym c.children-child-items.ensures.four) c.children-test.false) c.children.invariant texts)
    ∙ node_measured _ _ _ _ (c.children-child-items.ensures.outline c.requires.numbered texts)
    (locals_of texts c.args.node.now c.requires.numbered
    ∙ ap (λ kids. own_local c.args.node.now + locals_in (kids_at texts kids)) (sym c.children-child-items.ensures.all))

pub measure-row-init : goal.measure-row-init
measure-row-init t c =
    measuring_starts _ _ _ c.empty-all.ensures.measured
    (row_same c.args.node.now c.in-Row.nodes c.as_slice-node-items.result.now c.in-Row.is c.as_slice-node-items.ensures.value)
    c.empty-all.ensures.sound

pub measure-arms-init : goal.measure-arms-init
measure-arms-init t c =
    measuring_starts _ _ _ c.empty-all-in-Arms.ensures.measured
    (arms_same c.args.node.now c.in-Arms.nodes c.as_slice-node-items-in-Arms.result.now c.in-Arms.is c.as_slice-node-items-in-Arms.ensures.value)
    c.empty-all-in-Arms.ensures.sound

pub measure-beside-all-requires-in-arms-clause-room : goal.measure-beside-all-requires-in-arms-clause-room
measure-beside-all-requires-in-arms-clause-room t c =
    let n = front_nodes _ _ _ _ c.arms.all []
    (subst (λ r. Measuring (λ texts. node_at texts c.args.node.now) (λ texts. arm_row texts r) c.arms.all)
    (left_of c.as_slice-node-items-in-Arms.result.now c.arms.node-index c.node-item-in-arms.result c.arms-test.true (sym c.node-item-in-arms.is))
    c.arms.invariant)
    (arm_joins c.node-item-in-arms.result (drop (c.arms.node-index + 1) c.as_slice-node-items-in-Arms.result.now)) in
    let m = ap (λ z. z.nodes) (c.arm_extent.ensures.measured []) in
    let room = c.requires in
    omega (arith, n, m, room)

pub measure-arms-preserved : goal.measure-arms-preserved
measure-arms-preserved t c =
    measuring_on _ _ _ _ _ _ _
    (subst (λ r. Measuring (λ texts. node_at texts c.args.node.now) (λ texts. arm_row texts r) c.arms.all)
    (left_of c.as_slice-node-items-in-Arms.result.now c.arms.node-index c.node-item-in-arms.result c.arms-test.true (sym c.node-item-in-arms.is))
    c.arms.invariant)
    (arm_joins c.node-item-in-arms.result (drop (c.arms.node-index + 1) c.as_slice-node-items-in-Arms.result.now))
    c.arm_extent.ensures.measured c.beside-all-in-arms.ensures.measured c.beside-all-in-arms.ensures.sound
