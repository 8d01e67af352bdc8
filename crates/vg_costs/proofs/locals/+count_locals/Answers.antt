use Rattle.std.proofs.Common.{[], ◌+◌, ◌<◌, ◌≤◌, drop, map, get_or, refl, sym, subst, ap, ◌∙◌, arith}
use Rattle.std.specs.Option.{option_map}
use Rattle.vg_tree.specs.Held.{node_at, arm_row}
use Rattle.vg_tree.proofs.RowLists.{row_same}
use Rattle.vg_tree.proofs.ArmLists.{arms_same}
use Rattle.vg_tree_walks.specs.Walks.{bulk}
use Rattle.vg_tree_walks.specs.Children.{kids_at}
use Rattle.vg_tree_walks.proofs.Passing.{left_of}
use Rattle.vg_types_counts.specs.Extents.{own_local, locals_in}
use Rattle.vg_types_counts.proofs.Measuring.{locals_of}
use Rattle.vg_costs.proofs.Counting.{Counting, counting_starts, counting_on, front_locals, arm_joins, kid_joins, kids_left, kid_fits, kids_done}
use Rattle.vg_costs.proofs.locals.+count_locals.Goals as goal

pub count_locals-row-init : goal.count_locals-row-init
count_locals-row-init t c =
    counting_starts 0 _ _
    (row_same c.args.node.now c.in-Row.nodes c.as_slice-node-items.result.now c.in-Row.is c.as_slice-node-items.ensures.value)

pub count_locals-arms-init : goal.count_locals-arms-init
count_locals-arms-init t c =
    counting_starts 0 _ _
    (arms_same c.args.node.now c.in-Arms.nodes c.as_slice-node-items-in-Arms.result.now c.in-Arms.is c.as_slice-node-items-in-Arms.ensures.value)

pub count_locals-overflow_add-all-in-arms : goal.count_locals-overflow_add-all-in-arms
count_locals-overflow_add-all-in-arms t c =
    let n = front_locals 0 _ _ _ _ _ []
    (subst (λ r. Counting 0 (λ texts. node_at texts c.args.node.now) (λ texts. arm_row texts r) c.arms.all)
    (left_of c.as_slice-node-items-in-Arms.result.now c.arms.node-index c.node-item-in-arms.result c.arms-test.true (sym c.node-item-in-arms.is))
    c.arms.invariant)
    (arm_joins c.node-item-in-arms.result (drop (c.arms.node-index + 1) c.as_slice-node-items-in-Arms.result.now)) in
    let m = c.arm_locals-all.ensures.count [] in
    let room = c.requires.room in
    omega (arith, n, m, room)

pub count_locals-arms-preserved : goal.count_locals-arms-preserved
count_locals-arms-preserved t c =
    counting_on 0 _ _ _ _ _ _ _
    (subst (λ r. Counting 0 (λ texts. node_at texts c.args.node.now) (λ texts. arm_row texts r) c.arms.all)
    (left_of c.as_slice-node-items-in-Arms.result.now c.arms.node-index c.node-item-in-arms.result c.arms-test.true (sym c.node-item-in-arms.is))
    c.arms.invariant)
    (arm_joins c.node-item-in-arms.result (drop (c.arms.node-index + 1) c.as_slice-node-items-in-Arms.result.now))
    c.arm_locals-all.ensures.count refl

pub inner_locals-kid_locals-all-requires : goal.inner_locals-kid_locals-all-requires
inner_locals-kid_locals-all-requires t c =
    let b = ap bulk (c.children-child-items.ensures.outline c.requires.numbered []) in
    let s = locals_of [] c.args.node.now c.requires.numbered
    ∙ ap (λ kids. own_local c.args.node.now + locals_in (kids_at [] kids)) (sym c.children-child-items.ensures.all) in
    let k = kid_fits (λ kid. kid.now) (own_local c.args.node.now) c.children-child-items.result c.children.child-index c.child-item.result c.children.all
    (subst (λ n. c.children.child-index < n) (sym c.children-child-items.ensures.four) c.children-test.true) c.children.invariant in
    let fits = k.0 in
    let less = k.1 in
    let room = c.requires.room in
    (omega (arith, b, less), omega (arith, s, fits, room))

pub inner_locals-overflow_add-all : goal.inner_locals-overflow_add-all
inner_locals-overflow_add-all t c =
    let s = locals_of [] c.args.node.now c.requires.numbered
    ∙ ap (λ kids. own_local c.args.node.now + locals_in (kids_at [] kids)) (sym c.children-child-items.ensures.all) in
    let k = kid_fits (λ kid. kid.now) (own_local c.args.node.now) c.children-child-items.result c.children.child-index c.child-item.result c.children.all
    (subst (λ n. c.children.child-index < n) (sym c.children-child-items.ensures.four) c.children-test.true) c.children.invariant in
    let fits = k.0 in
    let room = c.requires.room in
    let n = c.kid_locals-all.ensures.count [] in
    omega (arith, s, fits, room, n)

pub inner_locals-children-preserved : goal.inner_locals-children-preserved
inner_locals-children-preserved t c =
    counting_on _ _ _ _ _ _ _ _
    (kids_left (λ kid. kid.now) (own_local c.args.node.now) c.children-child-items.result c.children.child-index c.child-item.result c.children.all
    (subst (λ n. c.children.child-index < n) (sym c.children-child-items.ensures.four) c.children-test.true) c.children.invariant)
    (kid_joins (option_map (λ kid. kid.now) (get_or c.children-child-items.result c.children.child-index c.child-item.result))
    (map (option_map (λ kid. kid.now)) (drop (c.children.child-index + 1) c.children-child-items.result)))
    c.kid_locals-all.ensures.count refl

pub inner_locals-returns : goal.inner_locals-returns
inner_locals-returns t c = record {
  count = λ texts.
      kids_done (λ kid. kid.now) (own_local c.args.node.now) c.children-child-items.result c.children.child-index c.children.all
      (subst (λ n. n ≤ c.children.child-index) (sym c.children-child-items.ensures.four) c.children-test.false) c.children.invariant texts
      ∙ sym (locals_of texts c.args.node.now c.requires.numbered
      ∙ ap (λ kids. own_local c.args.node.now + locals_in (kids_at texts kids)) (sym c.children-child-items.ensures.all));
}
