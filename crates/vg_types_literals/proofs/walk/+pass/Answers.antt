use Rattle.std.proofs.Common.{◌≡◌, ◌+◌, ◌<◌, [], OnOk, map, drop, get_or, sym, subst, ap, arith}
use Rattle.std.specs.Option.{option_map}
use Rattle.vg_syntax.specs.Tree.{Nothing}
use Rattle.vg_syntax.specs.Outline.{outline, size}
use Rattle.vg_tree.specs.Held.{node_at, row_at, arm_at, arm_row}
use Rattle.vg_tree.proofs.RowLists.{row_same}
use Rattle.vg_tree.proofs.ArmLists.{arms_same}
use Rattle.vg_tree_walks.specs.Walks.{bulk}
use Rattle.vg_tree_walks.proofs.Alike.{alike}
use Rattle.vg_tree_walks.proofs.Passing.{left_of}
use Rattle.vg_types_literals.specs.Found.{seen, passed, behind}
use Rattle.vg_types_literals.proofs.Passing.{Going, going_on, row_joins, arm_joins, kid_joins, kids_left}
use Rattle.vg_types_literals.proofs.walk.+pass.Goals as goal

pub pass-pass_row-requires : goal.pass-pass_row-requires
pass-pass_row-requires t c =
    let e = ap outline (row_same c.args.node.now c.in-Row.nodes c.as_slice.result.now c.in-Row.is c.as_slice.ensures.value []) in
    let b = ap bulk e in
    let s = ap size e in
    let r = c.requires in
    (omega (arith, b), omega (arith, s, r))

pub pass-pass_arms-requires : goal.pass-pass_arms-requires
pass-pass_arms-requires t c =
    let e = ap outline
    (arms_same c.args.node.now c.in-Arms.nodes c.as_slice-in-Arms.result.now c.in-Arms.is c.as_slice-in-Arms.ensures.value []) in
    let b = ap bulk e in
    let s = ap size e in
    let r = c.requires in
    (omega (arith, b), omega (arith, s, r))

pub pass-returns-in-Row : goal.pass-returns-in-Row
pass-returns-in-Row t c =
    subst (λ n. OnOk c.pass_row.result (seen c.pass_row.new.search ≡ behind n (seen c.args.search.now)))
    (sym (row_same c.args.node.now c.in-Row.nodes c.as_slice.result.now c.in-Row.is c.as_slice.ensures.value c.args.names.now)) c.pass_row.ensures

pub pass-returns-in-Arms : goal.pass-returns-in-Arms
pass-returns-in-Arms t c =
    subst (λ n. OnOk c.pass_arms.result (seen c.pass_arms.new.search ≡ behind n (seen c.args.search.now)))
    (sym (arms_same c.args.node.now c.in-Arms.nodes c.as_slice-in-Arms.result.now c.in-Arms.is c.as_slice-in-Arms.ensures.value c.args.names.now))
    c.pass_arms.ensures

pub pass_arm-pass-requires-in-Pair : goal.pass_arm-pass-requires-in-Pair
pass_arm-pass-requires-in-Pair t c =
    let first = outline (node_at [] c.in-Pair.condition.value) in
    let second = outline (node_at [] c.in-Pair.block.value) in
    let b : bulk (outline (arm_at [] c.args.node.now Nothing)) ≡ 1 + bulk first + (1 + bulk second + 0) =
    ap (λ n. bulk (outline (arm_at [] n Nothing))) c.in-Pair.is in
    let s : size (outline (arm_at [] c.args.node.now Nothing)) ≡ size first + (size second + 0) =
    ap (λ n. size (outline (arm_at [] n Nothing))) c.in-Pair.is in
    let x = ap (λ n. size (outline (node_at [] n))) c.deref.ensures in
    let y = ap (λ n. outline (node_at [] n)) c.deref-in-Pair.ensures in
    let yb = ap bulk y in
    let ys = ap size y in
    let n = ap (λ z. z.next) c.in_ok-pass-in-Pair.ensures in
    let k = ap size (alike c.args.names.now c.deref.result.now) in
    let r = c.requires in
    (omega (arith, b, yb), omega (arith, s, n, k, r, x, ys))

pub pass_arms-arms-preserved : goal.pass_arms-arms-preserved
pass_arms-arms-preserved t c =
    going_on _ _ _ _ _ _ _ _
    (subst (λ r. Going c.args.names.now (seen c.args.search.now) (seen c.arms.search) (λ texts. arm_row texts c.args.nodes.now) (λ texts. arm_row texts r))
    (left_of c.args.nodes.now c.arms.node-index c.node-item.result c.arms-test.true (sym c.node-item.is)) c.arms.invariant)
    (arm_joins c.args.names.now c.node-item.result (drop (c.arms.node-index + 1) c.args.nodes.now)) c.in_ok-pass_arm.ensures

pub pass_row-row-preserved : goal.pass_row-row-preserved
pass_row-row-preserved t c =
    going_on _ _ _ _ _ _ _ _
    (subst (λ r. Going c.args.names.now (seen c.args.search.now) (seen c.row.search) (λ texts. row_at texts c.args.nodes.now) (λ texts. row_at texts r))
    (left_of c.args.nodes.now c.row.node-index c.node-item.result c.row-test.true (sym c.node-item.is)) c.row.invariant)
    (row_joins c.args.names.now c.node-item.result (drop (c.row.node-index + 1) c.args.nodes.now)) c.in_ok-pass.ensures

pub pass_inner-children-preserved : goal.pass_inner-children-preserved
pass_inner-children-preserved t c =
    going_on _ _ _ _ _ _ _ _
    (kids_left c.args.names.now (λ kid. kid.now) c.children-child-items.result c.children.child-index c.child-item.result (passed (seen c.args.search.now))
    (seen c.children.search) (subst (λ n. c.children.child-index < n) (sym c.children-child-items.ensures.four) c.children-test.true) c.children.invariant)
    (kid_joins c.args.names.now (option_map (λ kid. kid.now) (get_or c.children-child-items.result c.children.child-index c.child-item.result))
    (map (option_map (λ kid. kid.now)) (drop (c.children.child-index + 1) c.children-child-items.result)))
    c.in_ok-pass_child.ensures
