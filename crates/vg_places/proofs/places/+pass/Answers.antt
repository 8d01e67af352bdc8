use Rattle.std.proofs.Common.{◌≡◌, ◌++◌, ℕ, List, drop, refl, sym, ap, ◌∙◌, append-nil}
use Rattle.vg_tree.specs.Held.{node_at, row_at, arm_row}
use Rattle.vg_tree.proofs.RowLists.{row_same}
use Rattle.vg_tree.proofs.ArmLists.{arms_same}
use Rattle.vg_places.specs.Places.{spots}
use Rattle.std.specs.Option.{option_map}
use Rattle.vg_syntax.specs.Tree.{Nothing}
use Rattle.vg_tree.specs.Held.{arm_at}
use Rattle.vg_places.specs.Search.{kid_spots, after}
use Rattle.vg_places.proofs.Passing.{passing_starts, row_on, arms_on, pair_after, parts_after}
use Rattle.vg_places.proofs.places.+pass.Goals as goal

pub pass-row-init : goal.pass-row-init
pass-row-init t c =
    passing_starts _ _ _ (row_same c.args.node.now c.in-Row.nodes c.as_slice-node-items.result.now c.in-Row.is c.as_slice-node-items.ensures.value)

pub pass-row-preserved : goal.pass-row-preserved
pass-row-preserved t c =
    row_on _ _ _ _ c.as_slice-node-items.result.now c.row.node-index c.node-item.result c.row-test.true (sym c.node-item.is) c.row.invariant
    c.pass-passed.ensures

pub pass-arms-init : goal.pass-arms-init
pass-arms-init t c =
    passing_starts _ _ _
    (arms_same c.args.node.now c.in-Arms.nodes c.as_slice-node-items-in-Arms.result.now c.in-Arms.is c.as_slice-node-items-in-Arms.ensures.value)

pub pass-arms-preserved : goal.pass-arms-preserved
pass-arms-preserved t c =
    arms_on _ _ _ _ c.as_slice-node-items-in-Arms.result.now c.arms.node-index c.node-item-in-arms.result c.arms-test.true (sym c.node-item-in-arms.is)
    c.arms.invariant c.pass_arm-passed.ensures

pub pass_arm-returns-in-Pair : goal.pass_arm-returns-in-Pair
pass_arm-returns-in-Pair t c = λ texts.
    c.pass-in-Pair.ensures texts ∙ ap (λ n. after c.pass.result (spots (node_at texts n))) c.deref.ensures
    ∙ ap (λ s. after s (spots (node_at texts c.in-Pair.block.value)))
    (c.pass.ensures texts ∙ ap (λ n. after c.args.so_far (spots (node_at texts n))) c.deref-in-Pair.ensures)
    ∙ pair_after c.args.so_far (spots (node_at texts c.in-Pair.condition.value)) (spots (node_at texts c.in-Pair.block.value))
    ∙ ap (λ n. after c.args.so_far (spots (arm_at texts n Nothing))) (sym c.in-Pair.is)

pub pass_inner-returns-in-Some : goal.pass_inner-returns-in-Some
pass_inner-returns-in-Some t c = λ texts.
    c.pass_child.ensures texts
    ∙ ap (λ s. after s (kid_spots texts (option_map (λ kid. kid.now) c.in-Some.parts.fourth))) (c.pass_child-third.ensures texts
    ∙ ap (λ s. after s (kid_spots texts (option_map (λ kid. kid.now) c.in-Some.parts.third))) (c.pass_child-second.ensures texts
    ∙ ap (λ s. after s (kid_spots texts (option_map (λ kid. kid.now) c.in-Some.parts.second))) (c.pass_child-first.ensures texts
    ∙ ap (λ s. after s (kid_spots texts (option_map (λ kid. kid.now) c.in-Some.parts.first))) c.one_more.ensures)))
    ∙ parts_after c.args.so_far c.in-Some.parts.place (kid_spots texts (option_map (λ kid. kid.now) c.in-Some.parts.first))
    (kid_spots texts (option_map (λ kid. kid.now) c.in-Some.parts.second)) (kid_spots texts (option_map (λ kid. kid.now) c.in-Some.parts.third))
    (kid_spots texts (option_map (λ kid. kid.now) c.in-Some.parts.fourth))
    ∙ ap (after c.args.so_far) (sym (c.in-Some.ensures.spots texts))
