use Rattle.std.proofs.Common.{◌≡◌, IfOk, map, subst}
use Rattle.vg_plan_uses.specs.Binding.{bound_by, is_bound, named}
use Rattle.vg_plan_uses.specs.Held.{in_cells, in_components}
use Rattle.vg_plan_uses.proofs.Noting.{bound_is}
use Rattle.vg_plan_uses.proofs.binding.bindable.Goals as goal

pub returns : goal.returns
returns c =
    let b = bound_is c.args.room c.in_ok-set.set c.note_steps.new.set c.note_components.new.set c.note_cells.new.set
    (named c.args.plan.now c.args.dispatches.now c.args.steps.now)
    (in_components c.args.tables.now c.args.heap.now c.args.live.now c.args.plan.now 0 c.args.tables.now.fields)
    (in_cells c.args.tables.now c.args.heap.now c.args.live.now c.args.plan.now 0 c.args.heap.now.cells) c.in_ok-set.ensures.empty
    c.in_ok-note_steps.ensures.room c.in_ok-note_steps.ensures.list c.in_ok-note_components.ensures.room c.in_ok-note_components.ensures.list
    c.in_ok-note_cells.ensures.room c.in_ok-note_cells.ensures.list in
    subst (λ z. IfOk c.are_bound.result (λ row. row ≡ map (is_bound c.args.room
    (bound_by c.args.tables.now c.args.heap.now c.args.live.now c.args.plan.now c.args.dispatches.now c.args.room c.args.steps.now)) z)) c.as_slice.ensures
    (subst (λ z. IfOk c.are_bound.result (λ row. row ≡ map (is_bound c.args.room z) c.as_slice.result.now)) b.1
    (subst (λ z. IfOk c.are_bound.result (λ row. row ≡ map (is_bound z c.note_cells.new.set.list) c.as_slice.result.now)) b.0 c.are_bound.ensures))
