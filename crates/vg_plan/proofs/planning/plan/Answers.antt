use Rattle.vg_core.specs.HeldProgram.{program_at}
use Rattle.vg_plan.proofs.Whole.{whole}
use Rattle.vg_plan.proofs.planning.plan.Goals as goal

pub returns-clause-plans : goal.returns-clause-plans
returns-clause-plans c =
    whole (program_at c.args.program.now) c.args.heap.now c.args.live.now c.args.numbers.now c.args.columns.now c.in_ok-plan.plan c.in_ok-own.own.items
    c.as_slice-3.result.now c.cells.result.now c.cells-2.result.now c.as_slice.result.now c.as_slice-methods.result.now c.in_ok-steps.steps.items
    c.as_slice-2.result.now c.as_slice-4.result.now c.in_ok-dispatches.dispatches c.as_slice-rows.result.now c.len-room.result c.in_ok-bound.bound
    c.as_slice-6.result.now c.in_ok-plan-2.field-0 c.as_slice-5.result.now c.in_ok-plan-3.field-0 c.cells.ensures c.as_slice.ensures c.in_ok-own.ensures
    c.as_slice-methods.ensures c.in_ok-steps.ensures c.as_slice-2.ensures.value c.cells-2.ensures c.in_ok-plan.ensures.tables c.in_ok-plan.ensures.alone
    c.as_slice-3.ensures.value c.in_ok-dispatches.ensures c.len-room.ensures c.as_slice-rows.ensures c.as_slice-4.ensures.value c.in_ok-bound.ensures
    c.as_slice-5.ensures c.as_slice-6.ensures c.in_ok-plan-2.ensures c.in_ok-plan-3.ensures
