use Rattle.std.proofs.Common.{◌∙◌, ◌+◌, [], drop, if◌then◌else◌, length}
use Rattle.vg_number.specs.Numbering.{has_reason}
use Rattle.vg_plan_uses.specs.Held.{in_cell, in_cells}
use Rattle.vg_plan_uses.specs.Sets.{with_all}
use Rattle.vg_plan_uses.proofs.Noting.{cells_rest, turn}
use Rattle.vg_plan_uses.proofs.held.note_cells.Goals as goal

pub loop-number-preserved : goal.loop-number-preserved
loop-number-preserved c = (
  c.in_ok-note_if_live.ensures.is,
  c.in_ok-note_if_live.ensures.room ∙ c.loop-number.invariant.1,
  turn (length c.args.set.now.marks) (length c.loop-number.set.marks) 0 c.loop-number.set.list c.note_if_live.new.set.list
      (with_all (length c.args.set.now.marks) c.args.set.now.list
      (in_cells c.args.tables.now c.args.heap.now c.args.live.now c.args.plan.now 0 c.args.heap.now.cells))
      (if has_reason c.args.live.now.cells c.loop-number.number then
      in_cell c.args.tables.now c.args.heap.now c.args.live.now c.args.plan.now c.loop-number.number c.index-cells-number.result else [])
      (in_cells c.args.tables.now c.args.heap.now c.args.live.now c.args.plan.now (c.loop-number.number + 1)
      (drop (c.loop-number.number + 1) c.args.heap.now.cells))
      (in_cells c.args.tables.now c.args.heap.now c.args.live.now c.args.plan.now c.loop-number.number (drop c.loop-number.number c.args.heap.now.cells))
      (c.loop-number.invariant.2)
      (cells_rest c.args.tables.now c.args.heap.now c.args.live.now c.args.plan.now c.loop-number.number c.args.heap.now.cells c.cells-cells.result.now
      c.index-cells-number.result c.cells-cells.ensures c.loop-number-test.true c.index-cells-number.is) (c.loop-number.invariant.1)
      c.in_ok-note_if_live.ensures.list,
)
