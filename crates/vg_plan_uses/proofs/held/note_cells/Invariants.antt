use Rattle.std.proofs.Common.{◌≡◌, drop, length}
use Rattle.vg_plan_uses.specs.Held.{in_cells}
use Rattle.vg_plan_uses.specs.Sets.{with_all, IsSet}
use Rattle.vg_plan_uses.proofs.held.note_cells.Given as goal

abbrev pub invariant-loop-number : goal.invariant-loop-number
invariant-loop-number l =
    IsSet l.set
    × (length l.set.marks ≡ length l.fn.set.marks)
    × (with_all (length l.fn.set.marks) l.set.list (in_cells l.tables l.heap l.live l.plan l.number (drop l.number l.heap.cells))
    ≡ with_all (length l.fn.set.marks) l.fn.set.list (in_cells l.tables l.heap l.live l.plan 0 l.heap.cells))
