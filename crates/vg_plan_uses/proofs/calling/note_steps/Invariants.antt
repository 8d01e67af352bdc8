use Rattle.std.proofs.Common.{◌≡◌, drop, length}
use Rattle.vg_plan_uses.specs.Calling.{called}
use Rattle.vg_plan_uses.specs.Sets.{with_all, IsSet}
use Rattle.vg_plan_uses.proofs.calling.note_steps.Given as goal

abbrev pub invariant-loop-index : goal.invariant-loop-index
invariant-loop-index l =
    IsSet l.set
    × (length l.set.marks ≡ length l.fn.set.marks)
    × (with_all (length l.fn.set.marks) l.set.list (called l.tables l.plan l.dispatches (drop l.index l.steps))
    ≡ with_all (length l.fn.set.marks) l.fn.set.list (called l.tables l.plan l.dispatches l.steps))
