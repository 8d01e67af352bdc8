use Rattle.std.proofs.Common.{◌≡◌, drop, length}
use Rattle.vg_plan_uses.specs.Calling.{delegates}
use Rattle.vg_plan_uses.specs.Sets.{with_all, IsSet}
use Rattle.vg_plan_uses.proofs.calling.note_delegates.Given as goal

abbrev pub invariant-loop-index : goal.invariant-loop-index
invariant-loop-index l =
    IsSet l.set
    × (length l.set.marks ≡ length l.fn.set.marks)
    × (with_all (length l.fn.set.marks) l.set.list (delegates l.plan l.function l.index (drop l.index l.methods))
    ≡ with_all (length l.fn.set.marks) l.fn.set.list (delegates l.plan l.function 0 l.methods))
