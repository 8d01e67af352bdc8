use Rattle.std.proofs.Common.{◌≡◌, drop, length}
use Rattle.vg_plan_uses.specs.Held.{in_items}
use Rattle.vg_plan_uses.specs.Sets.{with_all, IsSet}
use Rattle.vg_plan_uses.proofs.held.note_items.Given as goal

abbrev pub invariant-loop-value : goal.invariant-loop-value
invariant-loop-value l =
    IsSet l.set
    × (length l.set.marks ≡ length l.fn.set.marks)
    × (with_all (length l.fn.set.marks) l.set.list (in_items l.plan (drop l.value-index l.values))
    ≡ with_all (length l.fn.set.marks) l.fn.set.list (in_items l.plan l.values))
