use Rattle.std.proofs.Common.{◌≡◌, drop, length}
use Rattle.vg_plan_uses.specs.Held.{in_object}
use Rattle.vg_plan_uses.specs.Sets.{with_all, IsSet}
use Rattle.vg_plan_uses.proofs.held.note_fields.Given as goal

abbrev pub invariant-loop-field : goal.invariant-loop-field
invariant-loop-field l =
    IsSet l.set
    × (length l.set.marks ≡ length l.fn.set.marks)
    × (with_all (length l.fn.set.marks) l.set.list (in_object l.tables l.heap l.live l.plan l.cell (drop l.field-index l.fields))
    ≡ with_all (length l.fn.set.marks) l.fn.set.list (in_object l.tables l.heap l.live l.plan l.cell l.fields))
