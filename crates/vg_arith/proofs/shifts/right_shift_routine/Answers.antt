use Rattle.std.proofs.Common.{refl, append_assoc}
use Rattle.vg_arith.proofs.Keeping.{shr_sound_as}
use Rattle.vg_arith.proofs.shifts.right_shift_routine.Goals as goal

pub new-requires : goal.new-requires
new-requires c =
    shr_sound_as c.in_ok-widths.widths c.push_shift.new.code c.in_ok-widths.ensures
    (simp (c.in_ok-push_shift.ensures, c.in_ok-push.ensures.ok, c.seen.ensures, c.new-code.ensures, append_assoc) refl)
