use Rattle.std.proofs.Common.{refl, append_assoc}
use Rattle.vg_arith.proofs.Keeping.{shl_sound_as}
use Rattle.vg_arith.proofs.shifts.left_shift_routine.Goals as goal

pub new-requires : goal.new-requires
new-requires c =
    shl_sound_as c.in_ok-widths.widths c.push_shift.new.code c.in_ok-widths.ensures
    (simp (c.in_ok-push_shift.ensures, c.new-code.ensures, append_assoc) refl)
