use Rattle.std.proofs.Common.{refl, arith}
use Rattle.vg_arith.proofs.ShiftRoutines.{shl_is, shr_is}
use Rattle.vg_arith.proofs.Keeping.{shl_sound, shr_sound}
use Rattle.vg_arith.proofs.shifts.shifts_are_right.Goals as goal

pub returns-clause-left : goal.returns-clause-left
returns-clause-left c = shl_is

pub returns-clause-right : goal.returns-clause-right
returns-clause-right c = shr_is

pub returns-clause-short : goal.returns-clause-short
returns-clause-short c = (record { few = omega arith; onwards = refl }, record { few = omega arith; onwards = refl })

pub returns-clause-sound : goal.returns-clause-sound
returns-clause-sound c = (shl_sound, shr_sound)
