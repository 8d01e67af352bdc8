use Rattle.std.proofs.Common.{refl, arith}
use Rattle.vg_arith.proofs.DivisionRoutine.{divides_is, leaves_is}
use Rattle.vg_arith.proofs.Keeping.{divide_sound}
use Rattle.vg_arith.proofs.division.division_is_right.Goals as goal

pub returns-clause-quotient : goal.returns-clause-quotient
returns-clause-quotient c = divides_is

pub returns-clause-remainder : goal.returns-clause-remainder
returns-clause-remainder c = leaves_is

pub returns-clause-short : goal.returns-clause-short
returns-clause-short c = record { few = omega arith; onwards = refl }

pub returns-clause-sound : goal.returns-clause-sound
returns-clause-sound c = divide_sound
