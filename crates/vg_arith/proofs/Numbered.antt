-- Each routine by its number.
use Rattle.std.specs.Prelude.{ℕ, suc, length, take, Some}
use Rattle.std.proofs.Common.{◌≡◌, refl, arith}
use Rattle.vg_lin.specs.declared.instr.Operator.{Operator}
use Rattle.vg_lin.specs.declared.instr.Operator.TheVariants.{Plus, Minus, Times, Divide, Remainder, And, Or, Xor, ShiftLeft, ShiftRight}
use Rattle.vg_arith.specs.Routines.{IsRoutineOf, IsRoutine, others, passed_widths, routine_of}
use Rattle.vg_arith.specs.Product.{mul}
use Rattle.vg_arith.specs.Division.{divide}
use Rattle.vg_arith.specs.Shifts.{shl, shr}
use Rattle.vg_arith.proofs.ShiftRoutines.{shl_is, shr_is}
use Rattle.vg_arith.proofs.ProductRoutine.{mul_is}
use Rattle.vg_arith.proofs.DivisionRoutine.{divides_is, leaves_is}

-- what is said of the operators whose routine has a number
for_each : (P : Operator → Type 0) (which : ℕ) → (routine_of Times ≡ Some which → P Times) → (routine_of Divide ≡ Some which → P Divide)
    → (routine_of Remainder ≡ Some which → P Remainder) → (routine_of ShiftLeft ≡ Some which → P ShiftLeft)
    → (routine_of ShiftRight ≡ Some which → P ShiftRight) → (op : Operator) → routine_of op ≡ Some which → P op
for_each P which a b c d f Plus e = absurd (grind arith)
for_each P which a b c d f Minus e = absurd (grind arith)
for_each P which a b c d f Times e = a e
for_each P which a b c d f Divide e = b e
for_each P which a b c d f Remainder e = c e
for_each P which a b c d f And e = absurd (grind arith)
for_each P which a b c d f Or e = absurd (grind arith)
for_each P which a b c d f Xor e = absurd (grind arith)
for_each P which a b c d f ShiftLeft e = d e
for_each P which a b c d f ShiftRight e = f e

pub mul_routine : IsRoutine 0 mul
mul_routine =
    record {
      gives = for_each (λ op. IsRoutineOf op mul) 0 (λ e. mul_is) (λ e. absurd (grind arith)) (λ e. absurd (grind arith)) (λ e. absurd (grind arith))
          (λ e. absurd (grind arith));
      takes = λ op w. for_each (λ op. 2 ≡ suc (suc (length (others op w)))) 0 (λ e. refl) (λ e. absurd (grind arith)) (λ e. absurd (grind arith))
          (λ e. absurd (grind arith)) (λ e. absurd (grind arith)) op;
      passes = for_each (λ op. take mul.params mul.widths ≡ passed_widths op) 0
          (λ e. refl) (λ e. absurd (grind arith)) (λ e. absurd (grind arith)) (λ e. absurd (grind arith)) (λ e. absurd (grind arith));
      result = refl;
      unnamed = refl;
      short = record { few = omega arith; onwards = refl };
      simple = refl;
    }

pub divide_routine : IsRoutine 1 divide
divide_routine =
    record {
      gives = for_each (λ op. IsRoutineOf op divide) 1 (λ e. absurd (grind arith)) (λ e. divides_is) (λ e. leaves_is) (λ e. absurd (grind arith))
          (λ e. absurd (grind arith));
      takes = λ op w. for_each (λ op. 3 ≡ suc (suc (length (others op w)))) 1 (λ e. absurd (grind arith)) (λ e. refl) (λ e. refl)
          (λ e. absurd (grind arith)) (λ e. absurd (grind arith)) op;
      passes = for_each (λ op. take divide.params divide.widths ≡ passed_widths op) 1
          (λ e. absurd (grind arith)) (λ e. refl) (λ e. refl) (λ e. absurd (grind arith)) (λ e. absurd (grind arith));
      result = refl;
      unnamed = refl;
      short = record { few = omega arith; onwards = refl };
      simple = refl;
    }

pub shl_routine : IsRoutine 2 shl
shl_routine =
    record {
      gives = for_each (λ op. IsRoutineOf op shl) 2 (λ e. absurd (grind arith)) (λ e. absurd (grind arith)) (λ e. absurd (grind arith)) (λ e. shl_is)
          (λ e. absurd (grind arith));
      takes = λ op w. for_each (λ op. 2 ≡ suc (suc (length (others op w)))) 2 (λ e. absurd (grind arith)) (λ e. absurd (grind arith))
          (λ e. absurd (grind arith)) (λ e. refl) (λ e. absurd (grind arith)) op;
      passes = for_each (λ op. take shl.params shl.widths ≡ passed_widths op) 2
          (λ e. absurd (grind arith)) (λ e. absurd (grind arith)) (λ e. absurd (grind arith)) (λ e. refl) (λ e. absurd (grind arith));
      result = refl;
      unnamed = refl;
      short = record { few = omega arith; onwards = refl };
      simple = refl;
    }

pub shr_routine : IsRoutine 3 shr
shr_routine =
    record {
      gives = for_each (λ op. IsRoutineOf op shr) 3 (λ e. absurd (grind arith)) (λ e. absurd (grind arith)) (λ e. absurd (grind arith))
          (λ e. absurd (grind arith)) (λ e. shr_is);
      takes = λ op w. for_each (λ op. 3 ≡ suc (suc (length (others op w)))) 3 (λ e. absurd (grind arith)) (λ e. absurd (grind arith))
          (λ e. absurd (grind arith)) (λ e. absurd (grind arith)) (λ e. refl) op;
      passes = for_each (λ op. take shr.params shr.widths ≡ passed_widths op) 3
          (λ e. absurd (grind arith)) (λ e. absurd (grind arith)) (λ e. absurd (grind arith)) (λ e. absurd (grind arith)) (λ e. refl);
      result = refl;
      unnamed = refl;
      short = record { few = omega arith; onwards = refl };
      simple = refl;
    }
