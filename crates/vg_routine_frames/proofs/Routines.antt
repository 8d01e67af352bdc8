-- What the routines take of the stack.
use Rattle.std.specs.Prelude.{ℕ, ◌≤◌, Bool, true, false, ◌&&◌, ◌==◌, List, [], ◌∷◌, length, None, if◌then◌else◌}
use Rattle.std.specs.List.{AllByRecursion}
use Rattle.std.proofs.Common.{◌≡◌, refl, arith}
use Rattle.vg_lin.specs.declared.instr.Instr.{Instr}
use Rattle.vg_lin.specs.declared.instr.Instr.TheVariants.{Plain, When, Unless, Jump, Call, Return, Idle}
use Rattle.vg_lin.specs.Program.{Procedure}
use Rattle.vg_arith.specs.Product.{mul}
use Rattle.vg_arith.specs.Division.{divide}
use Rattle.vg_arith.specs.Shifts.{shl, shr}
use Rattle.vg_frame_costs.specs.Bytes.{opening_bytes, pushed_bytes, procedure_bytes}
use Rattle.vg_frame_costs.specs.Fitting.{IsOfRoutine, IsRoutineWithin}
use Rattle.vg_linear.specs.Routines.{empty, routine_or_empty, standing}

-- ---- bytes

product_bytes : procedure_bytes mul ≡ 6
unfolding opening_bytes pushed_bytes
product_bytes = refl

division_bytes : procedure_bytes divide ≡ 13
unfolding opening_bytes pushed_bytes
division_bytes = refl

left_bytes : procedure_bytes shl ≡ 2
unfolding opening_bytes pushed_bytes
left_bytes = refl

right_bytes : procedure_bytes shr ≡ 16
unfolding opening_bytes pushed_bytes
right_bytes = refl

empty_bytes : procedure_bytes empty ≡ 2
unfolding opening_bytes pushed_bytes
empty_bytes = refl

-- ---- code

abbrev is_of_routine : Instr → Bool
is_of_routine (Call c) = false
is_of_routine Idle = false
is_of_routine i = true

abbrev are_of_routine : List Instr → Bool
are_of_routine [] = true
are_of_routine (i ∷ is) = is_of_routine i && are_of_routine is

-- neither a call nor idling, so the code behind it decides
of_routine : (is : List Instr) → are_of_routine is ≡ true → AllByRecursion IsOfRoutine is
of_routine [] e = tt
of_routine (Plain p ∷ is) e = (tt, of_routine is e)
of_routine (When t to ∷ is) e = (tt, of_routine is e)
of_routine (Unless t to ∷ is) e = (tt, of_routine is e)
of_routine (Jump to ∷ is) e = (tt, of_routine is e)
of_routine (Return w a ∷ is) e = (tt, of_routine is e)
of_routine (Call c ∷ is) e = absurd (grind arith)
of_routine (Idle ∷ is) e = absurd (grind arith)

-- ---- routines

module _ (above : ℕ) (room : 16 ≤ above) where
  within : (m : Procedure) (bytes : ℕ) → m.method ≡ None → procedure_bytes m ≡ bytes → bytes ≤ 16 → are_of_routine m.code ≡ true
      → IsRoutineWithin above m
  within m bytes unnamed e le code = record { unnamed = unnamed; bytes = omega (arith, e, le, room); code = of_routine m.code code }

  by_numbers : (a b c : Bool) → IsRoutineWithin above (if a then mul else if b then divide else if c then shl else shr)
  by_numbers true b c = within mul 6 refl product_bytes (omega arith) refl
  by_numbers false true c = within divide 13 refl division_bytes (omega arith) refl
  by_numbers false false true = within shl 2 refl left_bytes (omega arith) refl
  by_numbers false false false = within shr 16 refl right_bytes (omega arith) refl

  by_call : (called : Bool) (which : ℕ) → IsRoutineWithin above (routine_or_empty called which)
  by_call true which = by_numbers (which == 0) (which == 1) (which == 2)
  by_call false which = within empty 2 refl empty_bytes (omega arith) refl

  pub standing_within : (first : ℕ) (ps : List Procedure) (which : ℕ) → IsRoutineWithin above (standing first ps which)
  standing_within first ps which = by_call _ which

short_by_numbers : (a b c : Bool) → length (if a then mul else if b then divide else if c then shl else shr).code ≤ 65535
short_by_numbers true b c = omega arith
short_by_numbers false true c = omega arith
short_by_numbers false false true = omega arith
short_by_numbers false false false = omega arith

short_by_call : (called : Bool) (which : ℕ) → length (routine_or_empty called which).code ≤ 65535
short_by_call true which = short_by_numbers (which == 0) (which == 1) (which == 2)
short_by_call false which = omega arith

pub standing_short : (first : ℕ) (ps : List Procedure) (which : ℕ) → length (standing first ps which).code ≤ 65535
standing_short first ps which = short_by_call _ which
