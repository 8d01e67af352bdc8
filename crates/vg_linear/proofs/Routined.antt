-- Routines behind other procedures.
use Rattle.std.proofs.Common.{◌≡◌, refl, sym, ap, subst, ◌∙◌, arith, ℕ, zero, suc, ◌+◌, ◌<◌, Bool, true, false, ◌||◌, List, [], ◌++◌, length, None, Some}
use Rattle.std.proofs.Common.{slice_get}
use Rattle.std.proofs.lemmas.List.Folds.{list_any-append}
use Rattle.std.proofs.lemmas.Option.{same_Some, none-some}
use Rattle.vg_lin.specs.declared.instr.Instr.{Instr}
use Rattle.vg_lin.specs.Program.{Procedure}
use Rattle.vg_lin.specs.Sound.{AreOperands, Waits, IsSound, waits_of}
use Rattle.vg_arith.specs.Numbers.{routine_with}
use Rattle.vg_arith.specs.Routines.{IsRoutine}
use Rattle.vg_arith.proofs.Numbered.{mul_routine, divide_routine, shl_routine, shr_routine}
use Rattle.vg_expand.specs.Called.{code_calls, is_called}
use Rattle.vg_linear.specs.Routines.{WithRoutines, empty, four_for, routine_or_empty, standing}
use Rattle.vg_linear.proofs.Lists.{get_right}

-- ---- in place of a routine

-- the procedure that returns at once keeps what all keep
pub empty_sound : IsSound empty
empty_sound = record {
  few = omega arith;
  params = omega arith;
  result = omega arith;
  widths = tt;
  operands = operands_in;
  begins = (omega arith, refl);
  goes_on = goes_on;
}
  where
    operands_in : (at : ℕ) (i : Instr) → slice_get empty.code at ≡ Some i → AreOperands empty i
    operands_in zero i e = subst (AreOperands empty) (same_Some _ i e) (refl, tt)
    operands_in (suc at) i e = absurd (none-some i e)

    goes_on : (at : ℕ) (i : Instr) → slice_get empty.code at ≡ Some i → Waits empty (waits_of empty) at i
    goes_on zero i e = subst (Waits empty (waits_of empty) zero) (same_Some _ i e) refl
    goes_on (suc at) i e = absurd (none-some i e)

-- the same of parts that are equal
pub empty_as : (ws : List ℕ) (code : List Instr) → ws ≡ [] → code ≡ empty.code
    → IsSound (record { method = None; params = 0; result = 0; widths = ws; code = code })
empty_as ws code e h =
    subst (λ z. IsSound (record { method = None; params = 0; result = 0; widths = z; code = code })) (sym e)
    (subst (λ z. IsSound (record { method = None; params = 0; result = 0; widths = []; code = z })) (sym h) empty_sound)

-- ---- that they stand where they are called

-- what is said of each of the four
each : (P : ℕ → Type 0) → P 0 → P 1 → P 2 → P 3 → (which : ℕ) → which < 4 → P which
each P a b c d zero h = a
each P a b c d (suc zero) h = b
each P a b c d (suc (suc zero)) h = c
each P a b c d (suc (suc (suc zero))) h = d
each P a b c d (suc (suc (suc (suc n)))) h = absurd (omega (arith, h))

-- a routine calls nothing, and neither does the procedure in its place
none_called : (number which : ℕ) → which < 4 → (called : Bool) → code_calls number (routine_or_empty called which).code ≡ false
none_called number which h true =
    each (λ w. code_calls number (routine_with w).code ≡ false) refl refl refl refl which h
none_called number which h false = refl

none_by_four : (number first : ℕ) (ps : List Procedure) → is_called number (four_for first ps) ≡ false
none_by_four number first ps =
    four (of 0 (omega arith)) (of 1 (omega arith)) (of 2 (omega arith)) (of 3 (omega arith))
  where
    of : (which : ℕ) → which < 4 → code_calls number (standing first ps which).code ≡ false
    of which h = none_called number which h (is_called (first + which) ps)

    four : {a b c d : Bool} → a ≡ false → b ≡ false → c ≡ false → d ≡ false → (a || (b || (c || (d || false)))) ≡ false
    four {b = b} {c = c} {d = d} ea eb ec ed =
        ap (λ z. z || (b || (c || (d || false)))) ea ∙ (ap (λ z. z || (c || (d || false))) eb ∙ (ap (λ z. z || (d || false)) ec ∙ ap (λ z. z || false) ed))

-- so where it is called at all, one of the procedures before them does
called_before : (number first : ℕ) (old : List Procedure) → is_called number (old ++ four_for first old) ≡ true → is_called number old ≡ true
called_before number first old h = by (is_called number old) (sym (list_any-append (λ (m : Procedure). code_calls number m.code) old (four_for first old)) ∙ h)
  where
    by : (b : Bool) → (b || is_called number (four_for first old)) ≡ true → b ≡ true
    by true e = refl
    by false e = sym (none_by_four number first old) ∙ e

is_routine : (which : ℕ) → which < 4 → IsRoutine which (routine_with which)
is_routine = each (λ w. IsRoutine w (routine_with w)) mul_routine divide_routine shl_routine shr_routine

in_four : (first : ℕ) (ps : List Procedure) (which : ℕ) → which < 4 → slice_get (four_for first ps) which ≡ Some (standing first ps which)
in_four first ps = each (λ w. slice_get (four_for first ps) w ≡ Some (standing first ps w)) refl refl refl refl

-- a routine that is called stands at its number
pub routine_there : (first : ℕ) (old new : List Procedure) → WithRoutines first old new → first ≡ length old → (which : ℕ) → which < 4
    → is_called (first + which) new ≡ true → (m : Procedure) × (slice_get new (first + which) ≡ Some m) × IsRoutine which m
routine_there first old new e n which h called = (
  routine_with which,
  ap (λ z. slice_get z (first + which)) e
      ∙ (get_right old (four_for first old) (first + which) which (ap (λ z. z + which) n)
      ∙ (in_four first old which h
      ∙ ap (λ b. Some (routine_or_empty b which)) (called_before (first + which) first old (sym (ap (is_called (first + which)) e) ∙ called)))),
  is_routine which h,
)
