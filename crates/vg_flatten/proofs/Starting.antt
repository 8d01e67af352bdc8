-- That the procedure with which a run begins keeps what every procedure of linear code keeps.
use Rattle.std.specs.Prelude.{ℕ, zero, suc, Bool, true, false, List, [], Some, None, slice_get}
use Rattle.std.proofs.Common.{◌≡◌, ◌≢◌, refl, sym, subst, arith}
use Rattle.vg_lin.specs.declared.instr.Instr.{Instr}
use Rattle.std.specs.List.{AllByRecursion}
use Rattle.vg_lin.specs.Meaning.{operands}
use Rattle.vg_lin.specs.Sound.{IsPassed, AreOperands, behind, Waits, IsSound}
use Rattle.vg_lin.proofs.Scanned.{sound_by}
use Rattle.vg_flatten.specs.Flattened.{main_args, start_of}
use Rattle.vg_flatten_shapes.proofs.Temps.{some_is, none_is_not}

module _ (main : ℕ) (receives : Bool) where
  args : (b : Bool) → AllByRecursion (IsPassed (start_of main receives)) (operands (main_args b))
  args true = (((omega arith, omega arith), tt), tt)
  args false = tt

  operands_in : (at : ℕ) (i : Instr) → slice_get (start_of main receives).code at ≡ Some i → AreOperands (start_of main receives) i
  operands_in zero i e = subst (λ z. AreOperands (start_of main receives) z) (some_is _ i e) (tt, args receives, tt)
  operands_in (suc zero) i e = subst (λ z. AreOperands (start_of main receives) z) (some_is _ i e) tt
  operands_in (suc (suc zero)) i e = subst (λ z. AreOperands (start_of main receives) z) (some_is _ i e) tt
  operands_in (suc (suc (suc at))) i e = none_is_not i e

  goes_on : (at : ℕ) (i : Instr) → slice_get (start_of main receives).code at ≡ Some i → Waits (start_of main receives) (λ z. []) at i
  goes_on zero i e = subst (λ z. Waits (start_of main receives) (λ y. []) zero z) (some_is _ i e) (omega arith, (omega arith, refl))
  goes_on (suc zero) i e = subst (λ z. Waits (start_of main receives) (λ y. []) (suc zero) z) (some_is _ i e) (omega arith, refl)
  goes_on (suc (suc zero)) i e =
      subst (λ z. Waits (start_of main receives) (λ y. []) (suc (suc zero)) z) (some_is _ i e)
      (let ne : 1 ≢ 2 = omega arith in ne, (omega arith, refl))
  goes_on (suc (suc (suc at))) i e = none_is_not i e

  marked : (at : ℕ) (i : Instr) → slice_get (start_of main receives).code at ≡ Some i → [] ≡ behind i []
  marked zero i e = subst (λ z. [] ≡ behind z []) (some_is _ i e) refl
  marked (suc zero) i e = subst (λ z. [] ≡ behind z []) (some_is _ i e) refl
  marked (suc (suc zero)) i e = subst (λ z. [] ≡ behind z []) (some_is _ i e) refl
  marked (suc (suc (suc at))) i e = none_is_not i e

  pub start_sound : IsSound (start_of main receives)
  start_sound =
      sound_by (start_of main receives) (λ z. []) (record {
        few = omega arith;
        params = omega arith;
        result = omega arith;
        widths = tt;
        operands = operands_in;
        begins = (omega arith, refl);
        goes_on = goes_on;
        marked = marked;
      })

-- The same of parts that are equal.
pub start_as : (main : ℕ) (receives : Bool) (ws : List ℕ) (code : List Instr) → ws ≡ [] → code ≡ (start_of main receives).code
    → IsSound (record { method = None; params = 0; result = 0; widths = ws; code = code })
start_as main receives ws code e h =
    subst (λ z. IsSound (record { method = None; params = 0; result = 0; widths = z; code = code })) (sym e)
    (subst (λ z. IsSound (record { method = None; params = 0; result = 0; widths = []; code = z })) (sym h) (start_sound main receives))
