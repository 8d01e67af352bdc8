-- That the smallest procedure keeps what every procedure keeps.
use Rattle.std.specs.Prelude.{ℕ, zero, suc, [], ◌∷◌, List, Some, None, slice_get}
use Rattle.std.proofs.Common.{◌≡◌, refl, sym, subst, arith}
use Rattle.vg_lin.specs.declared.instr.Operand.TheVariants.{Known}
use Rattle.vg_lin.specs.declared.instr.Instr.{Instr}
use Rattle.vg_lin.specs.declared.instr.Instr.TheVariants.{Return}
use Rattle.vg_lin.specs.Sound.{AreOperands, Waits, IsSound, waits_of}
use Rattle.vg_arith.proofs.ShiftRoutines.{some_is}
use Rattle.vg_arith.proofs.Keeping.{sound, a_width}
use Rattle.vg_lin_rows.specs.Smallest.{smallest}
use Rattle.vg_lin_rows.specs.Sample.{sample}

operands : (at : ℕ) (i : Instr) → slice_get smallest.code at ≡ Some i → AreOperands smallest i
operands zero i e = subst (AreOperands smallest) (some_is (Return 0 (Known 0)) i e) (refl, tt {0})
operands (suc at) i e = grind arith

goes_on : (at : ℕ) (i : Instr) → slice_get smallest.code at ≡ Some i → Waits smallest (waits_of smallest) at i
goes_on zero i e = grind arith
goes_on (suc at) i e = grind arith

pub smallest_sound : IsSound smallest
smallest_sound =
    record {
      few = omega arith;
      params = omega arith;
      result = omega arith;
      widths = tt {0};
      operands = operands;
      begins = (omega arith, refl);
      goes_on = goes_on;
    }

pub sound_as : (ws : List ℕ) (code : List Instr) → ws ≡ [] → code ≡ Return 0 (Known 0) ∷ []
    → IsSound (record { method = None; params = 0; result = 0; widths = ws; code = code })
sound_as ws code e h =
    subst (λ z. IsSound (record { method = None; params = 0; result = 0; widths = z; code = code })) (sym e)
    (subst (λ z. IsSound (record { method = None; params = 0; result = 0; widths = []; code = z })) (sym h) smallest_sound)

pub sample_sound : IsSound sample
sample_sound = sound sample (omega arith) (omega arith) (omega arith) (a_width 4 refl, (a_width 4 refl, (a_width 2 refl, tt {0}))) (omega arith) refl

pub sample_sound_as : (ws : List ℕ) (code : List Instr) → ws ≡ sample.widths → code ≡ sample.code
    → IsSound (record { method = None; params = 2; result = 4; widths = ws; code = code })
sample_sound_as ws code e h =
    subst (λ z. IsSound (record { method = None; params = 2; result = 4; widths = z; code = code })) (sym e)
    (subst (λ z. IsSound (record { method = None; params = 2; result = 4; widths = sample.widths; code = z })) (sym h) sample_sound)
