-- That the small procedures keep what every procedure keeps.
use Rattle.std.specs.Prelude.{ℕ, zero, suc, ◌≤◌, ◌<◌, [], ◌∷◌, List, Some, None, slice_get, length}
use Rattle.std.specs.List.{AllByRecursion}
use Rattle.std.proofs.Common.{◌≡◌, refl, sym, subst, arith}
use Rattle.vg_lin.specs.declared.instr.Instr.{Instr}
use Rattle.vg_lin.specs.declared.instr.Operand.TheVariants.{Local}
use Rattle.vg_lin.specs.declared.instr.Plain.TheVariants.{WriteDevice}
use Rattle.vg_lin.specs.declared.instr.Instr.TheVariants.{Plain, Idle, Jump}
use Rattle.vg_lin.specs.Sound.{IsWidth, AreOperands, Waits, IsSound, waits_of}
use Rattle.vg_put_rows.specs.Sample.{idling, sample, pushing, taking, lasting, wide}

same : (x y : Instr) → Some x ≡ Some y → x ≡ y
same x y e = cc

one : IsWidth 1
one = (omega arith, omega arith)

two : IsWidth 2
two = (omega arith, omega arith)

four : IsWidth 4
four = (omega arith, omega arith)

module _ (n : ℕ) (ws : List ℕ) (low : n ≤ length ws) (few : length ws ≤ 9) (all : AllByRecursion IsWidth ws) where
  operands : (at : ℕ) (i : Instr) → slice_get (idling n ws).code at ≡ Some i → AreOperands (idling n ws) i
  operands zero i e = subst (AreOperands (idling n ws)) (same Idle i e) (tt {0})
  operands (suc zero) i e = subst (AreOperands (idling n ws)) (same (Jump 0) i e) (tt {0})
  operands (suc (suc at)) i e = grind arith

  goes_on : (at : ℕ) (i : Instr) → slice_get (idling n ws).code at ≡ Some i → Waits (idling n ws) (waits_of (idling n ws)) at i
  goes_on zero i e = subst (Waits (idling n ws) (waits_of (idling n ws)) 0) (same Idle i e) (omega arith, refl)
  goes_on (suc zero) i e = subst (Waits (idling n ws) (waits_of (idling n ws)) 1) (same (Jump 0) i e) (omega arith, (omega arith, refl))
  goes_on (suc (suc at)) i e = grind arith

  idling_sound : IsSound (idling n ws)
  idling_sound =
      record {
        few = omega (arith, few);
        params = low;
        result = omega arith;
        widths = all;
        operands = operands;
        begins = (omega arith, refl);
        goes_on = goes_on;
      }

  sound_of : (vs : List ℕ) (code : List Instr) → vs ≡ ws → code ≡ (idling n ws).code
      → IsSound (record { method = None; params = n; result = 0; widths = vs; code = code })
  sound_of vs code e h =
      subst (λ z. IsSound (record { method = None; params = n; result = 0; widths = z; code = code })) (sym e)
      (subst (λ z. IsSound (record { method = None; params = n; result = 0; widths = ws; code = z })) (sym h) idling_sound)

pub sound_as : (n : ℕ) → n ≤ 2 → (ws : List ℕ) (code : List Instr) → ws ≡ (sample 0).widths → code ≡ (sample 0).code
    → IsSound (record { method = None; params = n; result = 0; widths = ws; code = code })
sound_as n low = sound_of n (2 ∷ 1 ∷ []) low (omega arith) ((omega arith, omega arith), ((omega arith, omega arith), tt {0}))

pub sound_wide : (ws : List ℕ) (code : List Instr) → ws ≡ wide.widths → code ≡ (sample 0).code
    → IsSound (record { method = None; params = 3; result = 0; widths = ws; code = code })
sound_wide = sound_of 3 wide.widths (omega arith) (omega arith) (four, (four, (one, (four, (four, (two, (four, (two, (two, tt {0})))))))))

pub sound_pushing : (n : ℕ) → n ≤ 4 → (ws : List ℕ) (code : List Instr) → ws ≡ (pushing 0).widths → code ≡ (sample 0).code
    → IsSound (record { method = None; params = n; result = 0; widths = ws; code = code })
sound_pushing n low = sound_of n (4 ∷ 4 ∷ 2 ∷ 1 ∷ []) low (omega arith) (four, (four, (two, (one, tt {0}))))

taking_operands : (at : ℕ) (i : Instr) → slice_get taking.code at ≡ Some i → AreOperands taking i
taking_operands zero i e = subst (AreOperands taking) (same (Plain (WriteDevice 0x38 (Local 1))) i e) (let low : 1 < 2 = omega arith in low)
taking_operands (suc zero) i e = subst (AreOperands taking) (same (Jump 0) i e) (tt {0})
taking_operands (suc (suc at)) i e = grind arith

taking_goes_on : (at : ℕ) (i : Instr) → slice_get taking.code at ≡ Some i → Waits taking (waits_of taking) at i
taking_goes_on zero i e = subst (Waits taking (waits_of taking) 0) (same (Plain (WriteDevice 0x38 (Local 1))) i e) (omega arith, refl)
taking_goes_on (suc zero) i e = subst (Waits taking (waits_of taking) 1) (same (Jump 0) i e) (omega arith, (omega arith, refl))
taking_goes_on (suc (suc at)) i e = grind arith

taking_sound : IsSound taking
taking_sound =
    record {
      few = omega arith;
      params = omega arith;
      result = omega arith;
      widths = (two, (one, tt {0}));
      operands = taking_operands;
      begins = (omega arith, refl);
      goes_on = taking_goes_on;
    }

pub taking_as : (ws : List ℕ) (code : List Instr) → ws ≡ taking.widths → code ≡ taking.code
    → IsSound (record { method = None; params = 2; result = 0; widths = ws; code = code })
taking_as ws code e h =
    subst (λ z. IsSound (record { method = None; params = 2; result = 0; widths = z; code = code })) (sym e)
    (subst (λ z. IsSound (record { method = None; params = 2; result = 0; widths = taking.widths; code = z })) (sym h) taking_sound)

lasting_operands : (at : ℕ) (i : Instr) → slice_get lasting.code at ≡ Some i → AreOperands lasting i
lasting_operands zero i e = subst (AreOperands lasting) (same Idle i e) (tt {0})
lasting_operands (suc zero) i e = subst (AreOperands lasting) (same (Plain (WriteDevice 0x38 (Local 1))) i e) (let low : 1 < 2 = omega arith in low)
lasting_operands (suc (suc zero)) i e = subst (AreOperands lasting) (same (Jump 0) i e) (tt {0})
lasting_operands (suc (suc (suc at))) i e = grind arith

lasting_goes_on : (at : ℕ) (i : Instr) → slice_get lasting.code at ≡ Some i → Waits lasting (waits_of lasting) at i
lasting_goes_on zero i e = subst (Waits lasting (waits_of lasting) 0) (same Idle i e) (omega arith, refl)
lasting_goes_on (suc zero) i e = subst (Waits lasting (waits_of lasting) 1) (same (Plain (WriteDevice 0x38 (Local 1))) i e) (omega arith, refl)
lasting_goes_on (suc (suc zero)) i e = subst (Waits lasting (waits_of lasting) 2) (same (Jump 0) i e) (omega arith, (omega arith, refl))
lasting_goes_on (suc (suc (suc at))) i e = grind arith

lasting_sound : IsSound lasting
lasting_sound =
    record {
      few = omega arith;
      params = omega arith;
      result = omega arith;
      widths = ((omega arith, omega arith), ((omega arith, omega arith), tt {0}));
      operands = lasting_operands;
      begins = (omega arith, refl);
      goes_on = lasting_goes_on;
    }

pub lasting_as : (ws : List ℕ) (code : List Instr) → ws ≡ lasting.widths → code ≡ lasting.code
    → IsSound (record { method = None; params = 0; result = 0; widths = ws; code = code })
lasting_as ws code e h =
    subst (λ z. IsSound (record { method = None; params = 0; result = 0; widths = z; code = code })) (sym e)
    (subst (λ z. IsSound (record { method = None; params = 0; result = 0; widths = lasting.widths; code = z })) (sym h) lasting_sound)
