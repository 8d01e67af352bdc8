-- That finders keep what all procedures keep, and that procedures that call them keep it.
use Rattle.std.specs.Prelude.{ℕ, zero, suc, ◌<◌, ◌≤◌, List, [], ◌∷◌, length, map, drop, Option, Some, None, slice_get}
use Rattle.std.specs.Option.{option_map}
use Rattle.std.proofs.Common.{◌≡◌, refl, sym, ap, ◌∙◌, subst, arith}
use Rattle.std.proofs.lemmas.List.{length-map}
use Rattle.std.proofs.lemmas.Option.{slice_get-map, same_Some, none-some}
use Rattle.vg_lin.specs.declared.instr.Plain.{Plain as PlainInstr}
use Rattle.vg_lin.specs.declared.instr.Plain.TheVariants.{Copy, Compute, Product, DivideSteps, Load, Store, ReadDevice, WriteDevice, Push, Pop, Find, CodeOf, Stop}
use Rattle.vg_lin.specs.declared.instr.Instr.{Instr}
use Rattle.vg_lin.specs.declared.instr.Instr.TheVariants.{Plain, When, Unless, Jump, Call, Return, Idle}
use Rattle.vg_lin.specs.Program.{Procedure}
use Rattle.vg_lin.specs.Sound.{IsPlain, AreOperands, behind, waits_in, waits_of, GoesOn, Jumps, PlainWaits, Waits, IsSound}
use Rattle.vg_finding.specs.Finders.{finder, finder_in, looked_up, instr_found, with_finders}

-- ---- finders

pub finder_sound : (d : ℕ) → IsSound (finder d)
finder_sound d = record {
  few = omega arith;
  params = omega arith;
  result = omega arith;
  widths = ((omega arith, omega arith), ((omega arith, omega arith), tt));
  operands = operands_in;
  begins = (omega arith, refl);
  goes_on = goes_on;
}
  where
    operands_in : (at : ℕ) (i : Instr) → slice_get (finder d).code at ≡ Some i → AreOperands (finder d) i
    operands_in zero i e = subst (AreOperands (finder d)) (same_Some _ i e) (omega arith, omega arith)
    operands_in (suc zero) i e = subst (AreOperands (finder d)) (same_Some _ i e) (refl, omega arith)
    operands_in (suc (suc at)) i e = absurd (none-some i e)

    goes_on : (at : ℕ) (i : Instr) → slice_get (finder d).code at ≡ Some i → Waits (finder d) (waits_of (finder d)) at i
    goes_on zero i e = subst (Waits (finder d) (waits_of (finder d)) zero) (same_Some _ i e) (omega arith, refl)
    goes_on (suc zero) i e = subst (Waits (finder d) (waits_of (finder d)) (suc zero)) (same_Some _ i e) refl
    goes_on (suc (suc at)) i e = absurd (none-some i e)

-- ---- procedures that call them

-- what waits behind an instruction waits behind what stands for it
plain_behind : (numbers : List (Option ℕ)) (p : PlainInstr) (held : List ℕ) → behind (instr_found numbers (Plain p)) held ≡ behind (Plain p) held
plain_behind numbers (Copy to a) held = refl
plain_behind numbers (Compute c) held = refl
plain_behind numbers (Product to a b) held = refl
plain_behind numbers (DivideSteps r d a) held = refl
plain_behind numbers (Load m w to a) held = refl
plain_behind numbers (Store w a from) held = refl
plain_behind numbers (ReadDevice to address) held = refl
plain_behind numbers (WriteDevice address a) held = refl
plain_behind numbers (Push w a) held = refl
plain_behind numbers (Pop w to) held = refl
plain_behind numbers (Find d to a) held = by_finder (finder_in numbers d)
  where
    by_finder : (k : Option ℕ) → behind (looked_up k d to a) held ≡ held
    by_finder (Some q) = refl
    by_finder None = refl
plain_behind numbers (CodeOf q to) held = refl
plain_behind numbers (Stop code) held = refl

behind_same : (numbers : List (Option ℕ)) (i : Instr) (held : List ℕ) → behind (instr_found numbers i) held ≡ behind i held
behind_same numbers (Plain p) held = plain_behind numbers p held
behind_same numbers (When t to) held = refl
behind_same numbers (Unless t to) held = refl
behind_same numbers (Jump to) held = refl
behind_same numbers (Call c) held = refl
behind_same numbers (Return w a) held = refl
behind_same numbers Idle held = refl

waits_same : (numbers : List (Option ℕ)) (is : List Instr) (held : List ℕ) (at : ℕ) → waits_in held (map (instr_found numbers) is) at ≡ waits_in held is at
waits_same numbers is held zero = refl
waits_same numbers [] held (suc at) = refl
waits_same numbers (i ∷ is) held (suc at) =
    waits_same numbers is (behind (instr_found numbers i) held) at ∙ ap (λ h. waits_in h is at) (behind_same numbers i held)

module _ (numbers : List (Option ℕ)) (m : Procedure) (sound : IsSound m) where
  abbrev now : Procedure
  now = with_finders numbers m

  abbrev ws : ℕ → List ℕ
  ws = waits_of m

  abbrev new_waits : ℕ → List ℕ
  new_waits = waits_of now

  here : (at : ℕ) → new_waits at ≡ ws at
  here at = waits_same numbers m.code [] at

  long : length now.code ≡ length m.code
  long = length-map m.code (instr_found numbers)

  on : (to : ℕ) (widths : List ℕ) → GoesOn m ws to widths → GoesOn now new_waits to widths
  on to widths (h, e) = (subst (λ n. to < n) (sym long) h, here to ∙ e)

  -- the same where what waits is what waits at a place
  from : (f : List ℕ → List ℕ) (at to : ℕ) → GoesOn m ws to (f (ws at)) → GoesOn now new_waits to (f (new_waits at))
  from f at to g = on to (f (new_waits at)) (subst (λ h. GoesOn m ws to (f h)) (sym (here at)) g)

  plain_waits : (at : ℕ) (p : PlainInstr) → PlainWaits m ws at p → Waits now new_waits at (instr_found numbers (Plain p))
  plain_waits at (Copy to a) g = from (λ h. h) at (suc at) g
  plain_waits at (Compute c) g = from (λ h. h) at (suc at) g
  plain_waits at (Product to a b) g = from (λ h. h) at (suc at) g
  plain_waits at (DivideSteps r d a) g = from (λ h. h) at (suc at) g
  plain_waits at (Load x w to a) g = from (λ h. h) at (suc at) g
  plain_waits at (Store w a b) g = from (λ h. h) at (suc at) g
  plain_waits at (ReadDevice to address) g = from (λ h. h) at (suc at) g
  plain_waits at (WriteDevice address a) g = from (λ h. h) at (suc at) g
  plain_waits at (Push w a) g = from (λ h. w ∷ h) at (suc at) g
  plain_waits at (Pop w to) (rest, e, g) = (rest, here at ∙ e, on (suc at) rest g)
  plain_waits at (Find d to a) g = by_finder (finder_in numbers d)
    where
      by_finder : (k : Option ℕ) → Waits now new_waits at (looked_up k d to a)
      by_finder (Some q) = (omega arith, from (λ h. h) at (suc at) g)
      by_finder None = from (λ h. h) at (suc at) g
  plain_waits at (CodeOf q to) g = from (λ h. h) at (suc at) g
  plain_waits at (Stop code) g = tt {0}

  jumps : (at to : ℕ) → Jumps m ws at to (ws at) → Jumps now new_waits at to (new_waits at)
  jumps at to (n, g) = (n, from (λ h. h) at to g)

  waits : (at : ℕ) (i : Instr) → Waits m ws at i → Waits now new_waits at (instr_found numbers i)
  waits at (Plain p) g = plain_waits at p g
  waits at (When t to) (j, g) = (jumps at to j, from (λ h. h) at (suc at) g)
  waits at (Unless t to) (j, g) = (jumps at to j, from (λ h. h) at (suc at) g)
  waits at (Jump to) j = jumps at to j
  waits at (Call c) (l, g) = (subst (λ h. c.pushed ≤ length h) (sym (here at)) l, from (drop c.pushed) at (suc at) g)
  waits at (Return w a) e = here at ∙ e
  waits at Idle g = from (λ h. h) at (suc at) g

  -- ---- operands

  plain_operands : (p : PlainInstr) → IsPlain m p → AreOperands now (instr_found numbers (Plain p))
  plain_operands (Copy to a) h = h
  plain_operands (Compute c) h = h
  plain_operands (Product to a b) h = h
  plain_operands (DivideSteps r d a) h = h
  plain_operands (Load x w to a) h = h
  plain_operands (Store w a b) h = h
  plain_operands (ReadDevice to address) h = h
  plain_operands (WriteDevice address a) h = h
  plain_operands (Push w a) h = h
  plain_operands (Pop w to) h = h
  plain_operands (Find d to a) h = by_finder (finder_in numbers d)
    where
      by_finder : (k : Option ℕ) → AreOperands now (looked_up k d to a)
      by_finder (Some q) = (tt {0}, (((omega arith, omega arith), h.1), tt {0}), (omega arith, h.0))
      by_finder None = h
  plain_operands (CodeOf q to) h = h
  plain_operands (Stop code) h = h

  operands : (i : Instr) → AreOperands m i → AreOperands now (instr_found numbers i)
  operands (Plain p) h = plain_operands p h
  operands (When t to) h = h
  operands (Unless t to) h = h
  operands (Jump to) h = h
  operands (Call c) h = h
  operands (Return w a) h = h
  operands Idle h = h

  -- each instruction stands for one of before
  abbrev Owes : ℕ → Instr → Type 0
  Owes at i = AreOperands now i × Waits now new_waits at i

  each : (at : ℕ) (i : Instr) → slice_get now.code at ≡ Some i → Owes at i
  each at i e = of (slice_get m.code at) refl (sym (slice_get-map (instr_found numbers) m.code at) ∙ e)
    where
      of : (o : Option Instr) → slice_get m.code at ≡ o → option_map (instr_found numbers) o ≡ Some i → Owes at i
      of (Some k) h g =
          subst (Owes at) (same_Some (instr_found numbers k) i g) (operands k (sound.operands at k h), waits at k (sound.goes_on at k h))
      of None h g = absurd (none-some i g)

  pub found_sound : IsSound (with_finders numbers m)
  found_sound =
      record {
        few = sound.few;
        params = sound.params;
        result = sound.result;
        widths = sound.widths;
        operands = λ at i e. (each at i e).0;
        begins = on 0 [] sound.begins;
        goes_on = λ at i e. (each at i e).1;
      }
