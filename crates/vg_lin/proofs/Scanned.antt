-- What waits at each place of a sound procedure is told by its code: whoever knows what waits there, and that it is what waits behind the
-- instruction before, has shown the procedure sound.
use Rattle.std.specs.Prelude.{ℕ, zero, suc, ◌<◌, ◌≤◌, List, [], ◌∷◌, length, drop, Some, slice_get}
use Rattle.std.specs.List.{AllByRecursion}
use Rattle.std.proofs.Common.{◌≡◌, refl, sym, ap, ◌∙◌, subst, arith}
use Rattle.std.proofs.lemmas.Option.{slice_get_within}
use Rattle.vg_lin.specs.declared.instr.Plain.{Plain as PlainInstr}
use Rattle.vg_lin.specs.declared.instr.Plain.TheVariants.{Copy, Compute, Product, DivideSteps, Load, Store, ReadDevice, WriteDevice, Push, Pop, Find, CodeOf, Stop}
use Rattle.vg_lin.specs.declared.instr.Instr.{Instr}
use Rattle.vg_lin.specs.declared.instr.Instr.TheVariants.{Plain, When, Unless, Jump, Call, Return, Idle}
use Rattle.vg_lin.specs.Program.{Procedure}
use Rattle.vg_lin.specs.Sound.{IsWidth, AreOperands, behind, waits_in, waits_of, GoesOn, Jumps, PlainWaits, Waits, IsSound}

-- What waits behind each instruction is what it leaves there.
abbrev pub AreMarked : List Instr → (ℕ → List ℕ) → Type 0
AreMarked is w = (at : ℕ) (i : Instr) → slice_get is at ≡ Some i → w (suc at) ≡ behind i (w at)

pub marked_is : (held : List ℕ) (is : List Instr) (w : ℕ → List ℕ) → w 0 ≡ held → AreMarked is w → (at : ℕ) → at ≤ length is → w at ≡ waits_in held is at
marked_is held is w e h zero lt = e
marked_is held [] w e h (suc at) lt = absurd (omega (arith, lt))
marked_is held (i ∷ is) w e h (suc at) lt =
    marked_is (behind i held) is (λ n. w (suc n)) (h 0 i refl ∙ ap (behind i) e) (λ k j f. h (suc k) j f) at (omega (arith, lt))

pub waits_marked : (held : List ℕ) (is : List Instr) → AreMarked is (waits_in held is)
waits_marked held [] at i e = absurd (grind arith)
waits_marked held (j ∷ is) zero i e = ap (λ x. behind x held) (some j i e)
  where
    some : (x y : Instr) → Some x ≡ Some y → x ≡ y
    some x y h = grind arith
waits_marked held (j ∷ is) (suc at) i e = waits_marked (behind j held) is at i e

module _ (p : Procedure) (v w : ℕ → List ℕ) (same : (k : ℕ) → k < length p.code → w k ≡ v k) where
  goes_as : (to : ℕ) (l : List ℕ) → GoesOn p w to l → GoesOn p v to l
  goes_as to l (h, e) = (h, sym (same to h) ∙ e)

  -- also where it is what waits before
  on_as : (at : ℕ) (f : List ℕ → List ℕ) → at < length p.code → GoesOn p w (suc at) (f (w at)) → GoesOn p v (suc at) (f (v at))
  on_as at f h g = goes_as (suc at) (f (v at)) (subst (λ l. GoesOn p w (suc at) (f l)) (same at h) g)

  jumps_as : (at to : ℕ) → at < length p.code → Jumps p w at to (w at) → Jumps p v at to (v at)
  jumps_as at to h (n, g) = (n, goes_as to (v at) (subst (GoesOn p w to) (same at h) g))

  plain_as : (at : ℕ) (q : PlainInstr) → at < length p.code → PlainWaits p w at q → PlainWaits p v at q
  plain_as at (Copy to a) h g = on_as at (λ l. l) h g
  plain_as at (Compute c) h g = on_as at (λ l. l) h g
  plain_as at (Product to a b) h g = on_as at (λ l. l) h g
  plain_as at (DivideSteps r d a) h g = on_as at (λ l. l) h g
  plain_as at (Load m x to a) h g = on_as at (λ l. l) h g
  plain_as at (Store x a from) h g = on_as at (λ l. l) h g
  plain_as at (ReadDevice to a) h g = on_as at (λ l. l) h g
  plain_as at (WriteDevice to a) h g = on_as at (λ l. l) h g
  plain_as at (Push x a) h g = on_as at (λ l. x ∷ l) h g
  plain_as at (Pop x to) h (rest, e, g) = (rest, sym (same at h) ∙ e, goes_as (suc at) rest g)
  plain_as at (Find d to a) h g = on_as at (λ l. l) h g
  plain_as at (CodeOf q to) h g = on_as at (λ l. l) h g
  plain_as at (Stop code) h g = tt {0}

  pub waits_as : (at : ℕ) (i : Instr) → at < length p.code → Waits p w at i → Waits p v at i
  waits_as at (Plain q) h g = plain_as at q h g
  waits_as at (When t to) h (j, g) = (jumps_as at to h j, on_as at (λ l. l) h g)
  waits_as at (Unless t to) h (j, g) = (jumps_as at to h j, on_as at (λ l. l) h g)
  waits_as at (Jump to) h g = jumps_as at to h g
  waits_as at (Call c) h (l, g) = (subst (λ z. c.pushed ≤ length z) (same at h) l, on_as at (drop c.pushed) h g)
  waits_as at (Return x a) h g = sym (same at h) ∙ g
  waits_as at Idle h g = on_as at (λ l. l) h g

-- What is known of a procedure and of what waits at its places makes it a sound one.
pub record IsSoundBy (p : Procedure) (w : ℕ → List ℕ) : Type 0 where
  pub few : length p.widths ≤ 252
  pub params : p.params ≤ length p.widths
  pub result : p.result ≤ 4
  pub widths : AllByRecursion IsWidth p.widths
  pub operands : (at : ℕ) (i : Instr) → slice_get p.code at ≡ Some i → AreOperands p i
  pub begins : GoesOn p w 0 []
  pub goes_on : (at : ℕ) (i : Instr) → slice_get p.code at ≡ Some i → Waits p w at i
  pub marked : AreMarked p.code w

pub sound_by : (p : Procedure) (w : ℕ → List ℕ) → IsSoundBy p w → IsSound p
sound_by p w s =
    record {
      few = s.few;
      params = s.params;
      result = s.result;
      widths = s.widths;
      operands = s.operands;
      begins = goes_as p (waits_of p) w same 0 [] s.begins;
      goes_on = λ at i e. waits_as p (waits_of p) w same at i (slice_get_within p.code at i e) (s.goes_on at i e);
    }
  where
    same : (k : ℕ) → k < length p.code → w k ≡ waits_of p k
    same k h = marked_is [] p.code w s.begins.1 s.marked k (omega (arith, h))
