-- What waits in sound code has at most four bytes a value.
use Rattle.std.specs.Prelude.{ℕ, zero, suc, ◌≤◌, List, [], ◌∷◌, drop, Some, slice_get}
use Rattle.std.specs.List.{AllByRecursion}
use Rattle.std.proofs.Common.{◌≡◌, refl}
use Rattle.vg_lin.specs.declared.instr.Plain.{Plain as PlainInstr}
use Rattle.vg_lin.specs.declared.instr.Plain.TheVariants.{Copy, Compute, Product, DivideSteps, Load, Store, ReadDevice, WriteDevice, Push, Pop}
use Rattle.vg_lin.specs.declared.instr.Plain.TheVariants.{Find, CodeOf, Stop}
use Rattle.vg_lin.specs.declared.instr.Instr.{Instr}
use Rattle.vg_lin.specs.declared.instr.Instr.TheVariants.{Plain, When, Unless, Jump, Call, Return, Idle}
use Rattle.vg_lin.specs.Program.{Procedure}
use Rattle.vg_lin.specs.Sound.{IsPlain, AreOperands, behind_plain, behind, waits_in, waits_of, IsSound}

abbrev AreNarrow : List ℕ → Type 0
AreNarrow ws = AllByRecursion (λ (w : ℕ). w ≤ 4) ws

narrow_left : (n : ℕ) (ws : List ℕ) → AreNarrow ws → AreNarrow (drop n ws)
narrow_left zero ws h = h
narrow_left (suc n) [] h = tt
narrow_left (suc n) (w ∷ ws) h = narrow_left n ws h.1

module _ (p : Procedure) where
  narrow_plain : (q : PlainInstr) (ws : List ℕ) → IsPlain p q → AreNarrow ws → AreNarrow (behind_plain q ws)
  narrow_plain (Push w a) ws fit h = (fit.0.1, h)
  narrow_plain (Pop w to) ws fit h = narrow_left 1 ws h
  narrow_plain (Copy to a) ws fit h = h
  narrow_plain (Compute c) ws fit h = h
  narrow_plain (Product to a b) ws fit h = h
  narrow_plain (DivideSteps r d a) ws fit h = h
  narrow_plain (Load m w to a) ws fit h = h
  narrow_plain (Store w a from) ws fit h = h
  narrow_plain (ReadDevice to address) ws fit h = h
  narrow_plain (WriteDevice address a) ws fit h = h
  narrow_plain (Find d to a) ws fit h = h
  narrow_plain (CodeOf q to) ws fit h = h
  narrow_plain (Stop code) ws fit h = h

  narrow_behind : (i : Instr) (ws : List ℕ) → AreOperands p i → AreNarrow ws → AreNarrow (behind i ws)
  narrow_behind (Plain q) ws fit h = narrow_plain q ws fit h
  narrow_behind (Call c) ws fit h = narrow_left c.pushed ws h
  narrow_behind (When t to) ws fit h = h
  narrow_behind (Unless t to) ws fit h = h
  narrow_behind (Jump to) ws fit h = h
  narrow_behind (Return w a) ws fit h = h
  narrow_behind Idle ws fit h = h

  narrow_in : (is : List Instr) (ws : List ℕ) (at : ℕ) → ((j : ℕ) (i : Instr) → slice_get is j ≡ Some i → AreOperands p i) → AreNarrow ws
      → AreNarrow (waits_in ws is at)
  narrow_in is ws zero fit h = h
  narrow_in [] ws (suc at) fit h = tt
  narrow_in (i ∷ is) ws (suc at) fit h = narrow_in is (behind i ws) at (λ j k e. fit (suc j) k e) (narrow_behind i ws (fit 0 i refl) h)

pub waits_narrow : (p : Procedure) (at : ℕ) → IsSound p → AllByRecursion (λ (w : ℕ). w ≤ 4) (waits_of p at)
waits_narrow p at s = narrow_in p p.code [] at s.operands tt
