-- There is code for each instruction of a sound procedure that fits.
use Rattle.std.specs.Prelude.{◌≤◌, List, [], ◌∷◌, Option, Some, None}
use Rattle.std.specs.List.{AllByRecursion}
use Rattle.std.proofs.Common.{arith}
use Rattle.vg_codes.specs.declared.case.Case.{Case}
use Rattle.vg_lin.specs.declared.instr.Callee.{Callee}
use Rattle.vg_lin.specs.declared.instr.Callee.TheVariants.{Procedure as ByNumber, Code as ByCode}
use Rattle.vg_lin.specs.declared.instr.Operand.{Operand}
use Rattle.vg_lin.specs.declared.instr.Operand.TheVariants.{Local, Known}
use Rattle.vg_lin.specs.declared.instr.Passed.{Passed}
use Rattle.vg_lin.specs.declared.instr.Target.{Target}
use Rattle.vg_lin.specs.declared.instr.Test.{Test}
use Rattle.vg_lin.specs.declared.instr.Plain.{Plain as PlainInstr}
use Rattle.vg_lin.specs.declared.instr.Plain.TheVariants.{Copy, Compute, Product, DivideSteps, Load, Store, ReadDevice, WriteDevice, Push, Pop, Find, CodeOf, Stop}
use Rattle.vg_lin.specs.declared.instr.Instr.{Instr}
use Rattle.vg_lin.specs.declared.instr.Instr.TheVariants.{Plain, When, Unless, Jump, Call, Return, Idle}
use Rattle.vg_lin.specs.Meaning.{operands}
use Rattle.vg_lin.specs.Program.{Procedure, Program}
use Rattle.vg_lin.specs.Sound.{IsOperand, IsPassed, IsTo, IsTest, IsCallee, IsPlain, AreOperands}
use Rattle.vg_templates.specs.Layouts.{Layout}
use Rattle.vg_templates.specs.Framed.{framed}
use Rattle.vg_covered.specs.Fitting.{IsPlainFit, IsFit}
use Rattle.vg_put_values.specs.Within.{IsThere}
use Rattle.vg_put_flow.specs.Callees.{IsCalleeThere}
use Rattle.vg_select.specs.Selected.{with_codes}
use Rattle.vg_select.specs.Within.{IsPlainWithin, IsPassedWithin, IsTargetWithin, IsTestWithin, IsWithin}
use Rattle.vg_put_programs.specs.Programs.{AreWithin}
use Rattle.vg_laid.specs.Laid.{AreSound}

module _ (m : Procedure) where
  abbrev l : Layout
  l = framed m

  there : (a : Operand) → IsOperand m a → IsThere l a
  there (Local k) h = h
  there (Known x) h = tt

  callee : (c : Callee) → IsCallee m c → IsCalleeThere l c
  callee (ByNumber q) h = tt
  callee (ByCode a) h = there a h

  passed : (ps : List Passed) → AllByRecursion (IsPassed m) ps → AllByRecursion (IsPassedWithin l) ps
  passed [] h = tt
  passed (a ∷ ps) (h, g) = ((h.0.1, there a.value h.1), passed ps g)

  target : (to : Option Target) → IsTo m to → IsTargetWithin l to
  target (Some to) h = h
  target None h = tt

  test : (t : Test) → IsTest m t → IsTestWithin l t
  test t h = (h.0.1, there t.left h.1, there t.right h.2)

  plain : (p : Program) (i : PlainInstr) → IsPlain m i → IsPlainFit p i → IsPlainWithin l i
  plain p (Copy to a) h f = (h.0, there a h.1)
  plain p (Compute c) (w, to, left, right) f = (w.1, to, there c.left left, there c.right right)
  plain p (Product to a b) (h, x, y) f = (h, there a x, there b y)
  plain p (DivideSteps r d a) (h, k, apart, x) f = (h, k, there a x)
  plain p (Load k w to a) (h, to_there, x) f = (h.1, to_there, there a.index x)
  plain p (Store w a from) (h, x, y) f = (h.1, there a.index x, there from y)
  plain p (ReadDevice to address) h f = h
  plain p (WriteDevice address a) h f = there a h
  plain p (Push w a) h f = (h.0.1, there a h.1)
  plain p (Pop w to) h f = (h.0.1, h.1)
  plain p (Find place to a) h f = (h.0, there a h.1)
  plain p (CodeOf q to) h f = h
  plain p (Stop code) h f = tt

  within : (p : Program) (i : Instr) → m.result ≤ 4 → AreOperands m i → IsFit p i → IsWithin l i
  within p (Plain i) r h f = plain p i h f
  within p (When t to) r h f = test t h
  within p (Unless t to) r h f = test t h
  within p (Jump to) r h f = tt
  within p (Call c) r (h, ps, to) f = (passed (operands c.registers) ps, callee c.callee h, target c.to to)
  within p (Return w a) r h f = (let e = h.0 in omega (arith, e, r), there a h.1)
  within p Idle r h f = tt

pub all_within : (ms : List Procedure) (ds : List (List Case)) → AreSound ms ds → AreWithin ms
all_within ms ds h m procedure is pc i q =
    let s = h.sound m procedure is in
    within procedure (with_codes (λ k. 0) ds) i s.result (s.operands pc i q) (h.fit m procedure is pc i q (λ k. 0) (λ k. omega arith))
