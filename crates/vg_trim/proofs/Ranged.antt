-- What is said of operands stays true in another procedure with the same locals and as wide a result.
use Rattle.std.specs.Prelude.{ℕ, List, [], ◌∷◌, Option, Some, None}
use Rattle.std.specs.List.{AllByRecursion}
use Rattle.vg_lin.specs.declared.instr.Operand.{Operand}
use Rattle.vg_lin.specs.declared.instr.Operand.TheVariants.{Local, Known}
use Rattle.vg_lin.specs.declared.instr.Test.{Test}
use Rattle.vg_lin.specs.declared.instr.Plain.{Plain as PlainInstr}
use Rattle.vg_lin.specs.declared.instr.Plain.TheVariants.{Copy, Compute, Product, DivideSteps, Load, Store, ReadDevice, WriteDevice, Push, Pop, Find, CodeOf}
use Rattle.vg_lin.specs.declared.instr.Plain.TheVariants.{Stop}
use Rattle.vg_lin.specs.declared.instr.Passed.{Passed}
use Rattle.vg_lin.specs.declared.instr.Target.{Target}
use Rattle.vg_lin.specs.declared.instr.Callee.{Callee}
use Rattle.vg_lin.specs.declared.instr.Callee.TheVariants.{Procedure as ByNumber, Code as ByCode}
use Rattle.vg_lin.specs.declared.instr.Instr.{Instr}
use Rattle.vg_lin.specs.declared.instr.Instr.TheVariants.{Plain, When, Unless, Jump, Call, Return, Idle}
use Rattle.vg_lin.specs.Program.{Procedure}
use Rattle.vg_lin.specs.Meaning.{operands}
use Rattle.vg_lin.specs.Sound.{IsOperand, IsPassed, IsTo, IsTest, IsCallee, IsPlain, AreOperands}
use Rattle.vg_trim.specs.Ranges.{with_locals}

module _ (method : Option ℕ) (params result : ℕ) (widths : List ℕ) (code : List Instr) where
  abbrev p : Procedure
  p = with_locals widths result

  abbrev q : Procedure
  q = record { method = method; params = params; result = result; widths = widths; code = code }

  operand : (a : Operand) → IsOperand p a → IsOperand q a
  operand (Local i) h = h
  operand (Known v) h = h

  test : (t : Test) → IsTest p t → IsTest q t
  test t (w, a, b) = (w, operand t.left a, operand t.right b)

  plain : (i : PlainInstr) → IsPlain p i → IsPlain q i
  plain (Copy to a) (h, g) = (h, operand a g)
  plain (Compute c) (w, h, a, b) = (w, h, operand c.left a, operand c.right b)
  plain (Product to a b) (h, f, g) = (h, operand a f, operand b g)
  plain (DivideSteps r d a) (h, f, n, g) = (h, f, n, operand a g)
  plain (Load m w to a) (h, f, g) = (h, f, operand a.index g)
  plain (Store w a from) (h, f, g) = (h, operand a.index f, operand from g)
  plain (ReadDevice to a) h = h
  plain (WriteDevice to a) h = operand a h
  plain (Push w a) (h, g) = (h, operand a g)
  plain (Pop w to) h = h
  plain (Find d to a) (h, g) = (h, operand a g)
  plain (CodeOf n to) h = h
  plain (Stop c) h = h

  all : (xs : List Passed) → AllByRecursion (IsPassed p) xs → AllByRecursion (IsPassed q) xs
  all [] h = h
  all (x ∷ xs) ((w, h), g) = ((w, operand x.value h), all xs g)

  to_ : (t : Option Target) → IsTo p t → IsTo q t
  to_ (Some t) h = h
  to_ None h = h

  callee : (c : Callee) → IsCallee p c → IsCallee q c
  callee (ByNumber n) h = h
  callee (ByCode a) h = operand a h

  pub ranged : (i : Instr) → AreOperands p i → AreOperands q i
  ranged (Plain i) h = plain i h
  ranged (When t to) h = test t h
  ranged (Unless t to) h = test t h
  ranged (Jump to) h = h
  ranged (Call c) (h, f, g) = (callee c.callee h, all (operands c.registers) f, to_ c.to g)
  ranged (Return w a) (e, h) = (e, operand a h)
  ranged Idle h = h
