-- Instructions for which there is code: operands are there, and widths are of at most four bytes.
use Rattle.std.specs.Prelude.{ℕ, ◌<◌, ◌≤◌, length, Option, Some, None}
use Rattle.std.specs.List.{AllByRecursion}
use Rattle.vg_lin.specs.declared.instr.Passed.{Passed}
use Rattle.vg_lin.specs.declared.instr.Target.{Target}
use Rattle.vg_lin.specs.declared.instr.Call.{Call as Calling}
use Rattle.vg_lin.specs.declared.instr.Test.{Test}
use Rattle.vg_lin.specs.declared.instr.Plain.{Plain as PlainInstr}
use Rattle.vg_lin.specs.declared.instr.Plain.TheVariants.{Copy, Compute, Product, DivideSteps, Load, Store, ReadDevice, WriteDevice, Push, Pop, Find, CodeOf, Stop}
use Rattle.vg_lin.specs.declared.instr.Instr.{Instr}
use Rattle.vg_lin.specs.declared.instr.Instr.TheVariants.{Plain, When, Unless, Jump, Call, Return, Idle}
use Rattle.vg_lin.specs.Meaning.{operands}
use Rattle.vg_templates.specs.Layouts.{Layout}
use Rattle.vg_put_values.specs.Within.{IsThere}
use Rattle.vg_put_flow.specs.Callees.{IsCalleeThere}

abbrev pub IsIn : Layout → (local : ℕ) → Type 0
IsIn l to = to < length l.widths

abbrev pub IsPlainWithin : Layout → PlainInstr → Type 0
IsPlainWithin l (Copy to a) = IsIn l to × IsThere l a
IsPlainWithin l (Compute c) = (c.width ≤ 4) × IsIn l c.to × IsThere l c.left × IsThere l c.right
IsPlainWithin l (Product to a b) = IsIn l to × IsThere l a × IsThere l b
IsPlainWithin l (DivideSteps r d a) = IsIn l r × IsIn l d × IsThere l a
IsPlainWithin l (Load m w to a) = (w ≤ 4) × IsIn l to × IsThere l a.index
IsPlainWithin l (Store w a from) = (w ≤ 4) × IsThere l a.index × IsThere l from
IsPlainWithin l (ReadDevice to address) = IsIn l to
IsPlainWithin l (WriteDevice address a) = IsThere l a
IsPlainWithin l (Push w a) = (w ≤ 4) × IsThere l a
IsPlainWithin l (Pop w to) = (w ≤ 4) × IsIn l to
IsPlainWithin l (Find dispatch to a) = IsIn l to × IsThere l a
IsPlainWithin l (CodeOf q to) = IsIn l to
IsPlainWithin l (Stop code) = Unit {0}

abbrev pub IsNarrow : Passed → Type 0
IsNarrow a = a.width ≤ 4

abbrev pub IsPassedWithin : Layout → Passed → Type 0
IsPassedWithin l a = (a.width ≤ 4) × IsThere l a.value

abbrev pub IsTargetWithin : Layout → Option Target → Type 0
IsTargetWithin l (Some to) = (to.width ≤ 4) × IsIn l to.local
IsTargetWithin l None = Unit {0}

abbrev pub IsTestWithin : Layout → Test → Type 0
IsTestWithin l t = (t.width ≤ 4) × IsThere l t.left × IsThere l t.right

abbrev pub IsCallWithin : Layout → Calling → Type 0
IsCallWithin l c = AllByRecursion (IsPassedWithin l) (operands c.registers) × IsCalleeThere l c.callee × IsTargetWithin l c.to

abbrev pub IsWithin : Layout → Instr → Type 0
IsWithin l (Plain q) = IsPlainWithin l q
IsWithin l (When t to) = IsTestWithin l t
IsWithin l (Unless t to) = IsTestWithin l t
IsWithin l (Jump to) = Unit {0}
IsWithin l (Call c) = IsCallWithin l c
IsWithin l (Return w a) = (w ≤ 4) × IsThere l a
IsWithin l Idle = Unit {0}
