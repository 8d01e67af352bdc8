-- What instructions need beside what every procedure of linear code keeps, so that there is code for them.
use Rattle.std.specs.Prelude.{slice_get}
use Rattle.vg_meaning.specs.Device.{IsDeviceAddress}
use Rattle.vg_codes.specs.Dispatch.{cases_of}
use Rattle.vg_lin.specs.declared.instr.Operand.{Operand}
use Rattle.vg_lin.specs.declared.instr.Operator.{Operator}
use Rattle.vg_lin.specs.declared.instr.Operator.TheVariants.{Times, Divide, Remainder}
use Rattle.vg_lin.specs.declared.instr.Plain.{Plain as PlainInstr}
use Rattle.vg_lin.specs.declared.instr.Plain.TheVariants.{Compute, DivideSteps, ReadDevice, WriteDevice, Find}
use Rattle.vg_lin.specs.declared.instr.Instr.{Instr}
use Rattle.vg_lin.specs.declared.instr.Instr.TheVariants.{Plain, Call}
use Rattle.vg_lin.specs.Program.{Program}
use Rattle.vg_templates.specs.Flow.{IsDivided}
use Rattle.vg_followed.specs.Tables.{AreCases}
use Rattle.vg_followed.specs.Covered.{IsFourBytes}

-- Products, quotients and remainders are the routines' work.
abbrev pub IsExpanded : Operator → Type 0
IsExpanded Times = ⊥
IsExpanded Divide = ⊥
IsExpanded Remainder = ⊥
IsExpanded op = Unit {0}

-- What is read and written are device registers, a divisor that is known has four bytes, and the numbers of a dispatch have two.
abbrev pub IsPlainFit : Program → PlainInstr → Type 0
IsPlainFit p (Compute c) = IsExpanded c.operator
IsPlainFit p (DivideSteps r d a) = IsFourBytes a
IsPlainFit p (ReadDevice to address) = IsDeviceAddress address
IsPlainFit p (WriteDevice address a) = IsDeviceAddress address
IsPlainFit p (Find place to a) = AreCases p.codes.code (cases_of (slice_get p.dispatches place))
IsPlainFit p q = Unit {0}

-- And a call whose arguments wait has more than four.
abbrev pub IsFit : Program → Instr → Type 0
IsFit p (Plain q) = IsPlainFit p q
IsFit p (Call c) = IsDivided c
IsFit p i = Unit {0}
